use Rattle.stm_workers.proofs.Jobs.{one_job}
use Rattle.stm_workers.proofs.visits.visit.Goals as goal

pub returns-clause-job : goal.returns-clause-job
returns-clause-job g c = one_job g.S.SegStore.meaning c.args.core.now c.go_round.new.core c.go_round.ensures.job
