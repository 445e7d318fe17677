use Rattle.store_bench.proofs.There.{knows_none}
use Rattle.store_bench.proofs.bench.Bench.new.Goals as goal

pub invariant_of-result : goal.invariant_of-result
invariant_of-result g c = record { known = knows_none _ _ c.new-2.ensures }
