use Rattle.obj_seq.proofs.HoldingGather.{seq_holds}
use Rattle.obj_seq.proofs.SteadyRows.{seq_steady}
use Rattle.obj_seq.proofs.laws.holds_law.Goals as goal

pub returns-clause-holds : goal.returns-clause-holds
returns-clause-holds g c = seq_holds g.D.Demands.rules g.D.Demands.stands

pub returns-clause-steady : goal.returns-clause-steady
returns-clause-steady g c = seq_steady _
