use Rattle.std.proofs.Common.{false}
use Rattle.obj_threads.proofs.Quiet.{calls_calm}
use Rattle.obj_threads.proofs.ThreadsHold.{threads_hold}
use Rattle.obj_threads.proofs.laws.holds_law.Goals as goal

pub returns-clause-holds : goal.returns-clause-holds
returns-clause-holds g c = threads_hold g.D.Demands.rules g.D.Demands.stands

pub returns-clause-steady : goal.returns-clause-steady
returns-clause-steady g c = record { call = λ roots me b own args keys. calls_calm _ roots me b own args keys false }
