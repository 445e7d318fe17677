use Rattle.obj_builtins.proofs.Holding.{functions_hold}
use Rattle.obj_builtins.proofs.SteadyRows.{functions_steady}
use Rattle.obj_builtins.proofs.laws.holds_law.Goals as goal

pub returns-clause-holds : goal.returns-clause-holds
returns-clause-holds g c = functions_hold g.D.Demands.rules g.D.Demands.stands

pub returns-clause-steady : goal.returns-clause-steady
returns-clause-steady g c = functions_steady _
