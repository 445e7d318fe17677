use Rattle.obj_methods.proofs.MethodsHold.{methods_hold}
use Rattle.obj_methods.proofs.SteadyMethods.{methods_steady}
use Rattle.obj_methods.proofs.laws.holds_law.Goals as goal

pub returns-clause-holds : goal.returns-clause-holds
returns-clause-holds g c = methods_hold g.D.Demands.rules g.D.Demands.stands

pub returns-clause-steady : goal.returns-clause-steady
returns-clause-steady g c = methods_steady _
