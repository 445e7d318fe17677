use Rattle.obj_class.proofs.ClassHolds.{class_holds}
use Rattle.obj_class.proofs.Steadily.{class_steady}
use Rattle.obj_class.proofs.laws.holds_law.Goals as goal

pub returns-clause-holds : goal.returns-clause-holds
returns-clause-holds g c = class_holds g.D.Demands.rules g.D.Demands.stands

pub returns-clause-steady : goal.returns-clause-steady
returns-clause-steady g c = class_steady _
