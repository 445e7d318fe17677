use Rattle.obj_str.proofs.StrHolds.{str_holds, str_steady}
use Rattle.obj_str.proofs.laws.holds_law.Goals as goal

pub returns-clause-holds : goal.returns-clause-holds
returns-clause-holds g c = str_holds g.D.Demands.rules g.D.Demands.stands

pub returns-clause-steady : goal.returns-clause-steady
returns-clause-steady g c = str_steady _
