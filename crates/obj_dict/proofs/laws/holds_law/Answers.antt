use Rattle.obj_dict.proofs.Holding.{dict_holds}
use Rattle.obj_dict.proofs.SteadyRows.{dict_steady}
use Rattle.obj_dict.proofs.laws.holds_law.Goals as goal

pub returns-clause-holds : goal.returns-clause-holds
returns-clause-holds g c = dict_holds g.D.Demands.rules g.D.Demands.stands

pub returns-clause-steady : goal.returns-clause-steady
returns-clause-steady g c = dict_steady _
