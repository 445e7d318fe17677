use Rattle.obj_methods.proofs.SearchLooks as searching
use Rattle.obj_methods.proofs.laws.search_law.Goals as goal

pub returns : goal.returns
returns g c = searching.search_law _ g.D.Demands.rules
