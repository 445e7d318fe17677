use Rattle.obj_methods.proofs.SortLooks as sorting
use Rattle.obj_methods.proofs.laws.sorted_law.Goals as goal

pub returns : goal.returns
returns g c = sorting.sorted_law _ g.D.Demands.rules
