use Rattle.seg_store.proofs.Wanting.{push_wants}
use Rattle.seg_store.proofs.laws.wants_law.Goals as goal

pub returns : goal.returns
returns c = push_wants
