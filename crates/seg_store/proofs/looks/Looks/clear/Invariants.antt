use Rattle.std.proofs.Common.{length}
use Rattle.seg_store.proofs.looks.Looks.clear.Given as goal

abbrev pub decreases-listed : goal.decreases-listed
decreases-listed l = length l.self.list.items
