use Rattle.std.proofs.Common.{sym, ◌∙◌}
use Rattle.paged_store.proofs.StoreCalls.{segment_marks, look_is}
use Rattle.paged_store.proofs.store.PagedStore.looked_at.Goals as goal

pub marked-requires : goal.marked-requires
marked-requires c = segment_marks c.args.self.now c.args.k c.requires

pub returns : goal.returns
returns c = c.marked.ensures ∙ sym (look_is c.args.self.now c.args.k c.args.a.0)
