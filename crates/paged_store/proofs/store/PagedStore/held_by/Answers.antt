use Rattle.paged_store.proofs.StoreCalls.{holder_is}
use Rattle.paged_store.proofs.store.PagedStore.held_by.Goals as goal

pub returns : goal.returns
returns c = holder_is c.args.self.now c.args.a.0 c.holder.result c.holder.ensures
