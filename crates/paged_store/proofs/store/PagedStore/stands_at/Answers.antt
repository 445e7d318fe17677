use Rattle.paged_store.proofs.StoreCalls.{stands_is}
use Rattle.paged_store.proofs.store.PagedStore.stands_at.Goals as goal

pub returns : goal.returns
returns c = stands_is c.args.self.now c.args.a.0 c.is_shown.result c.is_shown.ensures
