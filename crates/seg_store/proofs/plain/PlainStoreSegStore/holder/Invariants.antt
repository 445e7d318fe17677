use Rattle.std.proofs.Common.{◌≡◌, ℕ, ◌<◌, false}
use Rattle.seg_store.specs.Meaning.{holds}
use Rattle.seg_store.proofs.Stores.{meant}
use Rattle.seg_store.proofs.plain.PlainStoreSegStore.holder.Given as goal

abbrev pub invariant-segments : goal.invariant-segments
invariant-segments l = (j : ℕ) → j < l.k → holds ((meant l.self.image.items l.self.hands.items).part j) l.a.0 ≡ false
