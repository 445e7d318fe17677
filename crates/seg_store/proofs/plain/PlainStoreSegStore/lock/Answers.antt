use Rattle.std.proofs.Common.{◌≡◌, OnOk, subst, sym, ◌∙◌}
use Rattle.seg_store.specs.Meaning.{Meaning}
use Rattle.seg_store.specs.Plain.{plain_meaning}
use Rattle.seg_store.proofs.Stores.{lock_again}
use Rattle.seg_store.proofs.plain.PlainStoreSegStore.lock.Goals as goal

pub returns-then-is_some-clause-ok : goal.returns-then-is_some-clause-ok
returns-then-is_some-clause-ok c =
    subst (λ (m : Meaning). OnOk c.note.result (plain_meaning c.note.new.self ≡ m))
    (lock_again (plain_meaning c.args.self.now) c.args.k c.args.a.0 c.holder.result c.holder.ensures
    (sym c.is_some.ensures ∙ c.if-is_some.true) c.requires.free)
    c.note.ensures.ok
