use Rattle.std.proofs.Common.{ℕ, ◌+◌, ◌*◌, subst, arith}
use Rattle.page_table.specs.Lists.{table_of}
use Rattle.paged_store.specs.Words.{in_span}
use Rattle.paged_store.specs.inner.Written.{put_value}
use Rattle.paged_store.specs.inner.Writing.{desk, Wrote}
use Rattle.paged_store.proofs.WriteLemmas.{wrote_ready, value_off}
use Rattle.paged_store.proofs.write.set_value.Goals as goal

pub returns-clause-ok : goal.returns-clause-ok
returns-clause-ok c =
    let place = c.body_place.result + 2 * c.args.i in
    let P : ℕ → Type 0 = λ z. Wrote c.args.k
    (put_value (z + 2 * c.args.i) c.args.v ((table_of c.args.pages.now).word c.args.k))
    (in_span (z + 2 * c.args.i) 2) (desk c.args.pages.now c.args.draft.now)
    (desk c.put_value.new.pages c.ready.new.draft) in
    subst P c.body_place.ensures (wrote_ready c.args.k (in_span place 2) (desk c.args.pages.now c.args.draft.now)
    (desk c.ready.new.pages c.ready.new.draft) (table_of c.put_value.new.pages) (λ w. put_value place c.args.v w)
    c.in_ok-ready.ensures.ok c.put_value.ensures (λ w p h. value_off place p c.args.v w h))

pub put_value-requires-clause-even : goal.put_value-requires-clause-even
put_value-requires-clause-even c =
    (let e = c.requires.stands.formed.even (omega (arith, c.requires.within)) in omega (arith, e, c.body_place.ensures))
