use Rattle.std.proofs.Common.{◌≡◌, ◌+◌, ◌*◌, ◌/◌, ◌≤◌, length, ap, subst, sym, arith}
use Rattle.page_table.specs.Lists.{table_of}
use Rattle.paged_store.specs.Words.{size_of}
use Rattle.paged_store.specs.inner.Writing.{CanPut}
use Rattle.paged_store.proofs.PutLemmas.{can_still}
use Rattle.paged_store.proofs.FillWrites.{can_twice, can_before, fill_puts, fill_is}
use Rattle.paged_store.proofs.fill.fill.Goals as goal

pub put_bytes-requires-clause-may : goal.put_bytes-requires-clause-may
put_bytes-requires-clause-may c =
    let n : length c.as_slice-2.result.now ≡ length c.args.r.now.bytes = ap (λ z. length z) c.as_slice-2.ensures in
    can_before c.args.k c.args.body ((length c.as_slice-2.result.now + 7) / 8) (size_of c.args.header.class)
    (table_of c.put_values.new.pages)
    (subst (λ z. (z + 7) / 8 ≤ size_of c.args.header.class) (sym n) c.requires.bytes)
    (can_still c.args.k c.args.body (size_of c.args.header.class) _ (table_of c.args.pages.now)
    (table_of c.put_values.new.pages) c.put_values.ensures c.requires.may_body)

pub clear_words-requires-clause-may : goal.clear_words-requires-clause-may
clear_words-requires-clause-may c = subst (λ z. CanPut c.args.k c.args.index z (table_of c.put_bytes.new.pages))
    (sym c.size_of.ensures) (can_twice c.args.k c.args.index (size_of c.args.header.index) _ _
    (table_of c.args.pages.now) (table_of c.put_values.new.pages) (table_of c.put_bytes.new.pages) c.put_values.ensures
    c.put_bytes.ensures c.requires.may_index)

pub put_header-requires-clause-may : goal.put_header-requires-clause-may
put_header-requires-clause-may c =
    let two : CanPut c.args.k (2 * c.args.a) 4 (table_of c.put_bytes.new.pages) =
    can_twice c.args.k (2 * c.args.a) 4 _ _ (table_of c.args.pages.now) (table_of c.put_values.new.pages)
    (table_of c.put_bytes.new.pages) c.put_values.ensures c.put_bytes.ensures c.requires.may_head in
    can_still c.args.k (2 * c.args.a) 4 _ (table_of c.put_bytes.new.pages) (table_of c.clear_words.new.pages)
    c.clear_words.ensures two

pub returns : goal.returns
returns c = fill_is c.args.k c.args.a c.args.body c.args.index (table_of c.args.pages.now)
    (table_of c.put_values.new.pages) (table_of c.put_bytes.new.pages) (table_of c.clear_words.new.pages)
    (table_of c.put_header.new.pages) c.word.result c.length_of.result c.size_of.result
    c.as_slice.result.now c.as_slice-2.result.now _ _ _ _ _ c.word.ensures c.length_of.ensures c.size_of.ensures
    c.as_slice.ensures c.as_slice-2.ensures
    (fill_puts c.args.k c.args.a c.args.body c.args.index (table_of c.args.pages.now) (table_of c.put_values.new.pages)
    (table_of c.put_bytes.new.pages) (table_of c.clear_words.new.pages) (table_of c.put_header.new.pages) c.word.result
    c.length_of.result c.size_of.result c.as_slice.result.now
    c.as_slice-2.result.now c.put_values.ensures c.put_bytes.ensures c.clear_words.ensures c.put_header.ensures)

pub put_values-requires-clause-even : goal.put_values-requires-clause-even
put_values-requires-clause-even c some =
    let n : length c.as_slice.result.now ≡ length c.args.r.now.values = ap (λ z. length z) c.as_slice.ensures in
    c.requires.even (omega (arith, n, some))
