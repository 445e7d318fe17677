use Rattle.std.proofs.Common.{◌+◌, ◌*◌, length, refl, arith}
use Rattle.page_table.specs.Pages.{Table, new_table}
use Rattle.page_table.specs.Lists.{table_of}
use Rattle.paged_store.specs.Words.{Words}
use Rattle.paged_store.proofs.PutLemmas.{can_at}
use Rattle.paged_store.proofs.GrowWrites.{head_word_small, grow_copies, grow_clears, grow_heads, grow_clear, grow_values, grow_count, grow_puts_all, next_index_is, next_head_is}
use Rattle.paged_store.proofs.grow.write_grown.Goals as goal

-- words and a table that don't matter
abbrev w_any : Words
w_any = λ p. 0

abbrev t_any : Table
t_any = new_table 1 1

pub of-requires : goal.of-requires
of-requires c = omega (arith, c.word.ensures, head_word_small _ c.args.a c.requires.can.grows.stands.formed)

pub copy_words-requires-clause-may : goal.copy_words-requires-clause-may
copy_words-requires-clause-may c = grow_copies c.args.k c.args.a c.args.body c.args.index _
    (table_of c.args.pages.now) c.requires.can c.value_words-words.result c.value_words-words.ensures

pub copy_words-requires-clause-clear : goal.copy_words-requires-clause-clear
copy_words-requires-clause-clear c = grow_clear c.args.k c.args.a c.args.body c.args.index _
    (table_of c.args.pages.now) c.requires.can c.values_place-from.result c.value_words-words.result
    c.values_place-from.ensures.place c.value_words-words.ensures

pub clear_words-requires-clause-may : goal.clear_words-requires-clause-may
clear_words-requires-clause-may c = grow_clears c.args.k c.args.a c.args.body c.args.index _
    (table_of c.args.pages.now) c.requires.can c.size_of.result
    (next_index_is c.word.result _ c.size_of.result c.of.result.index
    c.next-next.result.index c.of.result.kind c.size_of.ensures c.next-next.ensures.index c.of.ensures.kind
    c.of.ensures.index c.word.ensures)
    _ w_any w_any w_any (table_of c.copy_words.new.pages) t_any t_any t_any c.copy_words.ensures

pub put_head-requires-clause-may : goal.put_head-requires-clause-may
put_head-requires-clause-may c = grow_heads c.args.k c.args.a c.args.body c.args.index _ (table_of c.args.pages.now)
    c.requires.can c.size_of.result
    (next_index_is c.word.result _ c.size_of.result c.of.result.index
    c.next-next.result.index c.of.result.kind c.size_of.ensures c.next-next.ensures.index c.of.ensures.kind
    c.of.ensures.index c.word.ensures)
    _ _ w_any w_any (table_of c.copy_words.new.pages) (table_of c.clear_words.new.pages) t_any t_any
    c.copy_words.ensures c.clear_words.ensures

pub put_values-requires-clause-may : goal.put_values-requires-clause-may
put_values-requires-clause-may c = grow_values c.args.k c.args.a c.args.body c.args.index _ (table_of c.args.pages.now)
    c.requires.can c.size_of.result
    (next_index_is c.word.result _ c.size_of.result c.of.result.index
    c.next-next.result.index c.of.result.kind c.size_of.ensures c.next-next.ensures.index c.of.ensures.kind
    c.of.ensures.index c.word.ensures)
    _ _ _ w_any (table_of c.copy_words.new.pages) (table_of c.clear_words.new.pages) (table_of c.put_head.new.pages)
    t_any c.copy_words.ensures c.clear_words.ensures
    c.put_head.ensures c.value_words-words.result (length c.args.vs.now) c.value_words-words.ensures refl

pub write_word-requires-clause-own : goal.write_word-requires-clause-own
write_word-requires-clause-own c = (can_at c.args.k (2 * c.args.a) 4 1 (table_of c.put_values.new.pages) (omega arith)
    (grow_count c.args.k c.args.a c.args.body c.args.index _ (table_of c.args.pages.now) c.requires.can c.size_of.result
    (next_index_is c.word.result _ c.size_of.result c.of.result.index
    c.next-next.result.index c.of.result.kind c.size_of.ensures c.next-next.ensures.index c.of.ensures.kind
    c.of.ensures.index c.word.ensures)
    _ _ _ _ (table_of c.copy_words.new.pages) (table_of c.clear_words.new.pages) (table_of c.put_head.new.pages)
    (table_of c.put_values.new.pages) c.copy_words.ensures c.clear_words.ensures
    c.put_head.ensures c.put_values.ensures)).1

pub returns : goal.returns
returns c = grow_puts_all c.args.k c.args.a c.args.body c.args.index c.values_place-from.result
    c.value_words-words.result c.size_of.result
    c.word-2.result (c.from.result + length c.args.vs.now) c.args.vs.now (table_of c.args.pages.now)
    (table_of c.copy_words.new.pages) (table_of c.clear_words.new.pages)
    (table_of c.put_head.new.pages) (table_of c.put_values.new.pages) (table_of c.write_word.new.self)
    c.values_place-from.ensures.place
    c.value_words-words.ensures (next_index_is c.word.result _ c.size_of.result c.of.result.index
    c.next-next.result.index c.of.result.kind c.size_of.ensures c.next-next.ensures.index c.of.ensures.kind
    c.of.ensures.index c.word.ensures)
    (next_head_is c.word.result _ c.word-2.result c.of.result.class c.of.result.first c.of.result.index
    c.of.result.kind c.next-next.result c.word-2.ensures
    c.next-next.ensures.kind c.next-next.ensures.class c.next-next.ensures.index c.next-next.ensures.first
    c.of.ensures.kind c.of.ensures.class c.of.ensures.index c.of.ensures.first c.word.ensures)
    (omega (arith, c.value_words-words.ensures, c.from.ensures)) c.copy_words.ensures c.clear_words.ensures
    c.put_head.ensures c.put_values.ensures c.write_word.ensures

pub put_values-requires-clause-even : goal.put_values-requires-clause-even
put_values-requires-clause-even c some =
    (let e = c.requires.can.even some in omega (arith, e, c.value_words-words.ensures))
