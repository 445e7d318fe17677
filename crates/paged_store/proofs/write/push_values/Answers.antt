use Rattle.std.proofs.Common.{refl, arith}
use Rattle.page_table.specs.Lists.{table_of}
use Rattle.paged_store.specs.inner.Writing.{desk}
use Rattle.paged_store.proofs.WriteLemmas.{count_own, push_wrote}
use Rattle.paged_store.proofs.write.push_values.Goals as goal

pub write_word-requires-clause-own : goal.write_word-requires-clause-own
write_word-requires-clause-own c = count_own c.args.k c.args.a _ _ _ (desk c.args.pages.now c.args.draft.now)
    (desk c.ready_with_count.new.pages c.ready_with_count.new.draft) (table_of c.put_values.new.pages)
    c.in_ok-ready_with_count.ensures.ok c.put_values.ensures

pub returns-clause-ok : goal.returns-clause-ok
returns-clause-ok c = push_wrote c.args.k c.args.a _ _ _ c.args.vs.now (desk c.args.pages.now c.args.draft.now)
    (desk c.ready_with_count.new.pages c.ready_with_count.new.draft) (table_of c.put_values.new.pages)
    (table_of c.write_word.new.self) (omega (arith, c.body_place.ensures, c.word-count.ensures)) refl
    (omega (arith, c.from.ensures, c.word-count.ensures)) c.in_ok-ready_with_count.ensures.ok c.put_values.ensures
    c.write_word.ensures

pub put_values-requires-clause-even : goal.put_values-requires-clause-even
put_values-requires-clause-even c some =
    (let e = c.requires.stands.formed.even (omega (arith, c.requires.room, some)) in
    omega (arith, e, c.body_place.ensures))
