use Rattle.std.proofs.Common.{◌+◌, ◌*◌, ◌/◌, ap, ◌∙◌, arith}
use Rattle.page_table.specs.Lists.{table_of}
use Rattle.paged_store.specs.Words.{in_span}
use Rattle.paged_store.specs.inner.Writing.{desk, with_count}
use Rattle.paged_store.proofs.DeskLemmas.{on_err, readied_then, refused_then}
use Rattle.paged_store.proofs.PairWrites.{free_within, own_ready, pair_added, pair_refused, pair_count_ready, pair_slot_ready}
use Rattle.paged_store.proofs.write.push_pair.Goals as goal

pub ready-requires-clause-span : goal.ready-requires-clause-span
ready-requires-clause-span c = omega (
  arith,
  free_within _ c.args.d c.free_slot-slot.result c.args.key c.free_slot-slot.ensures,
  c.requires.extent,
  c.in_ok-ready_with_count.ensures.ok.wrote.same.reserved,
)

pub returns-in_err-ready-clause-err : goal.returns-in_err-ready-clause-err
returns-in_err-ready-clause-err c = on_err _ (pair_refused c.args.k c.args.d _ c.free_slot-slot.result c.args.key
    (desk c.args.pages.now c.args.draft.now) (desk c.ready.new.pages c.ready.new.draft)
    (omega (arith, c.body_place.ensures, c.word-count.ensures)) c.free_slot-slot.ensures
    (refused_then c.args.k (with_count c.args.d _ 4) (in_span c.free_slot-slot.result 1)
    (desk c.args.pages.now c.args.draft.now) (desk c.ready_with_count.new.pages c.ready_with_count.new.draft)
    (desk c.ready.new.pages c.ready.new.draft) c.in_ok-ready_with_count.ensures.ok c.in_err-ready.ensures.err))

pub write_word-requires-clause-own : goal.write_word-requires-clause-own
write_word-requires-clause-own c = own_ready c.args.k (2 * c.args.d + 1) _ _ (desk c.args.pages.now c.args.draft.now)
    (desk c.ready.new.pages c.ready.new.draft) (table_of c.put_values.new.pages)
    (readied_then c.args.k (with_count c.args.d _ 4) (in_span c.free_slot-slot.result 1)
    (desk c.args.pages.now c.args.draft.now) (desk c.ready_with_count.new.pages c.ready_with_count.new.draft)
    (desk c.ready.new.pages c.ready.new.draft) c.in_ok-ready_with_count.ensures.ok c.in_ok-ready.ensures.ok)
    (pair_count_ready c.args.d _ 4 c.free_slot-slot.result 1) c.put_values.ensures

pub write_word-requires-2-clause-own : goal.write_word-requires-2-clause-own
write_word-requires-2-clause-own c = ap (λ t. t.own c.args.k (c.free_slot-slot.result / 512)) c.write_word.ensures ∙
    own_ready c.args.k c.free_slot-slot.result _ _ (desk c.args.pages.now c.args.draft.now)
    (desk c.ready.new.pages c.ready.new.draft) (table_of c.put_values.new.pages)
    (readied_then c.args.k (with_count c.args.d _ 4) (in_span c.free_slot-slot.result 1)
    (desk c.args.pages.now c.args.draft.now) (desk c.ready_with_count.new.pages c.ready_with_count.new.draft)
    (desk c.ready.new.pages c.ready.new.draft) c.in_ok-ready_with_count.ensures.ok c.in_ok-ready.ensures.ok)
    (pair_slot_ready c.args.d _ c.free_slot-slot.result 4) c.put_values.ensures

pub returns-clause-ok : goal.returns-clause-ok
returns-clause-ok c = pair_added c.args.k c.args.d _ c.free_slot-slot.result _ _ c.args.key c.args.v
    (desk c.args.pages.now c.args.draft.now) (desk c.ready.new.pages c.ready.new.draft)
    (table_of c.put_values.new.pages) (table_of c.write_word.new.self) (table_of c.write_word-2.new.self)
    (omega (arith, c.body_place.ensures, c.word-count.ensures))
    (omega (arith, c.from.ensures, c.word-count.ensures)) (omega (arith, c.from-2.ensures, c.word-count.ensures))
    c.free_slot-slot.ensures
    (readied_then c.args.k (with_count c.args.d _ 4) (in_span c.free_slot-slot.result 1)
    (desk c.args.pages.now c.args.draft.now) (desk c.ready_with_count.new.pages c.ready_with_count.new.draft)
    (desk c.ready.new.pages c.ready.new.draft) c.in_ok-ready_with_count.ensures.ok c.in_ok-ready.ensures.ok)
    c.put_values.ensures c.write_word.ensures c.write_word-2.ensures

pub put_values-requires-clause-even : goal.put_values-requires-clause-even
put_values-requires-clause-even c some =
    (let e = c.requires.stands.formed.even (omega (arith, c.requires.room, some)) in
    omega (arith, e, c.body_place.ensures))
