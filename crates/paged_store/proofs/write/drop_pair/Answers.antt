use Rattle.std.proofs.Common.{◌+◌, ◌-◌, ◌*◌, ◌/◌, ap, ◌∙◌, arith}
use Rattle.page_table.specs.Lists.{table_of}
use Rattle.paged_store.specs.Words.{in_span}
use Rattle.paged_store.specs.inner.Writing.{desk, with_count}
use Rattle.paged_store.proofs.DeskLemmas.{on_err, readied_then, refused_then}
use Rattle.paged_store.proofs.PairWrites.{own_ready, pair_count_ready}
use Rattle.paged_store.proofs.DropWrites.{can_ready, index_ready, pair_ready, body_ready, pair_dropped, places_dropped, puts_ready, can_slots}
use Rattle.paged_store.proofs.write.drop_pair.Goals as goal

pub returns-in_err-ready-clause-err : goal.returns-in_err-ready-clause-err
returns-in_err-ready-clause-err c = on_err _ (places_dropped c.args.k c.args.d c.args.place _ _ _ _
    (desk c.args.pages.now c.args.draft.now) (desk c.ready.new.pages c.ready.new.draft)
    (omega (arith, c.body_place.ensures)) (omega (arith, c.word.ensures)) c.slots-index.ensures.place
    c.slots-index.ensures.size
    (refused_then c.args.k (with_count c.args.d (c.body_place.result + 4 * c.args.place)
    (2 * (c.word.result - 2) - 4 * c.args.place)) (in_span c.slots-index.result.0 c.slots-index.result.1)
    (desk c.args.pages.now c.args.draft.now) (desk c.ready_with_count.new.pages c.ready_with_count.new.draft)
    (desk c.ready.new.pages c.ready.new.draft) c.in_ok-ready_with_count.ensures.ok c.in_err-ready.ensures.err))

pub leave_index-requires-clause-can : goal.leave_index-requires-clause-can
leave_index-requires-clause-can c = can_ready c.args.k c.args.d c.slots-index.result.0 c.slots-index.result.1 _
    (desk c.args.pages.now c.args.draft.now) (desk c.ready.new.pages c.ready.new.draft)
    (readied_then _ _ _ _ _ _ c.in_ok-ready_with_count.ensures.ok c.in_ok-ready.ensures.ok)
    (can_slots c.args.k c.args.d c.slots-index.result.0 c.slots-index.result.1
    (table_of c.args.pages.now) c.slots-index.ensures.place c.slots-index.ensures.size c.requires.slots)

pub leave_index-requires-clause-index : goal.leave_index-requires-clause-index
leave_index-requires-clause-index c = index_ready c.args.k c.args.d _
    (desk c.args.pages.now c.args.draft.now) (desk c.ready.new.pages c.ready.new.draft)
    (readied_then _ _ _ _ _ _ c.in_ok-ready_with_count.ensures.ok c.in_ok-ready.ensures.ok)
    c.requires.index

pub leave_index-requires-clause-pair : goal.leave_index-requires-clause-pair
leave_index-requires-clause-pair c = pair_ready c.args.k c.args.d c.args.place _
    (desk c.args.pages.now c.args.draft.now) (desk c.ready.new.pages c.ready.new.draft)
    (readied_then _ _ _ _ _ _ c.in_ok-ready_with_count.ensures.ok c.in_ok-ready.ensures.ok)
    c.requires.slots.kind c.requires.within

pub copy_words-requires-clause-may : goal.copy_words-requires-clause-may
copy_words-requires-clause-may c =
    body_ready c.args.k c.slots-index.result.0 c.slots-index.result.1 c.args.d
    (c.body_place.result + 4 * c.args.place) (2 * (c.word.result - 2) - 4 * c.args.place)
    (desk c.args.pages.now c.args.draft.now) (desk c.ready.new.pages c.ready.new.draft)
    (table_of c.leave_index.new.pages)
    (readied_then _ _ _ _ _ _ c.in_ok-ready_with_count.ensures.ok c.in_ok-ready.ensures.ok)
    (puts_ready c.args.k c.args.d c.slots-index.result.0 c.slots-index.result.1 _
    (desk c.args.pages.now c.args.draft.now) (desk c.ready.new.pages c.ready.new.draft)
    (readied_then _ _ _ _ _ _ c.in_ok-ready_with_count.ensures.ok c.in_ok-ready.ensures.ok)
    (table_of c.leave_index.new.pages) c.slots-index.ensures.place c.slots-index.ensures.size
    c.leave_index.ensures.puts)
    (omega (
      arith,
      c.in_ok-ready_with_count.ensures.ok.wrote.same.reserved,
      c.in_ok-ready.ensures.ok.wrote.same.reserved,
      c.requires.stands.body,
      c.requires.body,
      c.requires.within,
      c.body_place.ensures,
      c.word.ensures,
    ))

pub write_word-requires-clause-own : goal.write_word-requires-clause-own
write_word-requires-clause-own c = ap (λ t. t.own c.args.k ((2 * c.args.d + 1) / 512)) c.copy_words.ensures ∙
    own_ready c.args.k (2 * c.args.d + 1) _ _
    (desk c.args.pages.now c.args.draft.now) (desk c.ready.new.pages c.ready.new.draft)
    (table_of c.leave_index.new.pages)
    (readied_then _ _ _ _ _ _ c.in_ok-ready_with_count.ensures.ok c.in_ok-ready.ensures.ok)
    (pair_count_ready c.args.d _ _ c.slots-index.result.0 c.slots-index.result.1) c.leave_index.ensures.puts.same

pub returns-clause-ok : goal.returns-clause-ok
returns-clause-ok c =
    pair_dropped c.args.k c.args.d c.slots-index.result.0 c.slots-index.result.1
    (c.body_place.result + 4 * c.args.place) (2 * (c.word.result - 2) - 4 * c.args.place) _
    (desk c.args.pages.now c.args.draft.now) (desk c.ready.new.pages c.ready.new.draft)
    (table_of c.leave_index.new.pages) (table_of c.copy_words.new.pages) (table_of c.write_word.new.self)
    (readied_then _ _ _ _ _ _ c.in_ok-ready_with_count.ensures.ok c.in_ok-ready.ensures.ok)
    (puts_ready c.args.k c.args.d c.slots-index.result.0 c.slots-index.result.1 _
    (desk c.args.pages.now c.args.draft.now) (desk c.ready.new.pages c.ready.new.draft)
    (readied_then _ _ _ _ _ _ c.in_ok-ready_with_count.ensures.ok c.in_ok-ready.ensures.ok)
    (table_of c.leave_index.new.pages) c.slots-index.ensures.place c.slots-index.ensures.size
    c.leave_index.ensures.puts) c.copy_words.ensures c.write_word.ensures c.args.place
    (can_slots c.args.k c.args.d c.slots-index.result.0 c.slots-index.result.1
    (table_of c.args.pages.now) c.slots-index.ensures.place c.slots-index.ensures.size c.requires.slots)
    (omega (arith, c.body_place.ensures)) (omega (arith, c.from.ensures, c.word.ensures))
    (omega (arith, c.from.ensures)) c.slots-index.ensures.place c.slots-index.ensures.size c.leave_index.ensures.index
