use Rattle.std.proofs.Common.{◌+◌, ◌-◌, ◌*◌, ◌/◌, ◌<◌, ◌≤◌, length, inl, inr, sym, ◌∙◌, arith}
use Rattle.page_table.specs.Lists.{table_of}
use Rattle.dict_index.proofs.Circle.{slot_zero, next_within}
use Rattle.dict_index.proofs.Walking.{walks_on}
use Rattle.dict_index.proofs.Seeking.{here, none_passed}
use Rattle.paged_store.specs.inner.Sight.{words_seen, record_seen, heap_seen}
use Rattle.paged_store.proofs.FindLemmas.{find_known, no_pairs, pairs_read, key_seen, key_within, key_even, slot_word, pair_there, pair_read, pair_compared, pair_found, key_nowhere}
use Rattle.paged_store.proofs.find.find_key.Goals as goal

pub slots-init : goal.slots-init
slots-init c = record {
  at = λ l. sym (slot_zero _ c.home-start.result c.home-start.ensures.within);
  within = c.home-start.ensures.within;
  passed = none_passed _ _ _ _ _ _;
}

pub returns-in-Some-clause-found : goal.returns-in-Some-clause-found
returns-in-Some-clause-found c =
    here (heap_seen (table_of c.args.pages.now) c.args.seen)
    (record_seen (table_of c.args.pages.now) c.args.seen c.args.d).values c.args.key c.in-Some.pair c.requires.pairs
    c.requires.differ (omega (arith, c.in-Some.ensures.0)) c.in-Some.ensures.1

pub returns-in-Some-clause-heap : goal.returns-in-Some-clause-heap
returns-in-Some-clause-heap c =
    λ h k. returns-in-Some-clause-found c ∙ find_known h _ _ c.args.key k

pub pair_by_record-requires-clause-pairs : goal.pair_by_record-requires-clause-pairs
pair_by_record-requires-clause-pairs c = pairs_read _ c.args.d _ c.requires.kind c.head_words-first.ensures.count

pub returns-then-pairs-eq0-clause-found : goal.returns-then-pairs-eq0-clause-found
returns-then-pairs-eq0-clause-found c =
    no_pairs (heap_seen (table_of c.args.pages.now) c.args.seen)
    (record_seen (table_of c.args.pages.now) c.args.seen c.args.d).values c.args.key
    (sym (pairs_read _ c.args.d _ c.requires.kind c.head_words-first.ensures.count) ∙ c.if-pairs-eq0.true)

pub returns-then-pairs-eq0-clause-heap : goal.returns-then-pairs-eq0-clause-heap
returns-then-pairs-eq0-clause-heap c =
    λ h k. returns-then-pairs-eq0-clause-found c ∙ find_known h _ _ c.args.key k

pub returns-then-word-eq0-clause-found : goal.returns-then-word-eq0-clause-found
returns-then-word-eq0-clause-found c =
    key_nowhere _ c.args.d _ c.args.key c.requires.index c.slots-place.ensures.size c.home-start.result c.slots.j
    c.home-start.ensures.value c.slots.invariant.passed
    (inr (sym (slot_word (words_seen (table_of c.args.pages.now) c.args.seen) c.args.d c.slots-place.result.0 _ _
    c.slots.j c.slots.at c.word-word.result c.slots-place.ensures.place (c.slots.invariant.at c.slots-test.true)
    c.word-word.ensures) ∙ c.if-word-eq0.true))

pub returns-then-word-eq0-clause-heap : goal.returns-then-word-eq0-clause-heap
returns-then-word-eq0-clause-heap c =
    λ h k. returns-then-word-eq0-clause-found c ∙ find_known h _ _ c.args.key k

-- a word that isn't empty is the number of a pair
inside : (c : goal.Else-word-eq0) →
    c.word-word.result - 1 < length (record_seen (table_of c.args.pages.now) c.args.seen c.args.d).values / 2
inside c = pair_there _ c.args.d _ c.args.key c.requires.index c.slots-place.ensures.size
    c.slots-place.result.0 c.slots.at c.word-word.result c.slots-place.ensures.place c.slots.invariant.within
    c.word-word.ensures c.if-word-eq0.false

-- whose key stands within what is reserved
within : (c : goal.Else-word-eq0) →
    c.head_words-first.result.2 + 4 * (c.word-word.result - 1) + 2 ≤ (table_of c.args.pages.now).reserved
within c = key_within _ _ c.args.d c.head_words-first.result.2 _ c.requires.there.stands
    c.head_words-first.ensures.body (inside c)

pub overflow_add-body : goal.overflow_add-body
overflow_add-body c = omega (arith, within c)

pub overflow_cast-body : goal.overflow_cast-body
overflow_cast-body c = omega (arith, within c)

pub value-requires-clause-span : goal.value-requires-clause-span
value-requires-clause-span c = within c

pub value-requires-clause-even : goal.value-requires-clause-even
value-requires-clause-even c = key_even _ _ c.args.d c.head_words-first.result.2 _ c.requires.there.stands
    c.head_words-first.ensures.body (inside c)

pub same-requires-clause-first : goal.same-requires-clause-first
same-requires-clause-first c =
    let read = pair_read _ c.args.d _ c.args.key c.requires.index c.slots-place.ensures.size _
    c.head_words-first.result.2 c.slots-place.result.0 c.slots.at c.word-word.result c.value.result
    c.requires.there.stands c.head_words-first.ensures.body c.slots-place.ensures.place c.slots.invariant.within
    c.word-word.ensures c.if-word-eq0.false c.value.ensures in
    key_seen _ _ _ (c.word-word.result - 1) _ c.requires.keys read.0 read.1

pub returns-then-same-clause-found : goal.returns-then-same-clause-found
returns-then-same-clause-found c =
    let read = pair_read _ c.args.d _ c.args.key c.requires.index c.slots-place.ensures.size _
    c.head_words-first.result.2 c.slots-place.result.0 c.slots.at c.word-word.result c.value.result
    c.requires.there.stands c.head_words-first.ensures.body c.slots-place.ensures.place c.slots.invariant.within
    c.word-word.ensures c.if-word-eq0.false c.value.ensures in
    pair_found _ c.args.d _ c.args.key c.requires.index c.slots-place.ensures.size c.word-word.result c.value.result
    read.1 c.requires.pairs c.requires.differ read.0 (sym c.same.ensures ∙ c.if-same.true)

pub returns-then-same-clause-heap : goal.returns-then-same-clause-heap
returns-then-same-clause-heap c =
    λ h k. returns-then-same-clause-found c ∙ find_known h _ _ c.args.key k

pub slots-preserved : goal.slots-preserved
slots-preserved c =
    let read = pair_read _ c.args.d _ c.args.key c.requires.index c.slots-place.ensures.size _
    c.head_words-first.result.2 c.slots-place.result.0 c.slots.at c.word-word.result c.value.result
    c.requires.there.stands c.head_words-first.ensures.body c.slots-place.ensures.place c.slots.invariant.within
    c.word-word.ensures c.if-word-eq0.false c.value.ensures in
    record {
      at = λ l. walks_on c.slots-place.result.1 c.home-start.result c.slots.j c.slots.at c.next-at.result
          c.home-start.ensures.within (c.slots.invariant.at c.slots-test.true) c.next-at.ensures l;
      within = next_within c.slots-place.result.1 c.slots.at c.next-at.result c.slots.invariant.within
          c.next-at.ensures;
      passed = pair_compared _ c.args.d _ c.args.key c.requires.index c.slots-place.ensures.size
          c.slots-place.result.0 c.slots.at c.word-word.result c.home-start.result c.slots.j c.value.result
          c.slots-place.ensures.place (c.slots.invariant.at c.slots-test.true) c.word-word.ensures read.1
          c.if-word-eq0.false (sym c.same.ensures ∙ c.if-same.false) c.slots.invariant.passed;
    }

pub returns-clause-found : goal.returns-clause-found
returns-clause-found c =
    key_nowhere _ c.args.d _ c.args.key c.requires.index c.slots-place.ensures.size c.home-start.result c.slots.j
    c.home-start.ensures.value c.slots.invariant.passed
    (inl (omega (arith, c.slots.auto.j-end, c.slots-test.false)))

pub returns-clause-heap : goal.returns-clause-heap
returns-clause-heap c =
    λ h k. returns-clause-found c ∙ find_known h _ _ c.args.key k
