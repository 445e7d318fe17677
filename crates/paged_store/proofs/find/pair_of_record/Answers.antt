use Rattle.std.proofs.Common.{◌≡◌, ◌<◌, ◌/◌, ◌*◌, ◌+◌, ◌-◌, length, arith, sym, ◌∙◌}
use Rattle.py_data.specs.declared.value.Value.TheVariants.{Ref}
use Rattle.page_table.specs.Lists.{table_of}
use Rattle.paged_store.specs.Words.{value_of}
use Rattle.paged_store.specs.inner.Sight.{words_seen, record_seen}
use Rattle.paged_store.proofs.FindLemmas.{key_there, key_within, key_even, key_in_words}
use Rattle.paged_store.proofs.ReadLemmas.{value_within}
use Rattle.paged_store.proofs.ValueWords.{value_back}
use Rattle.paged_store.proofs.find.pair_of_record.Goals as goal

inside : (c : goal.In-pairs) →
    c.pairs.i < length (record_seen (table_of c.args.pages.now) c.args.seen c.args.d).values / 2
inside c = omega (arith, c.pairs-test.true, c.requires.pairs)

pub run-requires-clause-span : goal.run-requires-clause-span
run-requires-clause-span c = λ h. omega (
  arith,
  c.requires.body,
  h,
  value_within _ _ c.args.d (2 * c.args.pairs - 1) c.requires.there.stands (omega (arith, c.requires.pairs, h)),
)

pub returns-in-Some : goal.returns-in-Some
returns-in-Some c =
    key_in_words _ _ c.args.d c.args.body c.args.pairs _ _ c.in-Some.words.now (Ref c.args.a) c.pair_in_words.result
    c.requires.there.stands c.requires.body c.requires.pairs c.in-Some.ensures
    ((λ i. value_of (c.tag-first.ensures i) (c.payload-second.ensures i)) ∙
    value_back (Ref c.args.a) c.known_value.ensures)
    c.pair_in_words.ensures

pub pairs-init : goal.pairs-init
pairs-init c = tt

pub overflow_add-body : goal.overflow_add-body
overflow_add-body c = omega (
  arith,
  key_within _ _ c.args.d c.args.body c.pairs.i c.requires.there.stands c.requires.body (inside c),
)

pub overflow_cast-body : goal.overflow_cast-body
overflow_cast-body c = omega (
  arith,
  key_within _ _ c.args.d c.args.body c.pairs.i c.requires.there.stands c.requires.body (inside c),
)

pub two_words-x-requires-clause-span : goal.two_words-x-requires-clause-span
two_words-x-requires-clause-span c = omega (
  arith,
  key_within _ _ c.args.d c.args.body c.pairs.i c.requires.there.stands c.requires.body (inside c),
)

pub two_words-x-requires-clause-even : goal.two_words-x-requires-clause-even
two_words-x-requires-clause-even c =
    key_even _ _ c.args.d c.args.body c.pairs.i c.requires.there.stands c.requires.body (inside c)

pub returns-then-y-second : goal.returns-then-y-second
returns-then-y-second c =
    let w = words_seen (table_of c.args.pages.now) c.args.seen in
    let here : c.pairs.i < length (record_seen (table_of c.args.pages.now) c.args.seen c.args.d).values / 2 =
    omega (arith, c.pairs-test.true, c.requires.pairs) in
    let first : w (c.args.body + 4 * c.pairs.i) ≡ 4 =
    sym c.two_words-x.ensures.first ∙ c.if-x-first.true ∙ c.tag-first.ensures in
    let second : w (c.args.body + 4 * c.pairs.i + 1) ≡ c.args.a.0 =
    sym c.two_words-x.ensures.second ∙ c.if-y-second.true ∙ c.payload-second.ensures in (
      here,
      sym (key_there w _ c.args.d c.args.body c.pairs.i c.requires.there.stands c.requires.body here) ∙
          (λ i. value_of (first i) (second i)) ∙ value_back (Ref c.args.a) c.known_value.ensures,
    )

pub pairs-preserved : goal.pairs-preserved
pairs-preserved c = tt
