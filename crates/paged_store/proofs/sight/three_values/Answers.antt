use Rattle.std.proofs.Common.{◌+◌, ◌≤◌, arith}
use Rattle.page_table.specs.Lists.{table_of, word_at}
use Rattle.paged_store.proofs.ReadLemmas.{value_span, body_even, value_found, value_in_run}
use Rattle.paged_store.proofs.sight.three_values.Goals as goal

-- three values stand within what is reserved
within : (c : goal.Then-count-ge3) → c.args.body + 6 ≤ (table_of c.args.pages.now).reserved
within c = omega (
  arith,
  value_span _ _ c.args.a c.args.body c.args.count 2 c.requires.there.stands c.requires.count c.requires.body
      (omega (arith, c.if-count-ge3.true)),
)

pub run-requires-clause-span : goal.run-requires-clause-span
run-requires-clause-span c = λ h. within c

pub returns-in-Some-clause-first : goal.returns-in-Some-clause-first
unfolding word_at
returns-in-Some-clause-first c =
    value_in_run _ _ c.args.a c.args.body 6 0 c.in-Some.w.now _ c.requires.there.stands
    (omega (arith, c.requires.count, c.if-count-ge3.true)) c.requires.body c.in-Some.ensures (omega arith)
    c.value_at.ensures

pub returns-in-Some-clause-second : goal.returns-in-Some-clause-second
unfolding word_at
returns-in-Some-clause-second c =
    value_in_run _ _ c.args.a c.args.body 6 1 c.in-Some.w.now _ c.requires.there.stands
    (omega (arith, c.requires.count, c.if-count-ge3.true)) c.requires.body c.in-Some.ensures (omega arith)
    c.value_at-in-Some.ensures

pub returns-in-Some-clause-third : goal.returns-in-Some-clause-third
unfolding word_at
returns-in-Some-clause-third c =
    value_in_run _ _ c.args.a c.args.body 6 2 c.in-Some.w.now _ c.requires.there.stands
    (omega (arith, c.requires.count, c.if-count-ge3.true)) c.requires.body c.in-Some.ensures (omega arith)
    c.value_at-in-Some-2.ensures

pub value_in-requires-clause-span : goal.value_in-requires-clause-span
value_in-requires-clause-span c = λ h.
    value_span _ _ c.args.a c.args.body _ 0 c.requires.there.stands c.requires.count c.requires.body h

pub value_in-requires-clause-even : goal.value_in-requires-clause-even
value_in-requires-clause-even c = λ h.
    body_even _ _ c.args.a c.args.body _ 0 c.requires.there.stands c.requires.count c.requires.body h

pub value_in-requires-2-clause-span : goal.value_in-requires-2-clause-span
value_in-requires-2-clause-span c = λ h.
    value_span _ _ c.args.a c.args.body _ 1 c.requires.there.stands c.requires.count c.requires.body h

pub value_in-requires-2-clause-even : goal.value_in-requires-2-clause-even
value_in-requires-2-clause-even c = λ h.
    body_even _ _ c.args.a c.args.body _ 1 c.requires.there.stands c.requires.count c.requires.body h

pub value_in-requires-3-clause-span : goal.value_in-requires-3-clause-span
value_in-requires-3-clause-span c = λ h.
    value_span _ _ c.args.a c.args.body _ 2 c.requires.there.stands c.requires.count c.requires.body h

pub value_in-requires-3-clause-even : goal.value_in-requires-3-clause-even
value_in-requires-3-clause-even c = λ h.
    body_even _ _ c.args.a c.args.body _ 2 c.requires.there.stands c.requires.count c.requires.body h

pub returns-clause-first : goal.returns-clause-first
returns-clause-first c =
    value_found _ _ c.args.a c.args.body _ 0 c.value_in.result c.requires.there.stands c.requires.count
    c.requires.body c.value_in.ensures.there c.value_in.ensures.none

pub returns-clause-second : goal.returns-clause-second
returns-clause-second c =
    value_found _ _ c.args.a c.args.body _ 1 c.value_in-2.result c.requires.there.stands c.requires.count
    c.requires.body c.value_in-2.ensures.there c.value_in-2.ensures.none

pub returns-clause-third : goal.returns-clause-third
returns-clause-third c =
    value_found _ _ c.args.a c.args.body _ 2 c.value_in-3.result c.requires.there.stands c.requires.count
    c.requires.body c.value_in-3.ensures.there c.value_in-3.ensures.none
