use Rattle.paged_store.proofs.ReadLemmas.{value_span, body_even, value_found}
use Rattle.paged_store.proofs.sight.find_val.Goals as goal

pub value_in-requires-clause-span : goal.value_in-requires-clause-span
value_in-requires-clause-span c = λ h.
    value_span _ _ c.args.a c.outline-kind.result.2 _ c.args.i c.requires.stands c.outline-kind.ensures.count
    c.outline-kind.ensures.body h

pub value_in-requires-clause-even : goal.value_in-requires-clause-even
value_in-requires-clause-even c = λ h.
    body_even _ _ c.args.a c.outline-kind.result.2 _ c.args.i c.requires.stands c.outline-kind.ensures.count
    c.outline-kind.ensures.body h

pub returns-clause-value : goal.returns-clause-value
returns-clause-value c =
    value_found _ _ c.args.a c.outline-kind.result.2 _ c.args.i c.value_in.result c.requires.stands
    c.outline-kind.ensures.count c.outline-kind.ensures.body c.value_in.ensures.there c.value_in.ensures.none
