use Rattle.std.proofs.Common.{◌+◌, ◌*◌, ◌≤◌, ◌∙◌, arith}
use Rattle.page_table.specs.Lists.{table_of}
use Rattle.paged_store.proofs.ReadLemmas.{value_within, value_even, value_there}
use Rattle.paged_store.proofs.sight.val.Goals as goal

within : (c : goal.After-body) → c.body.result + 2 * c.args.i + 2 ≤ (table_of c.args.pages.now).reserved
within c = omega (arith, c.body.ensures, value_within _ _ c.args.a c.args.i c.requires.there.stands c.requires.place)

pub overflow_cast-body : goal.overflow_cast-body
overflow_cast-body c = omega (arith, within c)

pub overflow_mul-i : goal.overflow_mul-i
overflow_mul-i c = omega (arith, within c)

pub overflow_add-body : goal.overflow_add-body
overflow_add-body c = omega (arith, within c)

pub value-requires-clause-span : goal.value-requires-clause-span
value-requires-clause-span c = within c

pub value-requires-clause-even : goal.value-requires-clause-even
value-requires-clause-even c = omega (
  arith,
  c.body.ensures,
  value_even _ _ c.args.a c.args.i c.requires.there.stands c.requires.place,
)

pub returns : goal.returns
returns c = c.value.ensures ∙
    value_there _ _ c.args.a c.body.result c.args.i c.requires.there.stands c.requires.place c.body.ensures
