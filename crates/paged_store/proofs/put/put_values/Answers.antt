use Rattle.std.proofs.Common.{◌*◌, length, arith}
use Rattle.page_table.specs.Lists.{table_of}
use Rattle.py_data.specs.declared.value.Value.TheVariants.{Unset}
use Rattle.paged_store.specs.inner.Writing.{CanPut}
use Rattle.paged_store.proofs.PutLemmas.{can_still, can_part, values_more}
use Rattle.paged_store.proofs.put.put_values.Goals as goal

pub put_value-requires-clause-even : goal.put_value-requires-clause-even
put_value-requires-clause-even c = (let e = c.requires.even (omega (arith, c.values-test.true)) in
    omega (arith, e, c.values.invariant.next))

pub put_value-requires-clause-may : goal.put_value-requires-clause-may
put_value-requires-clause-may c =
    let whole : CanPut c.args.k c.args.place (2 * length c.args.vs.now) (table_of c.values.pages) =
    can_still c.args.k c.args.place (2 * length c.args.vs.now) _ (table_of c.args.pages.now)
    (table_of c.values.pages) c.values.invariant.words c.requires.may in
    can_part c.args.k c.args.place (2 * length c.args.vs.now) c.values.next 2 (table_of c.values.pages) (omega arith)
    (omega arith) whole

pub values-preserved : goal.values-preserved
values-preserved c = record {
  next = omega arith;
  words = values_more c.args.k c.args.place c.values.v-index c.values.next c.args.vs.now Unset
      ((table_of c.args.pages.now).word c.args.k) (table_of c.args.pages.now) (table_of c.values.pages)
      (table_of c.put_value.new.pages) c.values-test.true c.values.invariant.next c.values.invariant.words
      c.put_value.ensures;
}
