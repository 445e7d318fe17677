use Rattle.std.proofs.Common.{◌∙◌, sym, arith}
use Rattle.paged_store.proofs.ClassLemmas.{class_from_one, class_from_above}
use Rattle.paged_store.proofs.value.class_from.Goals as goal

pub returns-then-n-le1-clause-class : goal.returns-then-n-le1-clause-class
returns-then-n-le1-clause-class c = sym (class_from_one c.args.most c.args.n c.if-n-le1.true)

pub returns-else-n-le1-clause-class : goal.returns-else-n-le1-clause-class
returns-else-n-le1-clause-class c = c.min.ensures ∙ sym (class_from_above c.args.most c.ilog2.result c.args.n
    (omega (arith, c.if-n-le1.false, c.ilog2.ensures.power_le))
    (omega (arith, c.if-n-le1.false, c.ilog2.ensures.next_power_gt)))
