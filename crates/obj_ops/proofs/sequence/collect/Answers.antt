use Rattle.std.proofs.Common.{arith, ap, sym, ◌∙◌, ◌++◌, ◌∷◌, [], take}
use Rattle.std.proofs.lemmas.List.{take_more}
use Rattle.py_data.specs.declared.value.Value.TheVariants.{Unset}
use Rattle.py_data.specs.Heap.{at}
use Rattle.py_data.specs.Sense.{Meets, Run}
use Rattle.py_data.proofs.AfterLook.{looked_again, starved_again, value_before}
use Rattle.obj_ops.proofs.Lists.{take_all}
use Rattle.obj_ops.proofs.sequence.collect.Goals as goal

pub returns-in_err-push-clause-met : goal.returns-in_err-push-clause-met
returns-in_err-push-clause-met g c = starved_again _ _ _ _ _
    (looked_again _ g.met.V.View.lawful c.requires.stands c.turns.invariant.same c.in_ok-x.ensures.0)
    c.from_residual-in_err-push.ensures.1

pub turns-preserved : goal.turns-preserved
turns-preserved g c = record {
  same = looked_again _ g.met.V.View.lawful c.requires.stands c.turns.invariant.same c.in_ok-x.ensures.0;
  items = c.in_ok-push.ensures.ok ∙ ap (λ vs. vs ++ c.in_ok-x.x ∷ []) c.turns.invariant.items
      ∙ ap (λ y. take c.turns.i (at (g.V.View.sense.heap c.args.v.now) c.args.a.0).values ++ y ∷ [])
      (value_before g.V.View.sense c.args.a.0 _ _ _ c.turns.i c.turns.invariant.same c.in_ok-x.ensures.1)
      ∙ sym (take_more (at (g.V.View.sense.heap c.args.v.now) c.args.a.0).values c.turns.i Unset
      (omega (arith, c.requires.count)));
}

pub returns-clause-met : goal.returns-clause-met
unfolding Meets Run
returns-clause-met g c = (
  c.turns.invariant.items ∙ take_all (at (g.V.View.sense.heap c.args.v.now) c.args.a.0).values
      c.turns.i (omega (arith, c.requires.count)),
  c.turns.invariant.same,
)
