use Rattle.std.proofs.Common.{arith, ap, sym, ◌∙◌, ◌++◌, ◌∷◌, []}
use Rattle.py_data.specs.Sense.{Meets, Run}
use Rattle.py_data.proofs.AfterLook.{looked_again, starved_again, value_before}
use Rattle.obj_seq.proofs.CollectLoop.{part_next, part_same}
use Rattle.obj_seq.proofs.look.collect.Goals as goal

pub returns-in_err-push : goal.returns-in_err-push
returns-in_err-push g c = starved_again _ _ _ _ _
    (looked_again _ g.met.V.View.lawful c.requires.stands c.turns.invariant.same c.in_ok-val.ensures.0)
    c.from_residual-in_err-push.ensures.1

pub turns-preserved : goal.turns-preserved
turns-preserved g c = record {
  same = looked_again _ g.met.V.View.lawful c.requires.stands c.turns.invariant.same c.in_ok-val.ensures.0;
  items = c.in_ok-push.ensures.ok ∙ ap (λ vs. vs ++ c.in_ok-val.field-0 ∷ []) c.turns.invariant.items ∙
      sym (part_next _ _ _ _ c.turns.auto.k (omega (arith, c.requires.within))
      (value_before g.V.View.sense c.args.a.0 _ _ _ c.turns.k c.turns.invariant.same c.in_ok-val.ensures.1));
  within = omega arith;
}

pub returns : goal.returns
unfolding Meets Run
returns g c = (
  c.turns.invariant.items ∙
      part_same _ c.args.i c.args.j c.turns.k (omega (arith, c.turns.invariant.within)),
  c.turns.invariant.same,
)
