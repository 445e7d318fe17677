use Rattle.std.proofs.Common.{◌<◌, ◌≤◌, ◌+◌, ◌*◌, ◌++◌, ◌∷◌, [], ◌∙◌, length, take, sym, ap, arith}
use Rattle.py_data.specs.Heap.{at, value_at}
use Rattle.py_data.specs.Sense.{Meets, Run}
use Rattle.obj_dict.specs.Listing.{half}
use Rattle.py_data.proofs.AfterLook.{looked_again, starved_again, value_before}
use Rattle.obj_dict.proofs.Halves.{half_next, half_end}
use Rattle.obj_dict.proofs.listing.collect.Goals as goal

pub returns-in_err-push : goal.returns-in_err-push
returns-in_err-push g c = starved_again _ _ _ _ _
    (looked_again _ g.met.V.View.lawful c.requires.stands c.turns.invariant.same c.in_ok-x.ensures.0)
    c.from_residual-in_err-push.ensures.1

pub turns-preserved : goal.turns-preserved
turns-preserved g c =
    let vs = (at (g.V.View.sense.heap c.args.v.now) c.args.d.0).values in
    let less : 2 * c.turns.i + 1 < length vs = omega (arith, c.requires.count) in
    let x = value_before g.V.View.sense c.args.d.0 _ _ _ (2 * c.turns.i + c.offset.result) c.turns.invariant.same
    c.in_ok-x.ensures.1 ∙ ap (λ o. value_at vs (2 * c.turns.i + o)) c.offset.ensures in
    record {
      same = looked_again _ g.met.V.View.lawful c.requires.stands c.turns.invariant.same c.in_ok-x.ensures.0;
      items = c.in_ok-push.ensures.ok ∙ ap (λ l. l ++ c.in_ok-x.x ∷ []) c.turns.invariant.items ∙
          ap (λ y. half c.args.second (take (2 * c.turns.i) vs) ++ y ∷ []) x ∙
          sym (half_next c.args.second vs c.turns.i less);
    }

pub returns : goal.returns
unfolding Meets Run
returns g c =
    let vs = (at (g.V.View.sense.heap c.args.v.now) c.args.d.0).values in
    let less : length vs ≤ 2 * c.turns.i + 1 = omega (arith, c.requires.count) in
    (c.turns.invariant.items ∙ half_end c.args.second vs c.turns.i less, c.turns.invariant.same)
