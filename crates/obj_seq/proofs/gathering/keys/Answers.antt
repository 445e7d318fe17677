use Rattle.std.proofs.Common.{◌<◌, ◌≤◌, ◌+◌, ◌*◌, ◌++◌, ◌∷◌, [], ◌∙◌, length, take, sym, ap, arith}
use Rattle.py_data.specs.Heap.{at}
use Rattle.py_data.specs.declared.record.Got.TheVariants.{Is}
use Rattle.obj_seq.specs.Gather.{keys_of}
use Rattle.py_data.proofs.AfterLook.{looked_again, starved_again, value_before}
use Rattle.obj_seq.proofs.GatherSteps.{stands_asks, ret_is, keys_next, keys_end}
use Rattle.obj_seq.proofs.gathering.keys.Goals as goal

pub len-requires-clause-there : goal.len-requires-clause-there
len-requires-clause-there g c = stands_asks c.requires.stands

pub returns-in_err-push : goal.returns-in_err-push
returns-in_err-push g c = starved_again _ _ _ _ _
    (looked_again _ g.met.V.View.lawful c.requires.stands c.turns.invariant.same c.in_ok-key.ensures.0)
    c.from_residual-in_err-push.ensures.1

pub turns-preserved : goal.turns-preserved
turns-preserved g c =
    let vs = (at (g.V.View.sense.heap c.args.v.now) c.args.a.0).values in
    let less : 2 * c.turns.i + 1 < length vs = omega (arith, c.in_ok-n.ensures.shows.1, c.turns-test.true) in
    let x = value_before g.V.View.sense c.args.a.0 _ _ _ (2 * c.turns.i) c.turns.invariant.same c.in_ok-key.ensures.1 in
    record {
      same = looked_again _ g.met.V.View.lawful c.requires.stands c.turns.invariant.same c.in_ok-key.ensures.0;
      keys = c.in_ok-push.ensures.ok ∙ ap (λ l. l ++ c.in_ok-key.key ∷ []) c.turns.invariant.keys ∙
          ap (λ y. keys_of (take (2 * c.turns.i) vs) ++ y ∷ []) x ∙ sym (keys_next vs c.turns.i less);
    }

pub returns : goal.returns
returns g c =
    let vs = (at (g.V.View.sense.heap c.args.v.now) c.args.a.0).values in
    let less : length vs ≤ 2 * c.turns.i + 1 = omega (arith, c.in_ok-n.ensures.shows.1, c.turns-test.false) in
    ret_is g.V.View.sense _ _ _ _ c.turns.invariant.same
    (ap (λ l. Is l) (c.turns.invariant.keys ∙ keys_end vs c.turns.i less))
