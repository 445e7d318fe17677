use Rattle.std.proofs.Common.{arith}
use Rattle.obj_ops.proofs.Loops.{asked_more, asked_all, takes_most}
use Rattle.obj_ops.proofs.format.asked.Goals as goal

pub turns-init : goal.turns-init
turns-init c = record { sum = omega arith; most = omega arith }

pub overflow_add-all : goal.overflow_add-all
overflow_add-all c =
    let one = takes_most c.takes-all.result _ c.takes-all.ensures in
    let m = c.turns.invariant.most in
    grind (arith, one, m)

pub turns-preserved : goal.turns-preserved
turns-preserved c = record {
  sum = asked_more c.args.ps.now c.turns.i c.turns.all c.takes-all.result _ c.turns-test.true c.takes-all.ensures
      c.turns.invariant.sum;
  most = let one = takes_most c.takes-all.result _ c.takes-all.ensures in let m = c.turns.invariant.most in
      omega (arith, one, m);
}

pub returns : goal.returns
returns c = asked_all c.args.ps.now c.turns.i c.turns.all (omega arith) c.turns.invariant.sum
