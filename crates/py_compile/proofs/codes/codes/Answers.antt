use Rattle.py_compile.proofs.Compiled.{codes_turn}
use Rattle.py_compile.proofs.codes.codes.Goals as goal

pub loop-body-preserved : goal.loop-body-preserved
loop-body-preserved t =
    codes_turn t.args.locals.now t.args.used.now t.args.bodies.now t.loop-body.body-index t.loop-body.number
    t.body-item.result t.index-locals-number.result
    t.loop-body.found t.in_ok-found.found t.loop-body.out t.one_more.new.out
    t.loop-body-test.true t.requires.long t.body-item.is t.index-locals-number.is t.loop-body.invariant
    t.in_ok-found.ensures.large t.in_ok-found.ensures.done
