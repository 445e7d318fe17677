use Rattle.std.proofs.Common.{arith}
use Rattle.py_verify.proofs.Listed.{class_none, class_bad, class_more, class_end}
use Rattle.py_verify.proofs.roots.are_classes.Goals as goal

pub returns-in-None : goal.returns-in-None
returns-in-None c = class_none c.loop-c.c c.loop-c.rest.now c.args.roots.now (omega arith) c.in-None.ensures
    c.loop-c.invariant

pub returns-then-not-is_class : goal.returns-then-not-is_class
returns-then-not-is_class c = class_bad c.is_class.result c.loop-c.c c.loop-c.rest.now c.args.roots.now c.in-Some.r.now
    c.in-Some.more.now (omega arith) c.in-Some.ensures c.is_class.ensures c.if-not-is_class.true c.loop-c.invariant

pub loop-c-preserved : goal.loop-c-preserved
loop-c-preserved c = class_more c.is_class.result c.loop-c.c c.loop-c.rest.now c.args.roots.now c.in-Some.r.now
    c.in-Some.more.now (omega arith) c.in-Some.ensures c.is_class.ensures c.if-not-is_class.false c.loop-c.invariant

pub returns : goal.returns
returns c = class_end c.are_texts.result c.loop-c.c c.loop-c.rest.now c.args.roots.now (omega arith)
    c.are_texts.ensures c.loop-c.invariant
