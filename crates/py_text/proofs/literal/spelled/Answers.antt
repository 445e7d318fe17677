use Rattle.py_text.proofs.Spelling.{escape_step, plain_step}
use Rattle.py_text.proofs.literal.spelled.Goals as goal

pub loop-b-preserved-then-b-eq92 : goal.loop-b-preserved-then-b-eq92
loop-b-preserved-then-b-eq92 c = escape_step c.args.body.now c.loop-b.text _ c.loop-b.rest.now c.in-Some.more.now _ _
    c.in-Some-escape_at.found c.in-Some.ensures c.if-b-eq92.true c.in-Some-escape_at.ensures
    c.in_ok-push_written.ensures c.skip-rest.ensures c.loop-b.invariant

pub loop-b-preserved : goal.loop-b-preserved
loop-b-preserved c = plain_step c.args.body.now c.loop-b.text _ c.loop-b.rest.now _ _ c.in-Some.ensures
    c.if-b-eq92.false c.in_ok-push.ensures.ok c.loop-b.invariant
