use Rattle.py_tree.proofs.Pages.{one_joint}
use Rattle.py_tree.proofs.writer.push_joints.Goals as goal

pub times-preserved : goal.times-preserved
times-preserved c = one_joint c.times.text c.push.new.self c.push-in-times.new.self _ c.args.n c.times.counter
    c.times-test.true c.in_ok-push.ensures.ok c.in_ok-push-2.ensures.ok c.times.invariant
