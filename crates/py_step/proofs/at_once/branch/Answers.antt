use Rattle.py_step.proofs.Directs.{fall_done, jump_false_done}
use Rattle.py_step.proofs.at_once.branch.Goals as goal

pub returns-in-Bool-true : goal.returns-in-Bool-true
returns-in-Bool-true c = fall_done c.args.s.now _ _ c.args.place _ _ c.operand.ensures c.in-Bool-true.is
    c.in-Bool-true.field-0-test c.passes_on.ensures

pub returns-in-Bool-false : goal.returns-in-Bool-false
returns-in-Bool-false c = jump_false_done c.args.s.now _ _ c.args.place _ _ c.operand.ensures c.in-Bool-false.is
    c.in-Bool-false.field-0-test c.jumps_on.ensures
