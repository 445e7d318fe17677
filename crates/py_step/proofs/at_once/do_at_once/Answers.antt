use Rattle.py_step.proofs.Directs.{jump_done, try_done, pop_try_done}
use Rattle.py_step.proofs.at_once.do_at_once.Goals as goal

pub returns-in-Jump : goal.returns-in-Jump
returns-in-Jump c = jump_done c.args.s.now _ _ c.args.i c.in-Jump.place c.in-Jump.is c.jumps_on.ensures

pub returns-in-Try : goal.returns-in-Try
returns-in-Try c = try_done c.args.s.now _ _ c.args.i c.in-Try.handler c.in-Try.is c.tries.ensures

pub returns-in-PopTry : goal.returns-in-PopTry
returns-in-PopTry c = pop_try_done c.args.s.now _ _ c.args.i c.in-PopTry.is c.has_tried.ensures
