use Rattle.std.proofs.Common.{rules, ◌≡◌, w64, to_z, of_z}
use Rattle.py_step.proofs.Directs.{compare_done}
use Rattle.py_step.proofs.at_once.truth.Goals as goal

pub returns-in-Some-order : goal.returns-in-Some-order
returns-in-Some-order c =
    let first : to_z w64 (of_z w64 c.in-Some.a) ≡ c.in-Some.a = search rules in
    let second : to_z w64 (of_z w64 c.in-Some.b) ≡ c.in-Some.b = search rules in
    compare_done c.args.s.now _ _ _ _ _ _ c.args.op c.in-Some.ensures first second _ c.in-Some-order.ensures
    c.gives.ensures
