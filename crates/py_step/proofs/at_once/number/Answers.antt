use Rattle.std.proofs.Common.{rules, ◌≡◌, w64, to_z, of_z}
use Rattle.py_step.proofs.Directs.{binary_done, in_place_done}
use Rattle.py_step.proofs.at_once.number.Goals as goal

pub returns-in-Some-calculate-clause-binary : goal.returns-in-Some-calculate-clause-binary
returns-in-Some-calculate-clause-binary c =
    let first : to_z w64 (of_z w64 c.in-Some.a) ≡ c.in-Some.a = search rules in
    let second : to_z w64 (of_z w64 c.in-Some.b) ≡ c.in-Some.b = search rules in
    let third : to_z w64 (of_z w64 c.in-Some-calculate.z) ≡ c.in-Some-calculate.z = search rules in
    binary_done c.args.s.now _ _ _ _ _ _ c.args.op c.in-Some.ensures first second _ _ third
    c.in-Some-calculate.ensures c.gives.ensures

pub returns-in-Some-calculate-clause-in_place : goal.returns-in-Some-calculate-clause-in_place
returns-in-Some-calculate-clause-in_place c =
    let first : to_z w64 (of_z w64 c.in-Some.a) ≡ c.in-Some.a = search rules in
    let second : to_z w64 (of_z w64 c.in-Some.b) ≡ c.in-Some.b = search rules in
    let third : to_z w64 (of_z w64 c.in-Some-calculate.z) ≡ c.in-Some-calculate.z = search rules in
    in_place_done c.args.s.now _ _ _ _ _ _ c.args.op c.in-Some.ensures first second _ _ third
    c.in-Some-calculate.ensures c.gives.ensures
