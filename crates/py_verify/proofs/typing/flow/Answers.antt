use Rattle.std.proofs.Common.{rules, arith, refl}
use Rattle.std.proofs.lemmas.Grind.{common_steps}
use Rattle.py_verify.proofs.Steps.{flow_past, flow_known, flow_new}
use Rattle.py_verify.proofs.typing.flow.Goals as goal

pub returns-then-place-len : goal.returns-then-place-len
returns-then-place-len c = flow_past _ c.args.to c.in-Some.place c.args.shape c.in-Some.is (omega arith)

pub returns-in-Some-index : goal.returns-in-Some-index
returns-in-Some-index c = flow_known c.same.result _ _ c.args.to c.in-Some.place c.args.shape c.in-Some-index.found
    c.in-Some.is (grind (arith, common_steps)) c.same.ensures

pub returns : goal.returns
returns c = flow_new _ _ _ _ c.args.to c.in-Some.place c.args.shape c.in-Some.is (omega arith)
    (grind (arith, common_steps)) refl (search rules)
