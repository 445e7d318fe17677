use Rattle.std.proofs.Common.{rules, arith}
use Rattle.std.proofs.lemmas.Grind.{common_steps}
use Rattle.std.proofs.lemmas.Option.{slice_get-get_or}
use Rattle.std.specs.Prelude.{get_or}
use Rattle.py_code.specs.declared.instr.Instr.TheVariants.{Setup}
use Rattle.py_verify.specs.inner.Flows.{effect_of}
use Rattle.py_verify.proofs.Steps.{visit_unfine, visit_back, visit_no_at, visit_yes_at}
use Rattle.py_verify.proofs.typing.visit.Goals as goal

pub returns-then-not-is_fine : goal.returns-then-not-is_fine
returns-then-not-is_fine c =
    visit_unfine c.is_fine.result _ c.args.code.now c.args.place c.args.shapes.now.items
    (get_or c.args.code.now c.args.place Setup) c.in-Some.shape c.if-not-is_fine.true c.is_fine.ensures
    (slice_get-get_or c.args.code.now c.args.place Setup c.requires.within) (grind (arith, common_steps))

pub returns-then-not-is_forward : goal.returns-then-not-is_forward
returns-then-not-is_forward c =
    visit_back c.is_forward.result _ c.args.code.now c.args.place c.args.shapes.now.items
    (get_or c.args.code.now c.args.place Setup) c.in-Some.shape (effect_of c.effect_in-e.result)
    c.effect_in-e.ensures c.if-not-is_forward.true (search rules)
    (slice_get-get_or c.args.code.now c.args.place Setup c.requires.within) (grind (arith, common_steps))

pub returns-then-not-branch : goal.returns-then-not-branch
returns-then-not-branch c =
    visit_no_at c.in_ok-flow.field-0 _ c.args.code.now c.args.place c.args.shapes.now.items _ _ _
    (get_or c.args.code.now c.args.place Setup) c.in-Some.shape (effect_of c.effect_in-e.result) c.target.result
    c.in_ok-there.there c.effect_in-e.ensures c.if-not-branch.true c.requires.long
    (slice_get-get_or c.args.code.now c.args.place Setup c.requires.within) (grind (arith, common_steps))
    c.target.ensures c.in_ok-there.ensures c.in_ok-flow.ensures

pub returns : goal.returns
returns c =
    visit_yes_at c.in_ok-flow.field-0 c.in_ok-fits.fits c.is_forward.result _ c.args.code.now c.args.place
    c.args.shapes.now.items _ _ _ _ _ (get_or c.args.code.now c.args.place Setup) c.in-Some.shape
    (effect_of c.effect_in-e.result) c.target.result c.in_ok-there.there c.next.result c.in_ok-after.after
    c.effect_in-e.ensures c.if-not-branch.false c.requires.long (c.is_fine.ensures.0 c.if-not-is_fine.false)
    c.if-not-is_forward.false (search rules)
    (slice_get-get_or c.args.code.now c.args.place Setup c.requires.within) (grind (arith, common_steps))
    c.target.ensures c.in_ok-there.ensures c.next.ensures c.in_ok-after.ensures c.in_ok-flow.ensures
    c.in_ok-fits.ensures
