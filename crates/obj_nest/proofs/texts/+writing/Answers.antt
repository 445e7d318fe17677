use Rattle.std.proofs.Common.{arith, Ok, subst}
use Rattle.std.proofs.lemmas.Grind.{common_steps}
use Rattle.py_data.specs.Sense.{Meets}
use Rattle.py_data.proofs.Steps.{stop_as}
use Rattle.py_data.proofs.Turns.{each_safe, each_stop, each_more, each_raised, each_end}
use Rattle.py_data.specs.Looking.{each_row}
use Rattle.obj_nest.specs.Text.{write_levels, write_under, part_row, couple_row, list_row, tuple_row, dict_row}
use Rattle.obj_nest.proofs.LevelSteps.{level_safe, level_deep}
use Rattle.obj_nest.proofs.texts.+writing.Goals as goal

pub every_part-part-requires : goal.every_part-part-requires
every_part-part-requires g t c =
    let s = each_safe (part_row (write_levels c.args.levels) c.args.a.0) c.turns.i c.args.n c.turns.text (omega arith)
    c.turns.invariant in
    let l = c.turns.invariant.live in
    grind (arith, common_steps)

pub every_part-returns-in_err-next : goal.every_part-returns-in_err-next
every_part-returns-in_err-next g t c = stop_as _ _ _ _ _ _
    (each_stop (part_row (write_levels c.args.levels) c.args.a.0) _ _ c.turns.i c.args.n c.turns.text (omega arith)
    c.turns.invariant c.in_err-next.ensures) c.from_residual.ensures.1

pub every_part-returns : goal.every_part-returns
every_part-returns g t c = each_end (part_row (write_levels c.args.levels) c.args.a.0) c.turns.i c.args.n c.turns.text
    (omega arith) c.turns.invariant

pub every_part-returns-in-Raise : goal.every_part-returns-in-Raise
every_part-returns-in-Raise g t c =
    let met = subst (λ r. Meets g.V.View.sense
    (part_row (write_levels c.args.levels) c.args.a.0 c.turns.i c.turns.text) c.turns.v c.part.new.v (Ok r))
    c.in-Raise.is c.in_ok-next.ensures in
    each_raised {row = each_row (part_row (write_levels c.args.levels) c.args.a.0) 0 c.args.n c.args.out}
    (part_row (write_levels c.args.levels) c.args.a.0) g.met.V.View.lawful _ c.turns.i c.args.n c.turns.text
    c.in-Raise.e (omega arith) c.turns.invariant met

pub every_part-turns-preserved : goal.every_part-turns-preserved
every_part-turns-preserved g t c =
    let met = subst (λ r. Meets g.V.View.sense
    (part_row (write_levels c.args.levels) c.args.a.0 c.turns.i c.turns.text) c.turns.v c.part.new.v (Ok r))
    c.in-Is.is c.in_ok-next.ensures in
    each_more {row = each_row (part_row (write_levels c.args.levels) c.args.a.0) 0 c.args.n c.args.out}
    (part_row (write_levels c.args.levels) c.args.a.0) g.met.V.View.lawful _ c.turns.i c.args.n c.turns.text
    c.in-Is.t (omega arith) c.turns.invariant met

pub every_couple-couple-requires : goal.every_couple-couple-requires
every_couple-couple-requires g t c =
    let s = each_safe (couple_row (write_levels c.args.levels) c.args.a.0) c.turns.i c.args.n c.turns.text
    (omega arith) c.turns.invariant in
    let l = c.turns.invariant.live in
    grind (arith, common_steps)

pub every_couple-returns-in_err-next : goal.every_couple-returns-in_err-next
every_couple-returns-in_err-next g t c =
    stop_as _ _ _ _ _ _ (each_stop (couple_row (write_levels c.args.levels) c.args.a.0) _ _ c.turns.i c.args.n
    c.turns.text (omega arith) c.turns.invariant c.in_err-next.ensures) c.from_residual.ensures.1

pub every_couple-returns : goal.every_couple-returns
every_couple-returns g t c = each_end (couple_row (write_levels c.args.levels) c.args.a.0) c.turns.i c.args.n
    c.turns.text (omega arith) c.turns.invariant

pub every_couple-returns-in-Raise : goal.every_couple-returns-in-Raise
every_couple-returns-in-Raise g t c =
    let met = subst (λ r. Meets g.V.View.sense
    (couple_row (write_levels c.args.levels) c.args.a.0 c.turns.i c.turns.text) c.turns.v c.couple.new.v (Ok r))
    c.in-Raise.is c.in_ok-next.ensures in
    each_raised {row = each_row (couple_row (write_levels c.args.levels) c.args.a.0) 0 c.args.n c.args.out}
    (couple_row (write_levels c.args.levels) c.args.a.0) g.met.V.View.lawful _ c.turns.i c.args.n c.turns.text
    c.in-Raise.e (omega arith) c.turns.invariant met

pub every_couple-turns-preserved : goal.every_couple-turns-preserved
every_couple-turns-preserved g t c =
    let met = subst (λ r. Meets g.V.View.sense
    (couple_row (write_levels c.args.levels) c.args.a.0 c.turns.i c.turns.text) c.turns.v c.couple.new.v (Ok r))
    c.in-Is.is c.in_ok-next.ensures in
    each_more {row = each_row (couple_row (write_levels c.args.levels) c.args.a.0) 0 c.args.n c.args.out}
    (couple_row (write_levels c.args.levels) c.args.a.0) g.met.V.View.lawful _ c.turns.i c.args.n c.turns.text
    c.in-Is.t (omega arith) c.turns.invariant met

pub leveled_list-list-requires : goal.leveled_list-list-requires
leveled_list-list-requires g t c =
    let s = level_safe write_under (λ u. list_row u c.args.a.0 c.args.out) c.args.levels (omega arith) _ _
    c.requires.safe in
    let l = c.requires.live in
    grind (arith, common_steps)

pub leveled_list-returns-then-levels-eq0 : goal.leveled_list-returns-then-levels-eq0
leveled_list-returns-then-levels-eq0 g t c = level_deep write_under (λ u. list_row u c.args.a.0 c.args.out)
    c.args.levels _ (omega arith) _ _ c.too_deep.ensures

pub leveled_tuple-tuple-requires : goal.leveled_tuple-tuple-requires
leveled_tuple-tuple-requires g t c =
    let s = level_safe write_under (λ u. tuple_row u c.args.a.0 c.args.out) c.args.levels (omega arith) _ _
    c.requires.safe in
    let l = c.requires.live in
    grind (arith, common_steps)

pub leveled_tuple-returns-then-levels-eq0 : goal.leveled_tuple-returns-then-levels-eq0
leveled_tuple-returns-then-levels-eq0 g t c = level_deep write_under (λ u. tuple_row u c.args.a.0 c.args.out)
    c.args.levels _ (omega arith) _ _ c.too_deep.ensures

pub leveled_dict-dict-requires : goal.leveled_dict-dict-requires
leveled_dict-dict-requires g t c =
    let s = level_safe write_under (λ u. dict_row u c.args.a.0 c.args.out) c.args.levels (omega arith) _ _
    c.requires.safe in
    let l = c.requires.live in
    grind (arith, common_steps)

pub leveled_dict-returns-then-levels-eq0 : goal.leveled_dict-returns-then-levels-eq0
leveled_dict-returns-then-levels-eq0 g t c = level_deep write_under (λ u. dict_row u c.args.a.0 c.args.out)
    c.args.levels _ (omega arith) _ _ c.too_deep.ensures
