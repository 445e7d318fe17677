use Rattle.std.proofs.Common.{arith, ◌∙◌, sym, true}
use Rattle.std.proofs.lemmas.Grind.{common_steps}
use Rattle.py_data.specs.declared.record.Got.TheVariants.{Is}
use Rattle.py_data.proofs.Steps.{stop_as}
use Rattle.py_data.proofs.Turns.{until_safe, until_stop, until_more, until_found, until_end}
use Rattle.obj_nest.specs.Equal.{equal_levels, equal_under, item_row, pair_row, items_row, pairs_row, is_equal}
use Rattle.obj_nest.proofs.LevelSteps.{level_safe, level_deep}
use Rattle.obj_nest.proofs.EqualSteps.{sought_next}
use Rattle.obj_nest.proofs.equality.+equality.Goals as goal

pub every_item-item-requires : goal.every_item-item-requires
every_item-item-requires g t c =
    let s = until_safe (item_row (equal_levels c.args.levels) c.args.a.0 c.args.b.0) is_equal (Is true) c.turns.i
    c.args.n (omega arith) c.turns.invariant in
    let l = c.turns.invariant.live in
    grind (arith, common_steps)

pub every_item-returns-in_err-first : goal.every_item-returns-in_err-first
every_item-returns-in_err-first g t c = stop_as _ _ _ _ _ _
    (until_stop (item_row (equal_levels c.args.levels) c.args.a.0 c.args.b.0) is_equal (Is true) _ _ c.turns.i c.args.n
    (omega arith) c.turns.invariant c.in_err-first.ensures) c.from_residual.ensures.1

pub every_item-returns-then-not-goes_on : goal.every_item-returns-then-not-goes_on
every_item-returns-then-not-goes_on g t c = until_found (item_row (equal_levels c.args.levels) c.args.a.0 c.args.b.0)
    is_equal (Is true) g.met.V.View.lawful _ c.in_ok-first.first c.turns.i c.args.n (omega arith) c.turns.invariant
    c.in_ok-first.ensures (sym c.goes_on.ensures ∙ c.if-not-goes_on.true)

pub every_item-turns-preserved : goal.every_item-turns-preserved
every_item-turns-preserved g t c = until_more (item_row (equal_levels c.args.levels) c.args.a.0 c.args.b.0) is_equal
    (Is true) g.met.V.View.lawful _ c.in_ok-first.first c.turns.i c.args.n (omega arith) c.turns.invariant
    c.in_ok-first.ensures (sym c.goes_on.ensures ∙ c.if-not-goes_on.false)

pub every_item-returns : goal.every_item-returns
every_item-returns g t c = until_end (item_row (equal_levels c.args.levels) c.args.a.0 c.args.b.0) is_equal (Is true)
    c.turns.i c.args.n (omega arith) c.turns.invariant

pub every_pair-pair-requires : goal.every_pair-pair-requires
every_pair-pair-requires g t c =
    let s = until_safe (pair_row (equal_levels c.args.levels) c.args.a.0 c.args.b.0) is_equal (Is true) c.turns.i
    c.args.n (omega arith) c.turns.invariant in
    let l = c.turns.invariant.live in
    grind (arith, common_steps)

pub every_pair-returns-in_err-first : goal.every_pair-returns-in_err-first
every_pair-returns-in_err-first g t c = stop_as _ _ _ _ _ _
    (until_stop (pair_row (equal_levels c.args.levels) c.args.a.0 c.args.b.0) is_equal (Is true) _ _ c.turns.i c.args.n
    (omega arith) c.turns.invariant c.in_err-first.ensures) c.from_residual.ensures.1

pub every_pair-returns-then-not-goes_on : goal.every_pair-returns-then-not-goes_on
every_pair-returns-then-not-goes_on g t c = until_found (pair_row (equal_levels c.args.levels) c.args.a.0 c.args.b.0)
    is_equal (Is true) g.met.V.View.lawful _ c.in_ok-first.first c.turns.i c.args.n (omega arith) c.turns.invariant
    c.in_ok-first.ensures (sym c.goes_on.ensures ∙ c.if-not-goes_on.true)

pub every_pair-turns-preserved : goal.every_pair-turns-preserved
every_pair-turns-preserved g t c = until_more (pair_row (equal_levels c.args.levels) c.args.a.0 c.args.b.0) is_equal
    (Is true) g.met.V.View.lawful _ c.in_ok-first.first c.turns.i c.args.n (omega arith) c.turns.invariant
    c.in_ok-first.ensures (sym c.goes_on.ensures ∙ c.if-not-goes_on.false)

pub every_pair-returns : goal.every_pair-returns
every_pair-returns g t c = until_end (pair_row (equal_levels c.args.levels) c.args.a.0 c.args.b.0) is_equal (Is true)
    c.turns.i c.args.n (omega arith) c.turns.invariant

pub leveled_items-items-requires : goal.leveled_items-items-requires
leveled_items-items-requires g t c =
    let s = level_safe equal_under (λ u. items_row u c.args.a.0 c.args.b.0) c.args.levels (omega arith) _ _
    c.requires.safe in
    let l = c.requires.live in
    grind (arith, common_steps)

pub leveled_items-returns-then-levels-eq0 : goal.leveled_items-returns-then-levels-eq0
leveled_items-returns-then-levels-eq0 g t c = level_deep equal_under (λ u. items_row u c.args.a.0 c.args.b.0)
    c.args.levels _ (omega arith) _ _ c.too_deep.ensures

pub leveled_pairs-pairs-requires : goal.leveled_pairs-pairs-requires
leveled_pairs-pairs-requires g t c =
    let s = level_safe equal_under (λ u. pairs_row u c.args.a.0 c.args.b.0) c.args.levels (omega arith) _ _
    c.requires.safe in
    let l = c.requires.live in
    grind (arith, common_steps)

pub leveled_pairs-returns-then-levels-eq0 : goal.leveled_pairs-returns-then-levels-eq0
leveled_pairs-returns-then-levels-eq0 g t c = level_deep equal_under (λ u. pairs_row u c.args.a.0 c.args.b.0)
    c.args.levels _ (omega arith) _ _ c.too_deep.ensures

pub sought-found-requires : goal.sought-found-requires
sought-found-requires g t c =
    let s = sought_next g.met.V.View.lawful (equal_levels c.args.levels) c.args.b.0 c.args.k c.args.x _ _ c.in_ok-o.o
    c.requires.safe c.in_ok-o.ensures.answers in
    let l = g.met.V.View.lawful.live _ _ _ _ c.in_ok-o.ensures.answers in
    let f = c.in_ok-o.ensures.fits in
    grind (arith, common_steps)
