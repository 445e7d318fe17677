use Rattle.std.proofs.Common.{arith, ◌∙◌, sym, None}
use Rattle.std.proofs.lemmas.Grind.{common_steps}
use Rattle.py_data.specs.declared.record.Got.TheVariants.{Is}
use Rattle.py_data.proofs.Steps.{stop_as}
use Rattle.py_data.proofs.Turns.{until_safe, until_stop, until_more, until_found, until_end}
use Rattle.obj_nest.specs.Ordering.{parts_at, turn_row, listed_row, is_open}
use Rattle.obj_nest.proofs.LevelSteps.{order_safe, order_deep}
use Rattle.obj_nest.proofs.ordering.+ordering.Goals as goal

pub every_turn-turn-requires : goal.every_turn-turn-requires
every_turn-turn-requires g t c =
    let s = until_safe (turn_row (parts_at c.args.levels) c.args.a.0 c.args.b.0) is_open (Is None) c.turns.i c.args.n
    (omega arith) c.turns.invariant in
    let l = c.turns.invariant.live in
    grind (arith, common_steps)

pub every_turn-returns-in_err-first : goal.every_turn-returns-in_err-first
every_turn-returns-in_err-first g t c = stop_as _ _ _ _ _ _
    (until_stop (turn_row (parts_at c.args.levels) c.args.a.0 c.args.b.0) is_open (Is None) _ _ c.turns.i c.args.n
    (omega arith) c.turns.invariant c.in_err-first.ensures) c.from_residual.ensures.1

pub every_turn-returns-then-not-goes_on : goal.every_turn-returns-then-not-goes_on
every_turn-returns-then-not-goes_on g t c = until_found (turn_row (parts_at c.args.levels) c.args.a.0 c.args.b.0)
    is_open (Is None) g.met.V.View.lawful _ c.in_ok-first.first c.turns.i c.args.n (omega arith) c.turns.invariant
    c.in_ok-first.ensures (sym c.goes_on.ensures ∙ c.if-not-goes_on.true)

pub every_turn-turns-preserved : goal.every_turn-turns-preserved
every_turn-turns-preserved g t c = until_more (turn_row (parts_at c.args.levels) c.args.a.0 c.args.b.0) is_open
    (Is None) g.met.V.View.lawful _ c.in_ok-first.first c.turns.i c.args.n (omega arith) c.turns.invariant
    c.in_ok-first.ensures (sym c.goes_on.ensures ∙ c.if-not-goes_on.false)

pub every_turn-returns : goal.every_turn-returns
every_turn-returns g t c = until_end (turn_row (parts_at c.args.levels) c.args.a.0 c.args.b.0) is_open (Is None)
    c.turns.i c.args.n (omega arith) c.turns.invariant

pub leveled-listed-requires : goal.leveled-listed-requires
leveled-listed-requires g t c =
    let s = order_safe (λ u. listed_row u c.args.a.0 c.args.b.0) c.args.levels (omega arith) _ _ c.requires.safe in
    let l = c.requires.live in
    grind (arith, common_steps)

pub leveled-returns-then-levels-eq0 : goal.leveled-returns-then-levels-eq0
leveled-returns-then-levels-eq0 g t c = order_deep (λ u. listed_row u c.args.a.0 c.args.b.0) c.args.levels _
    (omega arith) _ _ c.too_deep.ensures
