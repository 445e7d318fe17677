use Rattle.std.proofs.Common.{arith, subst, Ok}
use Rattle.py_data.specs.Heap.{value_at}
use Rattle.py_data.specs.Sense.{Meets}
use Rattle.py_data.proofs.Steps.{stop_as}
use Rattle.obj_methods.specs.Sorting.{word_row}
use Rattle.obj_methods.proofs.Loops.{words_begin, words_safe, words_stop, words_more, words_raised, words_end}
use Rattle.obj_methods.proofs.sorting.read_words.Goals as goal

pub turns-init : goal.turns-init
turns-init g c = words_begin c.args.values.now c.new-words.result c.new-words.ensures c.requires.safe c.requires.live

pub add_at-requires-clause-live : goal.add_at-requires-clause-live
add_at-requires-clause-live g c = c.turns.invariant.live

pub add_at-requires-clause-safe : goal.add_at-requires-clause-safe
add_at-requires-clause-safe g c = words_safe c.args.values.now c.turns.i c.turns.words (omega (arith, c.len-n.ensures))
    c.turns.invariant

pub returns-in_err-next : goal.returns-in_err-next
returns-in_err-next g c = stop_as _ _ _ _ _ _
    (words_stop c.args.values.now _ _ c.turns.i c.turns.words (omega (arith, c.len-n.ensures)) c.turns.invariant
    c.in_err-next.ensures) c.from_residual.ensures.1

pub returns-in-Raise : goal.returns-in-Raise
returns-in-Raise g c =
    words_raised c.args.values.now g.met.V.View.lawful _ c.turns.i c.turns.words c.in-Raise.e
    (omega (arith, c.len-n.ensures)) c.turns.invariant
    (subst (λ r. Meets g.V.View.sense (word_row (value_at c.args.values.now c.turns.i) c.turns.words) c.turns.v
    c.add_at.new.v (Ok r)) c.in-Raise.is c.in_ok-next.ensures)

pub turns-preserved : goal.turns-preserved
turns-preserved g c =
    words_more c.args.values.now g.met.V.View.lawful _ c.turns.i c.turns.words c.in-Is.more
    (omega (arith, c.len-n.ensures)) c.turns.invariant
    (subst (λ r. Meets g.V.View.sense (word_row (value_at c.args.values.now c.turns.i) c.turns.words) c.turns.v
    c.add_at.new.v (Ok r)) c.in-Is.is c.in_ok-next.ensures)

pub returns : goal.returns
returns g c = words_end c.args.values.now c.turns.i c.turns.words (omega (arith, c.len-n.ensures)) c.turns.invariant
