use Rattle.py_step.proofs.Moving.{words_safe, words_moved, words_said, both}
use Rattle.py_step.proofs.step.die.Goals as goal

pub last_words-requires-clause-safe : goal.last_words-requires-clause-safe
last_words-requires-clause-safe g c = words_safe g.V.View.sense c.args.s.now c.args.d _ c.requires.safe

pub returns-in_err-last_words : goal.returns-in_err-last_words
returns-in_err-last_words g c = words_moved g.V.View.sense c.args.s.now c.args.d _ _ _ _ c.in_err-last_words.ensures
    c.from_residual.ensures.1

pub returns : goal.returns
returns g c = words_said g.V.View.sense c.args.s.now c.args.d _ _ (c.end.result, c.end.new.s)
    c.in_ok-last_words.ensures (both _ _ _ _ c.end.ensures.outcome c.end.ensures.state)
