use Rattle.std.proofs.Common.{false, refl}
use Rattle.obj_class.specs.Telling.{told_row}
use Rattle.py_frames.specs.PrintRows.{named_words, last_words}
use Rattle.py_data.proofs.Steps.{live_after, safe_rest}
use Rattle.py_raises.proofs.prints.named_words.Goals as goal

pub last_words-requires-clause-live : goal.last_words-requires-clause-live
last_words-requires-clause-live g c = live_after g.V.View.sense g.met.V.View.lawful
    (told_row c.args.roots.0 c.args.d.exc false) _ _ _ c.in_ok-got.ensures c.requires.live

pub last_words-requires-clause-safe : goal.last_words-requires-clause-safe
unfolding named_words
last_words-requires-clause-safe g c = safe_rest g.met.V.View.lawful (told_row c.args.roots.0 c.args.d.exc false)
    (λ text. last_words c.args.number c.args.d.line c.args.thread c.args.name.now text) _ _ _ _ c.in_ok-got.ensures
    c.requires.safe refl
