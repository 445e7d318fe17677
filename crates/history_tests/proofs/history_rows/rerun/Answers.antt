use Rattle.std.proofs.Common.{sym, subst}
use Rattle.lock_run.specs.Client.{IsSoundFirst}
use Rattle.py_frames.specs.Laws.{prog_of}
use Rattle.py_frames.specs.Sound.{Sound}
use Rattle.history_tests.proofs.history_rows.rerun.Goals as goal

pub replayed-requires : goal.replayed-requires
replayed-requires g c = subst (λ p. IsSoundFirst (prog_of p) (Sound p)) (sym c.new-client.ensures.program)
    c.new-client.ensures.first
