use Rattle.std.proofs.Common.{sym, subst}
use Rattle.lock_run.specs.Client.{IsSoundFirst}
use Rattle.py_frames.specs.Laws.{prog_of}
use Rattle.py_frames.specs.Sound.{Sound}
use Rattle.script_runs.proofs.again.written_again.Goals as goal

pub written_by-requires : goal.written_by-requires
written_by-requires c = subst (λ p. IsSoundFirst (prog_of p) (Sound p)) (sym c.new-client.ensures.program)
    c.new-client.ensures.first
