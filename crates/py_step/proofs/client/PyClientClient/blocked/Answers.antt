use Rattle.std.proofs.Common.{◌≡◌, true, false, subst}
use Rattle.lock_run.specs.Client.{Waiting, Going}
use Rattle.py_frames.specs.Steps.{step_row}
use Rattle.py_step.proofs.client.PyClientClient.blocked.Goals as goal

pub returns-clause-yes : goal.returns-clause-yes
returns-clause-yes g c = subst (λ p. c.would_wait.result ≡ true →
    Waiting (step_row p c.args.s.now) (g.P.Peek.image c.args.heap.now)) c.program.ensures c.would_wait.ensures.yes

pub returns-clause-not : goal.returns-clause-not
returns-clause-not g c = subst (λ p. c.would_wait.result ≡ false →
    Going (step_row p c.args.s.now) (g.P.Peek.image c.args.heap.now)) c.program.ensures c.would_wait.ensures.not
