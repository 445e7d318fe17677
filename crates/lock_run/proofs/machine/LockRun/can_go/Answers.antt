use Rattle.std.proofs.Common.{◌∙◌, sym}
use Rattle.lock_run.proofs.Ready.{ready_of}
use Rattle.lock_run.proofs.machine.LockRun.can_go.Goals as goal

pub returns-in-Lives : goal.returns-in-Lives
returns-in-Lives g c = ready_of (g.C.Client.prog c.args.self.now.client.now) c.args.s.now _ c.blocked.result
    (sym c.life.ensures ∙ c.in-Lives.is) c.blocked.ensures.yes c.blocked.ensures.not
