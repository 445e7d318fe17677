use Rattle.lock_run.proofs.Naming.{named_next}
use Rattle.lock_run.proofs.plain.PlainView.pass_name.Goals as goal

pub returns-else-self-clause-left : goal.returns-else-self-clause-left
returns-else-self-clause-left g c = named_next _ c.args.self.now.plan c.args.self.now.next c.args.n c.if-self.false
    (c.requires.planned c.if-self.false)
