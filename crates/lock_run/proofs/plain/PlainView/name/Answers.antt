use Rattle.std.proofs.Common.{◌∙◌, ap, sym}
use Rattle.std.specs.Option.{option_copied}
use Rattle.lock_run.proofs.Naming.{name_taken, name_missing}
use Rattle.lock_run.proofs.plain.PlainView.name.Goals as goal

pub returns-then-has-clause-none : goal.returns-then-has-clause-none
returns-then-has-clause-none g c = λ e f. name_taken _ c.args.self.now.plan c.args.self.now.next c.in-Some.n.now
    (sym c.get.ensures ∙ ap option_copied c.in-Some.is) (sym c.has.ensures ∙ c.if-has.true)

pub returns-in-None-clause-none : goal.returns-in-None-clause-none
returns-in-None-clause-none g c = λ e f. name_missing _ c.args.self.now.plan c.args.self.now.next
    (sym c.get.ensures ∙ ap option_copied c.in-None.is)
