use Rattle.std.proofs.Common.{All, arith, refl, subst}
use Rattle.std.proofs.lemmas.List.{take_all}
use Rattle.std.proofs.lemmas.List.Elements.{All-more}
use Rattle.py_code.specs.declared.instr.Instr.TheVariants.{Setup}
use Rattle.py_code.specs.Right.{Belongs}
use Rattle.py_verify.proofs.context.Context.all_belong.Goals as goal

pub loop-i-preserved : goal.loop-i-preserved
loop-i-preserved c = All-more (Belongs c.args.self.now.codes c.args.self.now.roots c.args.n) c.args.instrs.now
    c.loop-i.i-index Setup (omega arith) c.loop-i.invariant (c.belongs.ensures.0 c.if-not-belongs.false)

pub returns : goal.returns
returns c = (
  λ e. subst (All (Belongs c.args.self.now.codes c.args.self.now.roots c.args.n))
      (take_all c.loop-i.i-index c.args.instrs.now (omega arith)) c.loop-i.invariant,
  λ h. refl,
)
