use Rattle.std.proofs.Common.{All, arith, refl, subst}
use Rattle.std.proofs.lemmas.List.{take_all}
use Rattle.std.proofs.lemmas.List.Elements.{All-more}
use Rattle.py_code.specs.declared.instr.Instr.TheVariants.{Setup}
use Rattle.py_code.specs.Effects.{Forward, effect}
use Rattle.py_verify.proofs.context.all_forward.Goals as goal

pub loop-i-preserved : goal.loop-i-preserved
loop-i-preserved c = All-more (λ i. Forward c.args.bounds.now.first (effect c.args.bounds.now i).flow)
    c.args.instrs.now c.loop-i.i-index Setup (omega arith) c.loop-i.invariant
    (c.is_forward.ensures.0 c.if-not-is_forward.false)

pub returns : goal.returns
returns c = (
  λ e. subst (All (λ i. Forward c.args.bounds.now.first (effect c.args.bounds.now i).flow))
      (take_all c.loop-i.i-index c.args.instrs.now (omega arith)) c.loop-i.invariant,
  λ h. refl,
)
