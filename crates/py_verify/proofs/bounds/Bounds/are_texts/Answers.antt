use Rattle.std.proofs.Common.{All, arith, refl, subst}
use Rattle.std.proofs.lemmas.List.{take_all}
use Rattle.std.proofs.lemmas.List.Elements.{All-more}
use Rattle.py_code.specs.Effects.{IsText}
use Rattle.py_verify.proofs.bounds.Bounds.are_texts.Goals as goal

pub loop-k-preserved : goal.loop-k-preserved
loop-k-preserved c = All-more (IsText c.args.self.now) c.args.keys.now c.loop-k.k-index 0 (omega arith)
    c.loop-k.invariant (c.is_text.ensures.0 c.if-not-is_text.false)

pub returns : goal.returns
returns c = (
  λ e. subst (All (IsText c.args.self.now)) (take_all c.loop-k.k-index c.args.keys.now (omega arith))
      c.loop-k.invariant,
  λ h. refl,
)
