use Rattle.std.proofs.Common.{rules, refl, true, false, arith, Bool, ◌≡◌}
use Rattle.std.proofs.lemmas.Grind.{common_steps}
use Rattle.std.specs.Prelude.{List, ℕ, Option}
use Rattle.py_code.specs.Effects.{Limits, Sh}
use Rattle.py_code.specs.declared.instr.Instr.{Instr}
use Rattle.py_verify.specs.inner.Work.{Visits, Visited}
use Rattle.py_verify.proofs.Steps.{going_on, going_end}
use Rattle.py_verify.proofs.typing.is_right.Goals as goal

visited : (ok : Bool) (lim : Limits) (code : List Instr) (p : ℕ) (t t' : List (Option Sh)) (w w' : List ℕ) →
    ok ≡ true → Visits ok lim code p t t' w w' → Visited lim code p t t' w w'
visited true lim code p t t' w w' e v = v
visited false lim code p t t' w w' e v = absurd (cc)

pub loop-place-preserved : goal.loop-place-preserved
loop-place-preserved c = going_on _ c.args.code.now c.in-Some.place _ _ _ _ _ c.loop-place.invariant (search rules)
    (visited c.in_ok-visit.field-0 _ _ _ _ _ _ _ c.if-not-branch.false c.in_ok-visit.ensures)

pub returns : goal.returns
returns c = (
  λ e. going_end _ _ c.loop-place.shapes.items c.loop-place.work.items (omega arith)
      (grind (arith, common_steps)) c.loop-place.invariant,
  λ r. refl,
)
