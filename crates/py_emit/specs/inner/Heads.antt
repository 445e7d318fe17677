-- The mirror of the code: nothing public rests on it.
-- The parts of an except clause before and behind its block. It belongs to `Table`.
use Rattle.std.specs.Prelude.{◌≡◌, ℕ, ◌+◌, ◌<◌, List, [], ◌∷◌, Option, Some, None, length}
use Rattle.py_code.specs.declared.instr.Instr.TheVariants.{LoadLocal, JumpFalse, ExcMatch}
use Rattle.py_emit.specs.declared.draft.Draft.TheVariants.{To as DraftTo}
use Rattle.py_emit.specs.declared.draft.Far.TheVariants.{Always}
use Rattle.py_tree.specs.declared.expr.Expr.{Expr}
use Rattle.py_templates.specs.Template.{Frame, Part, Op, Hidden, To, Alone}
use Rattle.py_emit.specs.inner.State.{St, put, marked, opened, frame_there}
use Rattle.py_templates.specs.Names.{Known}
use Rattle.py_templates.specs.Expressions.{value, stored}
use Rattle.py_emit.specs.inner.Partly.{Puts}

abbrev pub target_parts : Known → ℕ → Option Expr → List Part
target_parts n ln None = []
target_parts n ln (Some t) = Hidden 1 LoadLocal ∷ Alone (stored n ln t) ∷ []

abbrev pub target_size : Known → ℕ → Option Expr → ℕ
target_size n ln None = 0
target_size n ln (Some t) = 1 + (stored n ln t).size

-- how many instructions stand before the block
abbrev pub handler_size : Known → ℕ → Option Expr → Option Expr → ℕ
handler_size n ln None t = 0
handler_size n ln (Some x) t = (value n ln x).size + 3 + target_size n ln t

-- a clause that catches all has no label
abbrev pub HandlerHead : Known → ℕ → Option Expr → Option Expr → ℕ → Option ℕ → St → St → Type 0
HandlerHead n ln None t slot None e m = e ≡ m
HandlerHead n ln (Some x) t slot (Some next) e m = (next ≡ length e.labels) × (next < length m.labels) ×
    ((base : ℕ) (env : List ℕ → List Frame) →
    Puts ln next (λ ls. frame_there next 1 0 ls ∷ frame_there base 2 slot ls ∷ env ls)
    (Hidden 1 LoadLocal ∷ Alone (value n ln x) ∷ Op ExcMatch ∷ To 0 JumpFalse 0 ∷ target_parts n ln t) (opened e 1 0) m)
HandlerHead n ln _ t slot _ e m = ⊥

abbrev pub HandlerTail : ℕ → Option ℕ → ℕ → St → St → Type 0
HandlerTail ln None base e m = m ≡ put e ln (DraftTo Always base)
HandlerTail ln (Some next) base e m = m ≡ marked (put e ln (DraftTo Always base)) next
