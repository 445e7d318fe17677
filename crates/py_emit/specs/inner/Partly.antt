-- The mirror of the code: nothing public rests on it.
-- The parts of a template, put one after another. It belongs to `Template` and `State`.
use Rattle.std.specs.Prelude.{◌≡◌, ℕ, List, [], ◌∷◌, drop, get_or}
use Rattle.py_emit.specs.declared.draft.Draft.TheVariants.{Op as DraftOp, To as DraftTo}
use Rattle.py_emit.specs.declared.draft.Far.{Far}
use Rattle.py_templates.specs.Template.{Frame, Part, Op, Hidden, To, Here, Alone, Sub, label_at, slot_at}
use Rattle.py_emit.specs.inner.State.{St, put, marked, jump_of, number, no_frames, Emitted}

-- The template's own line and first label; its own construct is the first of env.
module _ (line base : ℕ) (env : List ℕ → List Frame) where
  abbrev pub IsPut : Part → St → St → Type 0
  IsPut (Op i) e m = m ≡ put e line (DraftOp i)
  IsPut (Hidden d j) e m = (s : ℕ) × ((ls : List ℕ) → slot_at (env ls) d ≡ s) × (m ≡ put e line (DraftOp (j s)))
  IsPut (To d j l) e m = (f : Far) × (x : ℕ) × ((q : ℕ) → jump_of f q ≡ j q) ×
      ((ls : List ℕ) → label_at (env ls) d l ≡ get_or ls x 0) × (m ≡ put e line (DraftTo f x))
  IsPut (Here l) e m = m ≡ marked e (number base l)
  IsPut (Alone b) e m = Emitted e m b no_frames
  IsPut (Sub d b) e m = Emitted e m b (λ ls. drop d (env ls))

  abbrev pub Puts : List Part → St → St → Type 0
  Puts [] e e' = e ≡ e'
  Puts (x ∷ xs) e e' = (m : St) × IsPut x e m × Puts xs m e'
