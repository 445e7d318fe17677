-- A change over a piece view, by what its method answers.
use Rattle.std.proofs.Common.{◌≡◌, ◌⊎◌, ℕ, true, Some, None, Result, Ok, Err, sym, subst, ap, ◌∙◌, inl, inr}
use Rattle.py_data.specs.declared.stop.Stop.{Stop}
use Rattle.py_data.specs.declared.stop.Stop.TheVariants.{NeedHeap, OutOfMemory}
use Rattle.py_data.specs.declared.change.Change.{Change}
use Rattle.py_data.specs.Changes.{Allows, Suits}
use Rattle.py_data.specs.Heap.{Heap}
use Rattle.py_data.specs.Row.{Edit}
use Rattle.py_data.specs.Sense.{Answers, Asks, IfThere}
use Rattle.stm_pieces.specs.PieceState.{PieceState, PieceRefuses, Lacks, Why}
use Rattle.stm_pieces.specs.PieceSense.{piece_sense}
use Rattle.stm_pieces.specs.inner.Edited.{EditAnswer}

refused : (S : Type 0) (d e : PieceState) (a : ℕ) (c : Change) (s : Stop) → (e ≡ record d { stopped = Some s }) ×
    (((s ≡ NeedHeap) × Lacks d a c) ⊎ (s ≡ OutOfMemory)) → PieceRefuses {S = S} (Edit a c) d s e
refused S d e a c s h = (
  h.0,
  elim h.1 [
    | inl l ↦ subst (λ z. Why {S = S} z (Edit a c) d) (sym l.0) l.1
    | inr m ↦ subst (λ z. Why {S = S} z (Edit a c) d) (sym m) tt
  ],
)

module _ (S : Type 0) where
  -- what is asked of a change
  pub edit_asks : (h : Heap) (a : ℕ) (c : Change) → Asks {S = S} true (Edit a c) h →
      IfThere true (h a) (λ r. Allows c r × Suits true h c r)
  unfolding Asks
  edit_asks h a c s = s

  -- the answer of the method is the answer of the call
  pub edit_answers : {X : Type 0} (state : X → PieceState) (v w : X) → (state v).stopped ≡ None → (a : ℕ)
      (c : Change) (res : Result (Unit {0}) Stop) → EditAnswer (state v) (state w) a c res
      → Answers (piece_sense state S) (Edit a c) (λ u. u) v w res
  edit_answers state v w live a c (Ok u) h = (h, ap (λ (z : PieceState). z.stopped) h.3 ∙ live, tt)
  edit_answers state v w live a c (Err e) h = refused S (state v) (state w) a c e h
