-- A record that is put where none stands, and no entry is of, is no part of the journal.
use Rattle.std.proofs.Common.{◌≡◌, ◌⊎◌, inl, inr, ℕ, List, [], ◌∷◌, true, false, eqb, cond, Option, Some, None, option_map, Result, Ok, Err, OnOk, OnErr, refl, sym, ◌∙◌, ap, subst, ◌≢◌}
use Rattle.std.proofs.lemmas.Bool.{cond-false}
use Rattle.std.proofs.lemmas.Bool.Decides.{eqb_tells}
use Rattle.py_data.specs.declared.undo.Undo.{Undo}
use Rattle.py_data.specs.Heap.{Rec, Heap, put_at}
use Rattle.py_data.specs.Journal.{restored, restore_at, taken_back, CanRestore, IsUndoable}
use Rattle.py_data.specs.Undo.{before}
use Rattle.seg_store.proofs.Sees.{same_heap, other_number}

restored_none : (u : Option Undo) (o : Option Rec) → o ≡ None → restored u o ≡ None
restored_none None o e = refl
restored_none (Some u) o e = ap (option_map (before u)) e

none_back : (es : List (ℕ × Option Undo)) (h : Heap) (a : ℕ) → h a ≡ None → taken_back es h a ≡ None
none_back [] h a n = n
none_back (e ∷ es) h a n = elim (eqb a e.0) as
    (λ t. cond t (restored e.1 (taken_back es h a)) (taken_back es h a) ≡ None) [
      | true ↦ restored_none e.1 (taken_back es h a) (none_back es h a n)
      | false ↦ none_back es h a n
    ]

not_none : (u : Option Undo) (o : Option Rec) → CanRestore u o → o ≡ None → ⊥
not_none u o k e = subst (CanRestore u) e k

restore_put : (h : Heap) (a : ℕ) (r : Rec) (b : ℕ) (u : Option Undo) → b ≢ a →
    restore_at (put_at h a r) b u ≡ put_at (restore_at h b u) a r
restore_put h a r b u d = same_heap _ _ (λ x. here x (eqb_tells x b))
  where
    here : (x : ℕ) → ((eqb x b ≡ true) × (x ≡ b)) ⊎ ((eqb x b ≡ false) × (x ≢ b)) →
        restore_at (put_at h a r) b u x ≡ put_at (restore_at h b u) a r x
    here x (inl q) = let n : eqb x a ≡ false = other_number x a (λ p. d (sym q.1 ∙ p)) in rw (q.0, n) refl
    here x (inr q) = rw q.0 refl

-- it can be taken back as before, and the record stays
pub record IsLaid (es : List (ℕ × Option Undo)) (a : ℕ) (r : Rec) (h h1 : Heap) : Type 0 where
  pub undoable : IsUndoable es h1
  pub base : taken_back es h1 ≡ put_at (taken_back es h) a r

laid_put : (es : List (ℕ × Option Undo)) (a : ℕ) (r : Rec) (h : Heap) → h a ≡ None → IsUndoable es h →
    IsLaid es a r h (put_at h a r)
laid_put [] a r h n i = record { undoable = tt; base = refl }
laid_put (e ∷ es) a r h n i =
    let p = laid_put es a r h n i.0 in
    let d : e.0 ≢ a = λ q. not_none e.1 (taken_back es h e.0) i.1 (ap (taken_back es h) q ∙ none_back es h a n) in
    let same : taken_back es (put_at h a r) e.0 ≡ taken_back es h e.0 = ap (λ (g : Heap). g e.0) p.base ∙
    cond-false (eqb e.0 a) (Some r) (taken_back es h e.0) (other_number e.0 a d) in
    record {
      undoable = (p.undoable, subst (CanRestore e.1) (sym same) i.1);
      base = ap (λ (g : Heap). restore_at g e.0 e.1) p.base ∙ restore_put (taken_back es h) a r e.0 e.1 d;
    }

pub laid : (es : List (ℕ × Option Undo)) (a : ℕ) (r : Rec) (h h1 : Heap) → h1 ≡ put_at h a r → h a ≡ None →
    IsUndoable es h → IsLaid es a r h h1
laid es a r h h1 eh n i = rw eh (laid_put es a r h n i)

-- where there may have been no memory for it
pub laid_try : {T E : Type 0} (x : Result T E) (es : List (ℕ × Option Undo)) (a : ℕ) (r : Rec) (h h1 : Heap) →
    OnOk x (h1 ≡ put_at h a r) → OnErr x (h1 ≡ h) → h a ≡ None → IsUndoable es h → IsUndoable es h1
laid_try (Ok x) es a r h h1 p q n i = (laid es a r h h1 p n i).undoable
laid_try (Err e) es a r h h1 p q n i = subst (IsUndoable es) (sym q) i

pub back_same : {T E : Type 0} (x : Result T E) (es : List (ℕ × Option Undo)) (h h1 : Heap) → h1 ≡ h →
    OnErr x (taken_back es h1 ≡ taken_back es h)
back_same (Ok x) es h h1 e = tt
back_same (Err n) es h h1 e = ap (taken_back es) e
