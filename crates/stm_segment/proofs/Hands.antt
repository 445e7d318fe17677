-- What a loop over the hands sees.
use Rattle.std.proofs.Common.{◌≡◌, ◌≢◌, ◌<◌, Bool, true, false, not, ℕ, zero, suc, List, [], ◌∷◌, length, get_or, slice_get, Some, refl, sym, ◌∙◌, ap, arith}
use Rattle.stm_segment.specs.declared.books.Work.{Work}
use Rattle.stm_segment.specs.declared.books.Hand.{Hand}
use Rattle.stm_segment.specs.declared.books.Hand.TheVariants.{Runs}

-- the element of this turn
pub at_turn : {X : Type 0} (xs : List X) (i : ℕ) (x : X) → i < length xs → x ≡ get_or xs i x → slice_get xs i ≡ Some x
at_turn [] i x lt e = absurd (omega arith)
at_turn (y ∷ xs) zero x lt e = ap Some (sym e)
at_turn (y ∷ xs) (suc i) x lt e = at_turn xs i x (omega arith) e

-- the hand of this turn runs another thread, or none
pub other_thread : {S : Type 0} (hs : List (Hand S)) (i t : ℕ) (h : Hand S) (x z : Work S) → slice_get hs i ≡ Some h →
    h ≡ Runs x → (x.thread ≡ t → ⊥) → slice_get hs i ≡ Some (Runs z) → t ≢ z.thread
other_thread hs i t h x z e r n f q = let same : x ≡ z = (let u : Some h ≡ Some (Runs z) = sym e ∙ f in cc) in
    n (ap (λ (y : Work _). y.thread) same ∙ sym q)

pub not_running : {S : Type 0} (hs : List (Hand S)) (i : ℕ) (h : Hand S) (z : Work S) → slice_get hs i ≡ Some h →
    slice_get hs i ≡ Some (Runs z) → h ≡ Runs z
not_running hs i h z e f = let u : Some h ≡ Some (Runs z) = sym e ∙ f in cc

pub not_true : (b : Bool) → not b ≡ true → b ≡ false
not_true true e = absurd cc
not_true false e = refl

pub not_false : (b : Bool) → not b ≡ false → b ≡ true
not_false true e = refl
not_false false e = absurd cc
