-- What is loaned of what a segment sees, record by record.
use Rattle.std.proofs.Common.{◌≡◌, ℕ, zero, suc, Bool, true, false, eqb, List, [], ◌∷◌, get_or, slice_get, Option, Some, None, IsSome, is_some, Result, Ok, Err, OnOk, OnErr, refl, sym, ◌∙◌, ap, subst, inl, inr}
use Rattle.std.proofs.lemmas.Bool.{cases_Bool, both_ways, or_cases, eqb-true, cond-true, cond-false}
use Rattle.std.specs.declared.alloc.AllocError.{AllocError}
use Rattle.py_data.specs.declared.value.Addr.{Addr}
use Rattle.py_data.specs.Collection.{places}
use Rattle.py_data.specs.Every.{Every}
use Rattle.py_data.specs.Sight.{mem}
use Rattle.py_data.specs.Heap.{Rec, Heap, Has, Marks, at, is_tracked, put_at}
use Rattle.seg_store.specs.Meaning.{Meaning, sees, holds}
use Rattle.stm_pieces.specs.declared.loan.Loan.{Loan}
use Rattle.stm_pieces.specs.PieceOf.{piece_state}
use Rattle.stm_pieces.specs.PieceState.{PieceState, IsNamed, with_base, with_loaned, but_at}
use Rattle.stm_segment.specs.declared.books.Hand.{Hand}
use Rattle.stm_segment.specs.Books.{runs_at}
use Rattle.stm_core.specs.inner.Lent.{AreLent, IsLentAt, MayLend, Lends}
use Rattle.stm_segment.proofs.Seeing.{at_there}

-- none is there
pub not_there : (o : Option Rec) → is_some o ≡ false → o ≡ None
not_there None e = refl
not_there (Some r) e = cc

module _ (m : Meaning) (k : ℕ) where
  -- a loaned record is one that the segment sees
  pub lent_there : (g : Heap) (locked : Marks) (a : ℕ) → AreLent m k g locked → is_some (g a) ≡ true → Has (sees m k) a
  lent_there g locked a l t = go (g a) refl t
    where
      go : (o : Option Rec) → g a ≡ o → is_some o ≡ true → Has (sees m k) a
      go None e s = absurd (both_ways false refl s)
      go (Some r) e s = subst IsSome (sym (l.part a r e)) refl

  module _ (g : Heap) (locked : Marks) (a : ℕ) (r : Rec) (held : Bool) (l : AreLent m k g locked) (may : MayLend m k a)
      (is : r ≡ at (sees m k) a) (own : held ≡ holds (m.part k) a) where
    here : (b : ℕ) (q : Rec) → put_at g a r b ≡ Some q → eqb b a ≡ true → r ≡ q
    here b q e y = let f : Some r ≡ Some q = sym (cond-true (eqb b a) (Some r) (g b) y) ∙ e in cc

    there : (b : ℕ) (q : Rec) → put_at g a r b ≡ Some q → eqb b a ≡ false → g b ≡ Some q
    there b q e n = sym (cond-false (eqb b a) (Some r) (g b) n) ∙ e

    -- with one record more
    pub lent_more : AreLent m k (put_at g a r) (but_at locked a held)
    lent_more = record {
      part = λ b q e. elim (cases_Bool (eqb b a)) [
        | inl y ↦ ap (sees m k) (eqb-true b a y) ∙ at_there (sees m k) a may.there ∙ ap Some (sym is) ∙
            ap Some (here b q e y)
        | inr n ↦ l.part b q (there b q e n)
      ];
      looked = λ b q e t. elim (cases_Bool (eqb b a)) [
        | inl y ↦ ap (m.part k).looked (eqb-true b a y) ∙
            may.looked (ap (λ (z : Rec). is_tracked z.kind) (sym is ∙ here b q e y) ∙ t)
        | inr n ↦ l.looked b q (there b q e n) t
      ];
      held = λ b e. elim (cases_Bool (eqb b a)) [
        | inl y ↦ ap (holds (m.part k)) (eqb-true b a y) ∙ sym own ∙ sym (cond-true (eqb b a) held (locked b) y) ∙ e
        | inr n ↦ l.held b (sym (cond-false (eqb b a) held (locked b) n) ∙ e)
      ];
    }

  -- what is loaned, by the state of a piece
  abbrev Lent : PieceState → Type 0
  Lent d = AreLent m k d.loaned d.locked

  module _ {S : Type 0} where
    pub lends_none : (l : Loan S) → Lent (piece_state l.view) → Lends m k l l
    lends_none l h = record { lent = h; thread = refl; state = refl; most = refl }

    pub lends_then : (l l1 l2 : Loan S) → Lends m k l l1 → Lends m k l1 l2 → Lends m k l l2
    lends_then l l1 l2 f g = record {
      lent = g.lent;
      thread = g.thread ∙ f.thread;
      state = g.state ∙ f.state;
      most = g.most ∙ f.most;
    }

    -- a record was added, or there was no memory
    pub lends_add : (x : Result (Unit {0}) AllocError) (l l1 : Loan S) (a : ℕ) (r : Rec) (held : Bool) →
        Lent (piece_state l.view) → MayLend m k a → r ≡ at (sees m k) a → held ≡ holds (m.part k) a →
        OnOk x (piece_state l1.view ≡ with_loaned a r held (piece_state l.view)) →
        OnErr x (piece_state l1.view ≡ with_base (piece_state l.view)) → l1.thread ≡ l.thread → l1.state ≡ l.state →
        l1.most ≡ l.most → Lends m k l l1
    lends_add (Ok u) l l1 a r held h may is own ok err thread state most = record {
      lent = subst Lent (sym ok)
          (lent_more (piece_state l.view).loaned (piece_state l.view).locked a r held h may is own);
      thread = thread;
      state = state;
      most = most;
    }
    lends_add (Err e) l l1 a r held h may is own ok err thread state most = record {
      lent = subst Lent (sym err) h;
      thread = thread;
      state = state;
      most = most;
    }

-- the hand that was read there, where a transaction runs
pub hand_read : {S : Type 0} (hs : List (Hand S)) (k : ℕ) (h : Hand S) → runs_at hs k ≡ true → h ≡ get_or hs k h →
    slice_get hs k ≡ Some h
hand_read [] k h r e = absurd (both_ways false refl r)
hand_read (x ∷ xs) zero h r e = ap Some (sym e)
hand_read (x ∷ xs) (suc k) h r e = hand_read xs k h r e

-- ---- what is loaned, address by address

-- what holds of each name of a list
every_named : (P : ℕ → Type 0) (xs : List Addr) (a : ℕ) → Every (λ (x : Addr). P x.0) xs → mem a (places xs) ≡ true →
    P a
every_named P [] a e h = absurd (both_ways false refl h)
every_named P (x ∷ xs) a e h = elim (or_cases (eqb a x.0) (mem a (places xs)) h) [
  | inl y ↦ subst P (sym (eqb-true a x.0 y)) e.0
  | inr y ↦ every_named P xs a e.1 y
]

-- all that is loaned is as the segment sees it, where that holds at each name
pub every_lent : (m : Meaning) (k : ℕ) (d : PieceState) → IsNamed d →
    Every (λ (x : Addr). IsLentAt m k d.loaned d.locked x.0) d.names → AreLent m k d.loaned d.locked
every_lent m k d n e = record {
  part = λ a r h. (at_name a (n.named a r h)).part r h;
  looked = λ a r h t. (at_name a (n.named a r h)).looked r h t;
  held = λ a h. (at_name a (there a (d.loaned a) refl (n.held a h))).held h;
}
  where
    at_name : (a : ℕ) → mem a (places d.names) ≡ true → IsLentAt m k d.loaned d.locked a
    at_name a h = every_named (IsLentAt m k d.loaned d.locked) d.names a e h

    there : (a : ℕ) (o : Option Rec) → d.loaned a ≡ o → IsSome o → mem a (places d.names) ≡ true
    there a None h s = absurd (both_ways false refl s)
    there a (Some r) h s = n.named a r h
