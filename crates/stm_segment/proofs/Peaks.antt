-- How peaks rise over calls of a store and of a segment's view.
use Rattle.std.proofs.Common.{◌≡◌, ◌⊎◌, inl, inr, ℕ, ◌+◌, ◌-◌, ◌/◌, ◌≤◌, leb, max, Option, Some, None, sym, ap, subst, ◌∙◌, arith, Result, OnErr}
use Rattle.std.proofs.lemmas.Result.{on_err_weaker}
use Rattle.std.proofs.lemmas.Bool.{cases_Bool, leb-true, leb-false}
use Rattle.py_data.specs.declared.stop.Side.{Side}
use Rattle.py_data.specs.declared.change.Change.{Change}
use Rattle.py_data.specs.Changes.{after}
use Rattle.py_data.specs.Heap.{Heap, Rec, at}
use Rattle.py_data.specs.Row.{Edit}
use Rattle.seg_store.specs.Extents.{extents, extents_of}
use Rattle.seg_store.specs.Meaning.{Meaning, sees}
use Rattle.seg_store.specs.Store.{IsStore}
use Rattle.seg_store.specs.Telling.{in_use, use_with, Rises, RisesTo}
use Rattle.stm_segment.specs.declared.books.Progress.{Progress}
use Rattle.stm_segment.specs.declared.books.Books.{Books}
use Rattle.stm_segment.specs.Books.{Worlds, core_of, Fit}
use Rattle.stm_segment.specs.InUse.{core_use, wants_more, RisesUpTo, IfTold}
use Rattle.stm_segment.specs.inner.Hold.{Hold, Beside, Holds}
use Rattle.stm_segment.specs.inner.SegSense.{seg_use, RisesThere}
use Rattle.stm_segment.proofs.Used.{in_use_is, dooms_less}

-- ---- what holds of the peaks before and after, where they are told

abbrev Of : Type 1
Of = (ℕ → ℕ) → (ℕ → ℕ) → Type 0

pub told_weaker : (p q : Option (ℕ → ℕ)) (P Q : Of) → ((f g : ℕ → ℕ) → P f g → Q f g) → IfTold p q P → IfTold p q Q
told_weaker None None P Q h a = tt
told_weaker (Some f) (Some g) P Q h a = h f g a
told_weaker None (Some g) P Q h a = absurd a
told_weaker (Some f) None P Q h a = absurd a

told_self : (p : Option (ℕ → ℕ)) (P : Of) → ((f : ℕ → ℕ) → P f f) → IfTold p p P
told_self None P h = tt
told_self (Some f) P h = h f

pub told_same : (p q : Option (ℕ → ℕ)) (P : Of) → ((f : ℕ → ℕ) → P f f) → q ≡ p → IfTold p q P
told_same p q P h e = subst (λ z. IfTold p z P) (sym e) (told_self p P h)

pub told_then : (p q r : Option (ℕ → ℕ)) (P Q R : Of) → ((f g h : ℕ → ℕ) → P f g → Q g h → R f h) → IfTold p q P →
    IfTold q r Q → IfTold p r R
told_then None None None P Q R h a b = tt
told_then (Some f) (Some g) (Some k) P Q R h a b = h f g k a b
told_then None (Some g) r P Q R h a b = absurd a
told_then (Some f) None r P Q R h a b = absurd a
told_then None None (Some k) P Q R h a b = absurd b
told_then (Some f) (Some g) None P Q R h a b = absurd b

-- ---- calls of a store

either : (x y z : ℕ) → y ≤ max x z → (y ≤ x) ⊎ (y ≤ z)
either x y z l = elim (cases_Bool (leb z x)) [
  | inl s ↦ let k = leb-true z x s in inl (omega arith)
  | inr s ↦ let k = leb-false z x s in inr (omega arith)
]

pub rises_told : (p q : Option (ℕ → ℕ)) (now : ℕ → ℕ) → Rises p q now → IfTold p q (λ f g. RisesUpTo f g now)
rises_told None None now a = tt
rises_told None (Some g) now a = absurd a
rises_told (Some f) None now a = absurd a
rises_told (Some f) (Some g) now a = λ c lo. let e = a c lo in either (f c) (g c) (now c) (omega arith)

pub rises_to_told : (p q : Option (ℕ → ℕ)) (most : ℕ → ℕ) → RisesTo p q most → IfTold p q (λ f g. RisesUpTo f g most)
rises_to_told None None most a = tt
rises_to_told None (Some g) most a = absurd a
rises_to_told (Some f) None most a = absurd a
rises_to_told (Some f) (Some g) most a = λ c lo. either (f c) (g c) (most c) (a c lo).1

-- a change that was refused
pub err_told : {E : Type 0} (r : Result (Unit {0}) E) (k a : ℕ) (m : Meaning) (x y : Change) (p q : Option (ℕ → ℕ)) →
    x ≡ y → OnErr r (RisesTo p q (use_with m (sees m k a) (after y (at (sees m k) a)))) →
    OnErr r (IfTold p q (λ f g. RisesUpTo f g (λ c. in_use m c +
    (extents (after x (at (sees m k) a)) c - extents_of (sees m k a) c))))
err_told r k a m x y p q e h = subst (λ z. OnErr r (IfTold p q (λ f g. RisesUpTo f g (λ c. in_use m c +
    (extents (after z (at (sees m k) a)) c - extents_of (sees m k a) c))))) (sym e)
    (on_err_weaker r (rises_to_told p q _) h)

-- a call that leaves the peaks
pub rises_none : (p q : Option (ℕ → ℕ)) (most : ℕ → ℕ) → q ≡ p → IfTold p q (λ f g. RisesUpTo f g most)
rises_none p q most e = told_same p q (λ f g. RisesUpTo f g most) (λ f c lo. inl (omega arith)) e

pub rises_wider : (p q : Option (ℕ → ℕ)) (most wide : ℕ → ℕ) → ((c : ℕ) → most c ≤ wide c) →
    IfTold p q (λ f g. RisesUpTo f g most) → IfTold p q (λ f g. RisesUpTo f g wide)
rises_wider p q most wide l = told_weaker p q (λ f g. RisesUpTo f g most) (λ f g. RisesUpTo f g wide)
    (λ f g a c lo. elim (a c lo) [ inl x ↦ inl x | inr x ↦ let z = l c in inr (omega arith) ])

-- a new record that was refused
pub made_told : (p q : Option (ℕ → ℕ)) (m : Meaning) (r : Rec) → RisesTo p q (use_with m None r) →
    IfTold p q (λ f g. RisesUpTo f g (λ c. in_use m c + extents r c))
made_told p q m r a = rises_wider p q (use_with m None r) (λ c. in_use m c + extents r c) (λ c. omega arith)
    (rises_to_told p q (use_with m None r) a)

-- ---- calls of a segment's view

eq_le : (x y : ℕ) → x ≡ y → x ≤ y
eq_le x y e = omega arith

le_trans : (x y z : ℕ) → x ≤ y → y ≤ z → x ≤ z
le_trans x y z a b = omega arith

plus : (x y z : ℕ) → x ≤ y → x + z ≤ y + z
plus x y z l = omega arith

-- beside what a segment sees, its calls leave no more in use
pub beside_less : {S : Type 0} (P : ℕ → Type 0) (k : ℕ) (me : Side) (d e : Hold S) → Beside k me P d e → (w : Worlds)
    (own : Heap) (c : ℕ) →
    core_use (e.meaning.limit / 2) e.meaning.segments k own (core_of w e.meaning e.books) c ≤
    core_use (d.meaning.limit / 2) d.meaning.segments k own (core_of w d.meaning d.books) c
beside_less P k me d e h w own c = le_trans _ _ _
    (eq_le _ _ (ap (λ z. core_use (z / 2) e.meaning.segments k own (core_of w e.meaning e.books) c) h.limit ∙
    ap (λ z. core_use (d.meaning.limit / 2) z k own (core_of w e.meaning e.books) c) h.segments))
    (dooms_less (d.meaning.limit / 2) d.meaning.segments k own k me h.dooms (core_of w d.meaning d.books)
    (core_of w e.meaning e.books) c (h.others w))

-- peaks that stay
pub there_none : {S : Type 0} (k : ℕ) (m : Meaning) (b : Books S) (more : ℕ → ℕ) (p q : Option (ℕ → ℕ)) → q ≡ p →
    RisesThere k m b more p q
there_none k m b more p q e = record { rises = λ w. rises_none p q (λ c. seg_use w k m b c + more c) e }

-- a call of the store was done
pub there_done : {S : Type 0} (k r : ℕ) (m : Meaning) (b : Books S) (g : Progress S) (p p1 q : Option (ℕ → ℕ)) →
    IsStore r m → Fit k m b g → p1 ≡ p → IfTold p1 q (λ f h. RisesUpTo f h (in_use m)) →
    RisesThere k m b (λ c. 0) p q
there_done k r m b g p p1 q st fit e told = subst (λ z. RisesThere k m b (λ c. 0) z q) e (record {
  rises = λ w. rises_wider p1 q (in_use m) (λ c. seg_use w k m b c + 0)
      (λ c. let i = in_use_is w r k m b g st fit c in omega arith) told;
})

-- one was refused
pub there_refused : {S : Type 0} (k r : ℕ) (m m1 : Meaning) (b : Books S) (g : Progress S) (more : ℕ → ℕ)
    (p q u : Option (ℕ → ℕ)) → IsStore r m1 → m1 ≡ m → Fit k m b g → u ≡ q →
    IfTold p q (λ f h. RisesUpTo f h (λ c. in_use m c + more c)) → RisesThere k m b more p u
there_refused k r m m1 b g more p q u st same fit e told = subst (RisesThere k m b more p) (sym e) (record {
  rises = λ w. rises_wider p q (λ c. in_use m c + more c) (λ c. seg_use w k m b c + more c)
      (λ c. let i = in_use_is w r k m b g (subst (IsStore r) same st) fit c in omega arith) told;
})

-- one was refused after the record was held
pub there_held : {S : Type 0} (k : ℕ) (me : Side) (a : ℕ) (x : Change) (d d1 : Hold S) (k1 : ℕ)
    (p p1 q : Option (ℕ → ℕ)) → Holds k me a d d1 → k1 ≡ k → p1 ≡ p →
    RisesThere k1 d1.meaning d1.books (wants_more {S = S} (Edit a x) (sees d1.meaning k1)) p1 q →
    RisesThere k d.meaning d.books (wants_more {S = S} (Edit a x) (sees d.meaning k)) p q
there_held {S} k me a x d d1 k1 p p1 q h ek ep t = subst (λ z. RisesThere k d.meaning d.books (wants here) z q) ep
    (record {
      rises = λ w. rises_wider p1 q (λ c. seg_use w k d1.meaning d1.books c + wants (sees d1.meaning k) c)
          (λ c. seg_use w k d.meaning d.books c + wants here c) (less w) (at_k.rises w);
    })
  where
    here : Heap
    here = sees d.meaning k

    wants : Heap → ℕ → ℕ
    wants = wants_more {S = S} (Edit a x)

    at_k : RisesThere k d1.meaning d1.books (wants (sees d1.meaning k)) p1 q
    at_k = subst (λ z. RisesThere z d1.meaning d1.books (wants (sees d1.meaning z)) p1 q) ek t

    less : (w : Worlds) (c : ℕ) → seg_use w k d1.meaning d1.books c + wants (sees d1.meaning k) c ≤
        seg_use w k d.meaning d.books c + wants here c
    less w c = le_trans _ _ _
        (eq_le _ _ (ap (λ o. core_use (d1.meaning.limit / 2) d1.meaning.segments k o
        (core_of w d1.meaning d1.books) c + wants o c) h.shown))
        (plus _ _ (wants here c) (beside_less (λ b. b ≡ a) k me d d1 h.beside w here c))
