-- What a core has in use: the store's count of it, and what dooms take away from it.
use Rattle.std.proofs.Common.{◌≡◌, inl, inr, ℕ, zero, suc, ◌+◌, ◌/◌, ◌<◌, ◌≤◌, Bool, true, false, cond, eqb, List, [], ◌∷◌, Option, Some, None, is_some, slice_get, refl, sym, ap, subst, ◌∙◌, arith}
use Rattle.std.proofs.lemmas.Bool.{cases_Bool, both_ways, eqb-true, eqb-false, cond-true, cond-false}
use Rattle.py_data.specs.declared.stop.Side.{Side}
use Rattle.py_data.specs.declared.stop.Conflict.{Conflict}
use Rattle.py_data.specs.Heap.{Heap, Rec}
use Rattle.seg_store.specs.Meaning.{Meaning, over, sees, holds}
use Rattle.seg_store.specs.Store.{IsStore}
use Rattle.seg_store.specs.Sums.{sum_below, asked, gained}
use Rattle.seg_store.specs.Telling.{in_use}
use Rattle.stm_segment.specs.declared.books.Progress.{Progress}
use Rattle.stm_segment.specs.declared.books.Books.{Books}
use Rattle.stm_segment.specs.declared.books.Hand.{Hand}
use Rattle.stm_segment.specs.declared.books.Hand.TheVariants as hand
use Rattle.stm_segment.specs.Books.{Worlds, is_running, segment_of, Fit}
use Rattle.stm_segment.specs.CoreState.{Segment, Doomed, CoreState, with_segment, with_conflict}
use Rattle.stm_segment.specs.InUse.{seg_view, core_use}
use Rattle.stm_segment.specs.inner.Hold.{Dooms}
use Rattle.stm_segment.specs.inner.SegSense.{seg_use}

-- ---- sums

pub below_le : (n : ℕ) (f g : ℕ → ℕ) → ((a : ℕ) → a < n → f a ≤ g a) → sum_below n f ≤ sum_below n g
unfolding sum_below
below_le zero f g h = omega arith
below_le (suc n) f g h =
    let ih : sum_below n f ≤ sum_below n g = below_le n f g (λ a l. h a (omega arith)) in
    let l : f n ≤ g n = h n (omega arith) in
    omega arith

gained_self : (n : ℕ) (h : Heap) (c : ℕ) → gained n h h c ≡ 0
unfolding sum_below
gained_self zero h c = refl
gained_self (suc n) h c = let ih : gained n h h c ≡ 0 = gained_self n h c in omega arith

-- ---- what a store has in use is what the core has, while segment k is out of its hand

module _ {S : Type 0} (w : Worlds) (r k : ℕ) (m : Meaning) (b : Books S) (p : Progress S) (st : IsStore r m)
    (fit : Fit k m b p) where
  none_held : (o i : Option Rec) → (is_some o ≡ true → ⊥) → over o i ≡ i
  none_held None i n = refl
  none_held (Some r) i n = absurd (n refl)

  -- a segment that holds nothing sees the image
  bare : (j : ℕ) → ((a : ℕ) → holds (m.part j) a ≡ true → ⊥) → sees m j ≡ m.image
  bare j n = λ i a. none_held ((m.part j).changes a) (m.image a) (λ e. n a (sym (st.changes j a) ∙ e)) i

  hand_view : (j : ℕ) (h : Option (Hand S)) → ((a : ℕ) → holds (m.part j) a ≡ true → is_running h ≡ true) →
      sees m j ≡ seg_view m.image (segment_of w.own (m.part j) h)
  hand_view j None n = bare j (λ a e. both_ways false refl (n a e))
  hand_view j (Some hand.Idle) n = bare j (λ a e. both_ways false refl (n a e))
  hand_view j (Some (hand.Doomed f)) n = bare j (λ a e. both_ways false refl (n a e))
  hand_view j (Some (hand.Runs x)) n = refl

  there : ℕ → Heap
  there j = seg_view m.image (segment_of w.own (m.part j) (slice_get b.hands.items j))

  view_there : (j : ℕ) → sees m j ≡ cond (eqb j k) (sees m k) (there j)
  unfolding there
  view_there j = elim (cases_Bool (eqb j k)) [
    | inl y ↦ ap (sees m) (eqb-true j k y) ∙ sym (cond-true (eqb j k) (sees m k) (there j) y)
    | inr n ↦ hand_view j (slice_get b.hands.items j) (λ a e. fit.holders j a (eqb-false j k n) e) ∙
        sym (cond-false (eqb j k) (sees m k) (there j) n)
  ]

  pub in_use_is : (c : ℕ) → in_use m c ≡ seg_use w k m b c
  unfolding in_use there
  in_use_is c = ap (λ (f : ℕ → ℕ). asked (m.limit / 2) m.image c + sum_below m.segments f)
      (λ i j. gained (m.limit / 2) m.image (view_there j i) c)

-- ---- what a core has in use

under : (a x y : ℕ) → x ≤ y → a + x ≤ a + y
under a x y l = omega arith

le_trans : (x y z : ℕ) → x ≤ y → y ≤ z → x ≤ z
le_trans x y z a b = omega arith

-- what segment i itself has in hand doesn't count, but what it sees
pub use_apart : {S : Type 0} (n segs i : ℕ) (own : Heap) (s : Segment S) (k : CoreState S) (c : ℕ) →
    core_use n segs i own k c ≤ core_use n segs i own (with_segment i s k) c
use_apart n segs i own s k c = under (asked n k.image c) _ _ (below_le segs
    (λ j. gained n k.image (cond (eqb j i) own (seg_view k.image (k.segments j))) c)
    (λ j. gained n k.image (cond (eqb j i) own (seg_view k.image (cond (eqb j i) s (k.segments j)))) c)
    (λ j l. pick (eqb j i) (k.segments j)))
  where
    pick : (b : Bool) (o : Segment _) → gained n k.image (cond b own (seg_view k.image o)) c ≤
        gained n k.image (cond b own (seg_view k.image (cond b s o))) c
    pick true o = omega arith
    pick false o = omega arith

-- a doom takes away
doom_less : {S : Type 0} (n segs i j : ℕ) (own : Heap) (f : Conflict) (k : CoreState S) (c : ℕ) →
    core_use n segs i own (with_conflict f (with_segment j (Doomed f) k)) c ≤ core_use n segs i own k c
doom_less {S} n segs i j own f k c = under (asked n k.image c) _ _ (below_le segs
    (λ l. gained n k.image (cond (eqb l i) own (seg_view k.image (cond (eqb l j) (Doomed f) (k.segments l)))) c)
    (λ l. gained n k.image (cond (eqb l i) own (seg_view k.image (k.segments l))) c)
    (λ l b. pick (eqb l i) (eqb l j) (k.segments l)))
  where
    pick : (a b : Bool) (s : Segment S) →
        gained n k.image (cond a own (seg_view k.image (cond b (Doomed f) s))) c ≤
        gained n k.image (cond a own (seg_view k.image s)) c
    pick true b s = omega arith
    pick false true s = subst (λ x. x ≤ gained n k.image (seg_view k.image s) c) (sym (gained_self n k.image c))
        (omega arith)
    pick false false s = omega arith

pub dooms_less : {S : Type 0} (n segs i : ℕ) (own : Heap) (k : ℕ) (me : Side) (fs : List Conflict)
    (c c1 : CoreState S) (cl : ℕ) → Dooms k me fs c c1 → core_use n segs i own c1 cl ≤ core_use n segs i own c cl
dooms_less {S} n segs i own k me [] c c1 cl d =
    subst (λ (z : CoreState S). core_use n segs i own z cl ≤ core_use n segs i own c cl) (sym d) (omega arith)
dooms_less {S} n segs i own k me (f ∷ fs) c c1 cl d = le_trans _ _ _
    (dooms_less n segs i own k me fs d.0 c1 cl d.2)
    (subst (λ (z : CoreState S). core_use n segs i own z cl ≤ core_use n segs i own c cl) (sym d.1.gives)
    (doom_less n segs i f.writer.segment own f c cl))
