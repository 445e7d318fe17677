-- From how far peaks rise in a store to what was in use at once.
use Rattle.std.proofs.Common.{◌≡◌, ◌⊎◌, inl, inr, ℕ, zero, suc, ◌+◌, ◌-◌, ◌/◌, ◌<◌, ◌≤◌, Bool, true, false, cond, eqb, leb, max, List, Option, Some, None, is_some, slice_get, refl, sym, ap, subst, ◌∙◌, arith}
use Rattle.std.proofs.lemmas.Bool.{cases_Bool, both_ways, eqb-true, eqb-false, eq-eqb, cond-true, cond-false, leb-true, leb-false}
use Rattle.std.proofs.lemmas.Bool.Decides.{eqb_tells}
use Rattle.py_data.specs.Changes.{after}
use Rattle.py_data.specs.Heap.{Heap, Rec, at}
use Rattle.py_data.specs.Row.{Call, Reply, Ret, Do, Read, Find, Edit, Make, Start, Put, Take, MidLine, SetMidLine}
use Rattle.py_data.specs.Sight.{Sight, Act}
use Rattle.py_data.proofs.Grow.{with_rec_here}
use Rattle.py_data.proofs.Steps.{at_is}
use Rattle.lock_run.specs.Client.{WaitsQuietly, StaysSound, IsSafe}
use Rattle.lock_run.specs.Prog.{Prog}
use Rattle.lock_run.specs.Machine.{Machine}
use Rattle.seg_store.specs.Meaning.{Meaning, over, sees, holds}
use Rattle.seg_store.specs.Store.{IsStore}
use Rattle.seg_store.specs.Extents.{extents, extents_of}
use Rattle.seg_store.specs.Sums.{sum_below, asked, gained}
use Rattle.seg_store.specs.Telling.{in_use}
use Rattle.stm_segment.specs.declared.books.Progress.{Progress}
use Rattle.stm_segment.specs.declared.books.Books.{Books}
use Rattle.stm_segment.specs.declared.books.Hand.{Hand}
use Rattle.stm_segment.specs.declared.books.Hand.TheVariants as hand
use Rattle.stm_segment.specs.Books.{Worlds, is_running, segment_of, core_of, Fit}
use Rattle.stm_segment.specs.CoreState.{Segment, Idle, Doomed, Running, CoreState, committed, sight_of}
use Rattle.stm_core.specs.Good.{Good}
use Rattle.heap_bound.specs.Moments.{More, IsAsked, InUse}
use Rattle.stm_segment.specs.InUse.{seg_view, core_use, wants_more, RisesUpTo}
use Rattle.heap_bound.specs.Using.{Lifts}
use Rattle.heap_bound.specs.Laws.{StoreLaw, UseLaw, TellsLaw, TellsRefusedLaw, ChainLaw, RiseLaw}
use Rattle.heap_bound.proofs.Summing.{below_le, below_more}
use Rattle.heap_bound.proofs.Larger.{more_refl, act_more}
use Rattle.heap_bound.proofs.Reaching.{stands_shown, place_through, place_above}
use Rattle.heap_bound.proofs.Cutting.{stands_asked, stands_at, transaction_asked}

-- ---- sums

gained_more : (n : ℕ) (h g f : Heap) (c : ℕ) → More g f → gained n h g c ≤ gained n h f c
gained_more n h g f c m = below_le n (λ a. extents_of (g a) c - extents_of (h a) c)
    (λ a. extents_of (f a) c - extents_of (h a) c) (λ a l. less (extents_of (g a) c) (extents_of (f a) c)
    (extents_of (h a) c) (m.more a c))
  where
    less : (x y z : ℕ) → x ≤ y → x - z ≤ y - z
    less x y z l = omega arith

-- one term is so much more, and none is less
below_at : (n a d : ℕ) (f g : ℕ → ℕ) → a < n → ((b : ℕ) → f b ≤ g b) → f a + d ≤ g a → sum_below n f + d ≤ sum_below n g
unfolding sum_below
below_at zero a d f g l h k = absurd (omega arith)
below_at (suc n) a d f g l h k = elim (eqb_tells n a) [
  | inl e ↦
      let s : sum_below n f ≤ sum_below n g = below_le n f g (λ b bl. h b) in
      let x : f n ≡ f a = ap f e.1 in
      let y : g n ≡ g a = ap g e.1 in
      omega arith
  | inr e ↦
      let ne = e.1 in
      let ih : sum_below n f + d ≤ sum_below n g = below_at n a d f g (grind arith) h k in
      let q : f n ≤ g n = h n in
      omega arith
]

-- ---- what the store has in use is what the core has, while segment k is out of its hand

module _ {S : Type 0} (w : Worlds) (r k : ℕ) (m : Meaning) (b : Books S) (p : Progress S) (st : IsStore r m)
    (fit : Fit k m b p) where
  abbrev Bare : ℕ → Type 0
  Bare j = (a : ℕ) → holds (m.part j) a ≡ true → ⊥

  none_held : (o i : Option Rec) → (is_some o ≡ true → ⊥) → over o i ≡ i
  none_held None i n = refl
  none_held (Some r) i n = absurd (n refl)

  bare : (j : ℕ) → Bare j → More (sees m j) m.image
  bare j n = subst (λ h. More h m.image) (λ i a. sym (same a) i) (more_refl m.image)
    where
      same : (a : ℕ) → sees m j a ≡ m.image a
      same a = none_held ((m.part j).changes a) (m.image a) (λ e. n a (sym (st.changes j a) ∙ e))

  hand_view : (j : ℕ) (h : Option (Hand S)) → ((a : ℕ) → holds (m.part j) a ≡ true → is_running h ≡ true) →
      More (sees m j) (seg_view m.image (segment_of w.own (m.part j) h))
  hand_view j None n = bare j (λ a e. both_ways false refl (n a e))
  hand_view j (Some hand.Idle) n = bare j (λ a e. both_ways false refl (n a e))
  hand_view j (Some (hand.Doomed f)) n = bare j (λ a e. both_ways false refl (n a e))
  hand_view j (Some (hand.Runs x)) n = more_refl (sees m j)

  shown_there : ℕ → Heap
  shown_there j = cond (eqb j k) (sees m k) (seg_view m.image (segment_of w.own (m.part j) (slice_get b.hands.items j)))

  here : (j : ℕ) → More (sees m j) (shown_there j)
  unfolding shown_there
  here j = elim (cases_Bool (eqb j k)) [
    | inl y ↦ subst (More (sees m j)) (ap (sees m) (eqb-true j k y) ∙
        sym (cond-true (eqb j k) (sees m k) (seg_view m.image
        (segment_of w.own (m.part j) (slice_get b.hands.items j))) y)) (more_refl (sees m j))
    | inr n ↦ subst (More (sees m j))
        (sym (cond-false (eqb j k) (sees m k) (seg_view m.image
        (segment_of w.own (m.part j) (slice_get b.hands.items j))) n))
        (hand_view j (slice_get b.hands.items j) (λ a e. fit.holders j a (eqb-false j k n) e))
  ]

  in_use_is : (c : ℕ) → in_use m c ≤ core_use (m.limit / 2) m.segments k (sees m k) (core_of w m b) c
  unfolding in_use shown_there
  in_use_is c = under (asked (m.limit / 2) m.image c) _ _ (below_le m.segments
      (λ j. gained (m.limit / 2) m.image (sees m j) c) (λ j. gained (m.limit / 2) m.image (shown_there j) c)
      (λ j l. gained_more (m.limit / 2) m.image (sees m j) (shown_there j) c (here j)))
    where
      under : (a x y : ℕ) → x ≤ y → a + x ≤ a + y
      under a x y l = omega arith

pub store_law : {S : Type 0} → StoreLaw S
store_law w r k m b p c st fit = in_use_is w r k m b p st fit c

-- ---- a call that was done

-- leaves at least so many extents more, at some address
record Added {S : Type 0} (c : Call S) (h g : Heap) : Type 0 where
  pub address : ℕ
  pub more : (cl : ℕ) → extents_of (h address) cl + wants_more c h cl ≤ extents_of (g address) cl

added_none : {S : Type 0} (c : Call S) (h g : Heap) → ((cl : ℕ) → wants_more c h cl ≡ 0) → More h g → Added c h g
added_none c h g z m = record { address = 0; more = λ cl. let e = z cl in let l = m.more 0 cl in omega arith }

call_more : {S : Type 0} (c : Call S) (s : Sight S) (r : Reply c) (t : Sight S) → Act c s r t → Added c s.heap t.heap
call_more {S} (Edit a x) s r t d = record {
  address = a;
  more = λ cl. at_put cl ((act_more (Edit a x) s r t d).more a cl);
}
  where
    there : t.heap a ≡ Some (after x d.0)
    there = ap (λ (z : Sight S). z.heap a) d.3 ∙ with_rec_here a (after x d.0) s.heap

    at_put : (cl : ℕ) → extents_of (s.heap a) cl ≤ extents_of (t.heap a) cl →
        extents_of (s.heap a) cl + (extents (after x (at s.heap a)) cl - extents_of (s.heap a) cl) ≤
        extents_of (t.heap a) cl
    at_put cl l =
        let u : extents_of (t.heap a) cl ≡ extents (after x d.0) cl = ap (λ o. extents_of o cl) there in
        let v : extents (after x (at s.heap a)) cl ≡ extents (after x d.0) cl =
        ap (λ z. extents (after x z) cl) (at_is s.heap a d.0 d.1) in
        omega arith
call_more {S} (Make q) s a t d = record {
  address = a;
  more = λ cl.
      let u : extents_of (t.heap a) cl ≡ extents q cl = ap (λ o. extents_of o cl)
      (ap (λ (z : Sight S). z.heap a) d.1 ∙ with_rec_here a q s.heap) in
      let v : extents_of (s.heap a) cl ≡ 0 = ap (λ o. extents_of o cl) d.0 in
      omega arith;
}
call_more (Read a) s r t d = added_none (Read a) s.heap t.heap (λ cl. refl) (act_more (Read a) s r t d)
call_more (Find a key) s r t d = added_none (Find a key) s.heap t.heap (λ cl. refl) (act_more (Find a key) s r t d)
call_more (Start p) s r t d = added_none (Start p) s.heap t.heap (λ cl. refl) (act_more (Start p) s r t d)
call_more (Put on bytes) s r t d = added_none (Put on bytes) s.heap t.heap (λ cl. refl)
    (act_more (Put on bytes) s r t d)
call_more (Take most) s r t d = added_none (Take most) s.heap t.heap (λ cl. refl) (act_more (Take most) s r t d)
call_more MidLine s r t d = added_none MidLine s.heap t.heap (λ cl. refl) (act_more MidLine s r t d)
call_more (SetMidLine mid) s r t d = added_none (SetMidLine mid) s.heap t.heap (λ cl. refl)
    (act_more (SetMidLine mid) s r t d)

-- so a core that sees what the call left has so much more in use, counted far enough
module _ {S : Type 0} (n segs i : ℕ) (h g : Heap) (k : CoreState S) (c a d : ℕ) (within : i < segs)
    (low : More k.image h) (m : More h g) (more : extents_of (h a) c + d ≤ extents_of (g a) c) where
  wide : ℕ
  wide = n + suc a

  seen : Heap → ℕ → Heap
  seen z j = cond (eqb j i) z (seg_view k.image (k.segments j))

  pick : (b : Bool) (o : Heap) → More (cond b h o) (cond b g o)
  pick true o = m
  pick false o = more_refl o

  base : asked n k.image c ≤ asked wide k.image c
  unfolding wide
  base = below_more n (n + suc a) (λ b. extents_of (k.image b) c) (omega arith)

  grown : (j : ℕ) → gained n k.image (seen h j) c ≤ gained wide k.image (seen g j) c
  unfolding wide seen
  grown j = le_trans _ _ _ (gained_more n k.image (seen h j) (seen g j) c
      (pick (eqb j i) (seg_view k.image (k.segments j)))) (below_more n (n + suc a)
      (λ b. extents_of (seen g j b) c - extents_of (k.image b) c) (omega arith))
    where
      le_trans : (x y z : ℕ) → x ≤ y → y ≤ z → x ≤ z
      le_trans x y z a b = omega arith

  own : gained n k.image h c + d ≤ gained wide k.image g c
  unfolding wide
  own = le_trans _ _ _ (plus (below_more n (n + suc a) (λ b. extents_of (h b) c - extents_of (k.image b) c)
      (omega arith)))
      (below_at (n + suc a) a d (λ b. extents_of (h b) c - extents_of (k.image b) c)
      (λ b. extents_of (g b) c - extents_of (k.image b) c) (omega arith)
      (λ b. less (extents_of (h b) c) (extents_of (g b) c) (extents_of (k.image b) c) (m.more b c))
      (term (extents_of (k.image a) c) (extents_of (h a) c) (extents_of (g a) c) (low.more a c) more))
    where
      le_trans : (x y z : ℕ) → x ≤ y → y ≤ z → x ≤ z
      le_trans x y z a b = omega arith

      plus : {x y : ℕ} → x ≤ y → x + d ≤ y + d
      plus l = omega arith

      less : (x y z : ℕ) → x ≤ y → x - z ≤ y - z
      less x y z l = omega arith

      term : (x y z : ℕ) → x ≤ y → y + d ≤ z → (y - x) + d ≤ z - x
      term x y z l m = omega arith

  seen_own : (z : Heap) → seen z i ≡ z
  unfolding seen
  seen_own z = cond-true (eqb i i) z (seg_view k.image (k.segments i)) (eq-eqb i i refl)

  at_i : gained n k.image (seen h i) c + d ≤ gained wide k.image (seen g i) c
  at_i = subst (λ z. gained n k.image z c + d ≤ gained wide k.image (seen g i) c) (sym (seen_own h))
      (subst (λ z. gained n k.image h c + d ≤ gained wide k.image z c) (sym (seen_own g)) own)

  use_more : core_use n segs i h k c + d ≤ core_use (n + suc a) segs i g k c
  unfolding wide seen
  use_more = both _ _ _ _ base (below_at segs i d (λ j. gained n k.image (seen h j) c)
      (λ j. gained (n + suc a) k.image (seen g j) c) within grown at_i)
    where
      both : (x y z v : ℕ) → x ≤ y → z + d ≤ v → (x + z) + d ≤ y + v
      both x y z v l m = omega arith

-- ---- what was in use at once

module _ {S : Type 0} (p : Prog S) (start : Machine S) (most : ℕ) (k : CoreState S) (good : Good p start most k)
    (segs i : ℕ) where
  seg_asked : (j : ℕ) (s : Segment S) → k.segments j ≡ s → IsAsked p most (committed k) (seg_view k.image s)
  seg_asked j Idle e = inl refl
  seg_asked j (Doomed f) e = inl refl
  seg_asked j (Running y) e = stands_asked p start most k good j y e

  each_asked : (own : Heap) → IsAsked p most (committed k) own → (j : ℕ) → j < segs →
      IsAsked p most (committed k) (cond (eqb j i) own (seg_view k.image (k.segments j)))
  each_asked own a j l = pick (eqb j i)
    where
      pick : (b : Bool) → IsAsked p most (committed k) (cond b own (seg_view k.image (k.segments j)))
      pick true = a
      pick false = seg_asked j (k.segments j) refl

  -- what a core has in use, with a view that its steps ask for, was in use at once
  used_at_once : (n : ℕ) (own : Heap) → IsAsked p most (committed k) own → (c u : ℕ) → u ≤ core_use n segs i own k c →
      InUse p most segs (committed k) c u
  used_at_once n own a c u l = record {
    below = n;
    views = λ j. cond (eqb j i) own (seg_view k.image (k.segments j));
    each = each_asked own a;
    count = l;
  }

  asked_lifts : (n : ℕ) (own : Heap) (f g : ℕ → ℕ) → IsAsked p most (committed k) own →
      RisesUpTo f g (core_use n segs i own k) → Lifts p most segs (committed k) f g
  asked_lifts n own f g a r c lo = elim (r c lo) [ inl x ↦ inl x | inr x ↦ inr (used_at_once n own a c (g c) x) ]

pub use_law : {S : Type 0} → UseLaw S
use_law p start most segments n i k good own f g a r = asked_lifts p start most k good segments i n own f g a r

pub tells_law : TellsLaw
tells_law f g most r c lo = to_either (f c) (g c) (most c) (r c lo)
  where
    to_either : (x y z : ℕ) → y ≡ max x z → (y ≤ x) ⊎ (y ≤ z)
    to_either x y z e = elim (cases_Bool (leb z x)) [
      | inl l ↦ let k = leb-true z x l in inl (omega arith)
      | inr l ↦ let k = leb-false z x l in inr (omega arith)
    ]

pub tells_refused_law : TellsRefusedLaw
tells_refused_law f g most r c lo = to_either (f c) (g c) (most c) (r c lo).1
  where
    to_either : (x y z : ℕ) → y ≤ max x z → (y ≤ x) ⊎ (y ≤ z)
    to_either x y z e = elim (cases_Bool (leb z x)) [
      | inl l ↦ let k = leb-true z x l in inl (omega arith)
      | inr l ↦ let k = leb-false z x l in inr (omega arith)
    ]

pub chain_law : {S : Type 0} → ChainLaw S
chain_law {S} p most segments m f g h a b c lo = elim (b c lo) [
  | inl x ↦ elim (a c lo) [ inl y ↦ inl (omega arith) | inr u ↦ inr (less x u) ]
  | inr u ↦ inr u
]
  where
    less : h c ≤ g c → InUse p most segments m c (g c) → InUse p most segments m c (h c)
    less l u = record { below = u.below; views = u.views; each = u.each; count = let n = u.count in omega arith }

rises_wider : (f g u v : ℕ → ℕ) → RisesUpTo f g u → ((c : ℕ) → u c ≤ v c) → RisesUpTo f g v
rises_wider f g u v a l c lo = elim (a c lo) [ inl x ↦ inl x | inr x ↦ let z = l c in inr (omega arith) ]

module _ {S : Type 0} (p : Prog S) (sound : Heap → List S → Type 0) (law : StaysSound p sound) (safe : IsSafe p sound)
    (quiet : WaitsQuietly p) where
  pub rise_law : RiseLaw p sound
  rise_law start begins most segments n k good i x within g (Ret y) place upto f h r c lo =
      asked_lifts p start most k good segments i n place.heap f h
      (transaction_asked p sound law safe quiet start begins most k good i x g (Ret y) place upto)
      (rises_wider f h (λ c. core_use n segments i place.heap k c + 0) (core_use n segments i place.heap k) r
      (λ c. omega arith)) c lo
  rise_law start begins most segments n k good i x within g (Do call next) place upto f h r c lo =
      let st = good.stands i x g.runs in
      let ready = stands_at p sound law safe quiet start begins most k good i x g in
      let shown = stands_shown p k.image k.threads k.world x st in
      let th = place_through p quiet most (committed k) x.state st.sight (sight_of k.image k.world x) ready shown call
      next place upto in
      let low = place_above p quiet most (committed k) x.state st.sight (sight_of k.image k.world x) ready shown call
      next place upto in
      let added = call_more call place th.reply th.after_call th.act in
      elim (r c lo) [
        | inl l ↦ inl l
        | inr l ↦ inr (used_at_once p start most k good segments i (n + suc added.address) th.after_call.heap
            (inr (th.sight, th.came, th.more)) c (h c)
            (le_trans _ _ _ l (use_more n segments i place.heap th.after_call.heap k c added.address
            (wants_more call place.heap c) within low (act_more call place th.reply th.after_call th.act)
            (added.more c))))
      ]
    where
      le_trans : (x y z : ℕ) → x ≤ y → y ≤ z → x ≤ z
      le_trans x y z a b = omega arith
