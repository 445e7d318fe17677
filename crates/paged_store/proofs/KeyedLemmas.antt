-- The keys of a store's dictionaries stay keys and differ, and fixed records stay, over the store's calls.
use Rattle.std.proofs.Common.{◌≡◌, ◌≢◌, ℕ, true, false, eqb, List, [], ◌∷◌, append_assoc, slice_set, Option, Some, None, is_some, ◌⊎◌, inl, inr, refl, sym, ◌∙◌, ap, subst}
use Rattle.std.proofs.lemmas.Bool.{cond-true, cond-false}
use Rattle.std.proofs.lemmas.Bool.Decides.{eqb_tells}
use Rattle.py_base.specs.declared.kind.Kind.{Kind}
use Rattle.py_base.specs.declared.kind.Kind.TheVariants.{List as ListKind, Dict}
use Rattle.py_data.specs.declared.change.Change.{Change}
use Rattle.py_data.specs.declared.change.Change.TheVariants.{Set, Push, Cut, Pair, Unpair}
use Rattle.py_data.specs.declared.value.Value.{Value}
use Rattle.py_data.specs.Changes.{after, Allows, Suits, IsValuePlace}
use Rattle.py_data.specs.Heap.{Rec, Heap, Has, at, put_at, is_tracked}
use Rattle.py_data.specs.Sense.{IfThere}
use Rattle.py_data.specs.Shape.{ArePairs, KeysDiffer, HasShape, IsShaped}
use Rattle.py_data.proofs.Grow.{for_tracked}
use Rattle.py_data.proofs.PairLists.{pairs_last, differ_last, pairs_gone, differ_gone, pairs_set, differ_set}
use Rattle.py_data.proofs.Same.{one_rec}
use Rattle.py_data.proofs.Steps.{at_is}
use Rattle.dict_index.specs.Laws.{KeepsFixed}
use Rattle.dict_index.proofs.Kept.{pairs_kept}
use Rattle.seg_store.specs.Meaning.{Part, Meaning, over, overlay, sees, saw, holds, with_part}
use Rattle.seg_store.specs.Calls.{begun, marked, locked, changed, made, opened, undone, ended, after_begin, after_mark, after_lock, after_change, after_make, after_open, after_undo, after_publish, after_drop}
use Rattle.seg_store.specs.Store.{CanChange, IsStore, IsFree}
use Rattle.seg_store.proofs.Parts.{each_part}
use Rattle.seg_store.proofs.Sees.{same_heap, own_part, other_part, overlay_put, lock_shows}
use Rattle.paged_store.specs.inner.Keyed.{HasKeys, IsKeyed, StaysFixed, FallsBack}
use Rattle.paged_store.proofs.CountLemmas.{now_held, then_held}
use Rattle.paged_store.proofs.Keeping.{unheld}

-- ---- heaps with another record at an address

-- no record or one of any kind in the place of none, or of one that isn't fixed
put_fixed : (h : Heap) (a : ℕ) (r : Rec) → ((q : Rec) → h a ≡ Some q → is_tracked q.kind ≡ false → ⊥)
    → KeepsFixed h (put_at h a r)
put_fixed h a r none = λ b q e t. elim (eqb_tells b a) [
  | inl y ↦ absurd (none q (ap h (sym y.1) ∙ e) t)
  | inr n ↦ cond-false (eqb b a) (Some r) (h b) n.0 ∙ e
]

put_keys : (h : Heap) (a : ℕ) (r : Rec) → KeepsFixed h (put_at h a r)
    → (r.kind ≡ Dict → ArePairs h r.values × KeysDiffer h r.values) → HasKeys h → HasKeys (put_at h a r)
put_keys h a r keeps new w = record {
  dicts = λ b q e d. let p = before b q e d in pairs_kept h (put_at h a r) q.values keeps p.0 p.1;
}
  where
    before : (b : ℕ) (q : Rec) → put_at h a r b ≡ Some q → q.kind ≡ Dict → ArePairs h q.values × KeysDiffer h q.values
    before b q e d = elim (eqb_tells b a) [
      | inl y ↦
          let s : r ≡ q = one_rec (put_at h a r b) q r e (cond-true (eqb b a) (Some r) (h b) y.0) in
          subst (λ (x : Rec). ArePairs h x.values × KeysDiffer h x.values) s (new (ap (λ (x : Rec). x.kind) s ∙ d))
      | inr n ↦ w.dicts b q (sym (cond-false (eqb b a) (Some r) (h b) n.0) ∙ e) d
    ]

-- ---- what one segment has in hand

record IsHand (image : Heap) (p : Part) : Type 0 where
  now : HasKeys (overlay image p.changes)
  before : HasKeys (overlay image p.kept)
  fixed : KeepsFixed image (overlay image p.changes)
  fixed_before : KeepsFixed image (overlay image p.kept)
  since : KeepsFixed (overlay image p.kept) (overlay image p.changes)

hand_of : (m : Meaning) (k : ℕ) → IsKeyed m → IsHand m.image (m.part k)
hand_of m k w = record {
  now = w.now k;
  before = w.before k;
  fixed = w.fixed k;
  fixed_before = w.fixed_before k;
  since = w.since k;
}

of_hands : (m : Meaning) → HasKeys m.image → ((k : ℕ) → IsHand m.image (m.part k)) → IsKeyed m
of_hands m image each = record {
  image = image;
  now = λ k. (each k).now;
  before = λ k. (each k).before;
  fixed = λ k. (each k).fixed;
  fixed_before = λ k. (each k).fixed_before;
  since = λ k. (each k).since;
}

keyed_part : (m : Meaning) (k : ℕ) (p : Part) → IsHand m.image p → IsKeyed m → IsKeyed (with_part k p m)
keyed_part m k p own w = of_hands (with_part k p m) w.image
    (each_part (λ j q. IsHand m.image q) k p m own (λ j d. hand_of m j w))

-- what segment k has in hand is these heaps
hand_as : (image h g : Heap) (p : Part) → overlay image p.changes ≡ h → overlay image p.kept ≡ g → HasKeys h
    → HasKeys g → KeepsFixed image h → KeepsFixed image g → KeepsFixed g h → IsHand image p
hand_as image h g p seen before now then fixed fixed_before since = record {
  now = subst HasKeys (sym seen) now;
  before = subst HasKeys (sym before) then;
  fixed = subst (KeepsFixed image) (sym seen) fixed;
  fixed_before = subst (KeepsFixed image) (sym before) fixed_before;
  since = subst (λ (x : Heap). KeepsFixed x (overlay image p.changes)) (sym before)
      (subst (KeepsFixed g) (sym seen) since);
}

-- the heaps that a segment had
same_hand : (m : Meaning) (k : ℕ) (p : Part) → IsKeyed m → overlay m.image p.changes ≡ sees m k
    → overlay m.image p.kept ≡ saw m k → IsHand m.image p
same_hand m k p w seen before = hand_as m.image (sees m k) (saw m k) p seen before (w.now k) (w.before k) (w.fixed k)
    (w.fixed_before k) (w.since k)

-- one heap, now and as the step began
one_hand : (image h : Heap) (p : Part) → overlay image p.changes ≡ h → overlay image p.kept ≡ h → HasKeys h
    → KeepsFixed image h → IsHand image p
one_hand image h p seen before keys fixed = hand_as image h h p seen before keys keys fixed fixed (λ a r e t. e)

-- a record that segment k puts
keyed_put : (m : Meaning) (k a : ℕ) (r : Rec) (p : Part) → p.changes ≡ put_at (m.part k).changes a r
    → p.kept ≡ (m.part k).kept → KeepsFixed (sees m k) (put_at (sees m k) a r)
    → (r.kind ≡ Dict → ArePairs (sees m k) r.values × KeysDiffer (sees m k) r.values) → IsKeyed m
    → IsKeyed (with_part k p m)
keyed_put m k a r p changes kept keeps new w = keyed_part m k p
    (hand_as m.image (put_at (sees m k) a r) (saw m k) p
    (ap (overlay m.image) changes ∙ overlay_put m.image (m.part k).changes a r) (ap (overlay m.image) kept)
    (put_keys (sees m k) a r keeps new (w.now k)) (w.before k) (λ b q e t. keeps b q (w.fixed k b q e t) t)
    (w.fixed_before k) (λ b q e t. keeps b q (w.since k b q e t) t)) w

-- ---- fixed records

-- with another part for segment k
stays_part : (m : Meaning) (k : ℕ) (p : Part) → KeepsFixed (sees m k) (overlay m.image p.changes)
    → KeepsFixed (saw m k) (overlay m.image p.kept) → StaysFixed m (with_part k p m)
stays_part m k p now before = record {
  image = λ a r e t. e;
  now = each_part (λ j q. KeepsFixed (sees m j) (overlay m.image q.changes)) k p m now (λ j d a r e t. e);
  before = each_part (λ j q. KeepsFixed (saw m j) (overlay m.image q.kept)) k p m before (λ j d a r e t. e);
}

stays_same : (m : Meaning) (k : ℕ) (p : Part) → overlay m.image p.changes ≡ sees m k
    → overlay m.image p.kept ≡ saw m k → StaysFixed m (with_part k p m)
stays_same m k p seen before = stays_part m k p (subst (KeepsFixed (sees m k)) (sym seen) (λ a r e t. e))
    (subst (KeepsFixed (saw m k)) (sym before) (λ a r e t. e))

stays_put : (m : Meaning) (k a : ℕ) (r : Rec) (p : Part) → p.changes ≡ put_at (m.part k).changes a r
    → p.kept ≡ (m.part k).kept → KeepsFixed (sees m k) (put_at (sees m k) a r) → StaysFixed m (with_part k p m)
stays_put m k a r p changes kept keeps = stays_part m k p
    (subst (KeepsFixed (sees m k)) (sym (ap (overlay m.image) changes ∙ overlay_put m.image (m.part k).changes a r))
    keeps)
    (subst (KeepsFixed (saw m k)) (sym (ap (overlay m.image) kept)) (λ b q e t. e))

-- segment k has heap h again
falls_part : (m : Meaning) (k : ℕ) (p : Part) (h : Heap) → KeepsFixed h (overlay m.image p.changes)
    → KeepsFixed h (overlay m.image p.kept) → FallsBack k h m (with_part k p m)
falls_part m k p h now before = record {
  image = λ a r e t. e;
  now = λ j d. subst (λ (q : Part). KeepsFixed (sees m j) (overlay m.image q.changes)) (sym (other_part k p m j d))
      (λ a r e t. e);
  before = λ j d. subst (λ (q : Part). KeepsFixed (saw m j) (overlay m.image q.kept)) (sym (other_part k p m j d))
      (λ a r e t. e);
  own = subst (λ (q : Part). KeepsFixed h (overlay m.image q.changes)) (sym (own_part k p m)) now;
  own_before = subst (λ (q : Part). KeepsFixed h (overlay m.image q.kept)) (sym (own_part k p m)) before;
}

-- ---- what a store has of keys

-- the keys of a dictionary that a segment sees
pub dict_keys : (m : Meaning) (k d : ℕ) (r : Rec) → IsKeyed m → sees m k d ≡ Some r → r.kind ≡ Dict
    → ArePairs (sees m k) r.values × KeysDiffer (sees m k) r.values
dict_keys m k d r w e f = (w.now k).dicts d r e f

-- a store without records
pub keyed_new : (m : Meaning) → ((a : ℕ) → m.image a ≡ None) → ((j a : ℕ) → (m.part j).changes a ≡ None)
    → ((j a : ℕ) → (m.part j).kept a ≡ None) → IsKeyed m
keyed_new m image changes kept = of_hands m (keys m.image image) (λ j. record {
  now = keys (sees m j) (seen j);
  before = keys (saw m j) (before j);
  fixed = λ a r e t. absurd (none m.image a r (image a) e);
  fixed_before = λ a r e t. absurd (none m.image a r (image a) e);
  since = λ a r e t. absurd (none (saw m j) a r (before j a) e);
})
  where
    none : (h : Heap) (a : ℕ) (r : Rec) → h a ≡ None → h a ≡ Some r → ⊥
    none h a r e f = let z : None ≡ Some r = sym e ∙ f in cc

    keys : (h : Heap) → ((a : ℕ) → h a ≡ None) → HasKeys h
    keys h e = record { dicts = λ a r f d. absurd (none h a r (e a) f) }

    seen : (j a : ℕ) → sees m j a ≡ None
    seen j a = ap (λ o. over o (m.image a)) (changes j a) ∙ image a

    before : (j a : ℕ) → saw m j a ≡ None
    before j a = ap (λ o. over o (m.image a)) (kept j a) ∙ image a

-- the same image, and what each segment sees and saw
pub keyed_same : (m u : Meaning) → IsKeyed m → u.image ≡ m.image → ((j a : ℕ) → sees u j a ≡ sees m j a)
    → ((j a : ℕ) → saw u j a ≡ saw m j a) → IsKeyed u
keyed_same m u w image seen before = of_hands u (subst HasKeys (sym image) w.image) (λ j.
    hand_as u.image (sees m j) (saw m j) (u.part j) (same_heap (sees u j) (sees m j) (seen j))
    (same_heap (saw u j) (saw m j) (before j)) (w.now j) (w.before j)
    (subst (λ (h : Heap). KeepsFixed h (sees m j)) (sym image) (w.fixed j))
    (subst (λ (h : Heap). KeepsFixed h (saw m j)) (sym image) (w.fixed_before j)) (w.since j))

-- ---- looks and locks

pub keyed_begin : (m : Meaning) (k : ℕ) → IsKeyed m → IsKeyed (after_begin k m)
keyed_begin m k w = keyed_part m k (begun (m.part k)) (same_hand m k (begun (m.part k)) w refl refl) w

pub fixed_begin : (m : Meaning) (k : ℕ) → StaysFixed m (after_begin k m)
fixed_begin m k = stays_same m k (begun (m.part k)) refl refl

pub keyed_mark : (m : Meaning) (k a : ℕ) → IsKeyed m → IsKeyed (after_mark k a m)
keyed_mark m k a w = keyed_part m k (marked a (m.part k)) (same_hand m k (marked a (m.part k)) w refl refl) w

pub fixed_mark : (m : Meaning) (k a : ℕ) → StaysFixed m (after_mark k a m)
fixed_mark m k a = stays_same m k (marked a (m.part k)) refl refl

module _ (r : ℕ) (m : Meaning) (k a : ℕ) (store : IsStore r m) (there : Has (sees m k) a) where
  abbrev lock : Part
  lock = locked a (at (sees m k) a) (m.part k)

  lock_seen : overlay m.image lock.changes ≡ sees m k
  lock_seen = sym (ap (λ (q : Part). overlay m.image q.changes) (own_part k lock m)) ∙
      (lock_shows r m k a store there).seen

  lock_before : overlay m.image lock.kept ≡ saw m k
  lock_before = sym (ap (λ (q : Part). overlay m.image q.kept) (own_part k lock m)) ∙
      (lock_shows r m k a store there).before

  pub keyed_lock : IsKeyed m → IsKeyed (after_lock k a m)
  keyed_lock w = keyed_part m k lock (same_hand m k lock w lock_seen lock_before) w

  pub fixed_lock : StaysFixed m (after_lock k a m)
  fixed_lock = stays_same m k lock lock_seen lock_before

-- ---- a record that is changed

-- a change leaves a dictionary one
keys_after : (h : Heap) (c : Change) (r : Rec) → Allows c r → Suits false h c r
    → (r.kind ≡ Dict → ArePairs h r.values × KeysDiffer h r.values) → (after c r).kind ≡ Dict
    → ArePairs h (after c r).values × KeysDiffer h (after c r).values
keys_after h (Set i x) r l s w d =
    let p : IsValuePlace Dict i = subst (λ z. IsValuePlace z i) d s in
    let v = w d in
    subst (λ j. ArePairs h (slice_set r.values j x) × KeysDiffer h (slice_set r.values j x)) (sym p.1)
    (pairs_set h r.values p.0 x v.0, differ_set h r.values p.0 x v.0 v.1)
keys_after h (Push x) r l s w d = absurd (let z : ListKind ≡ Dict = sym l.0 ∙ d in cc)
keys_after h (Cut n) r l s w d = absurd (let z : ListKind ≡ Dict = sym l.0 ∙ d in cc)
keys_after h (Pair key x) r l s w d =
    let v = w d in
    subst (λ vs. ArePairs h vs × KeysDiffer h vs) (sym (append_assoc r.values (key ∷ []) (x ∷ [])))
    (pairs_last h r.values key x v.0 s.0.1, differ_last h r.values key x v.0 v.1 s.1)
keys_after h (Unpair n) r l s w d =
    let v = w d in (pairs_gone h r.values n v.0, differ_gone h r.values n v.0 v.1)

module _ (m : Meaning) (k a : ℕ) (c : Change) (can : CanChange (sees m k) a c) where
  -- the record that is changed
  found : (r : Rec) × (sees m k a ≡ Some r) × (Allows c r × Suits false (sees m k) c r)
  found = by (sees m k a) refl can
    where
      by : (o : Option Rec) → sees m k a ≡ o → IfThere false o (λ r. Allows c r × Suits false (sees m k) c r)
          → (r : Rec) × (sees m k a ≡ Some r) × (Allows c r × Suits false (sees m k) c r)
      by None e f = absurd (let z : false ≡ true = f in cc)
      by (Some r) e f = (r, e, f)

  abbrev new : Rec
  new = after c (at (sees m k) a)

  change_keeps : KeepsFixed (sees m k) (put_at (sees m k) a new)
  change_keeps = put_fixed (sees m k) a new (λ q e t.
      let s : q ≡ found.0 = one_rec (sees m k a) found.0 q found.1 e in
      let z : true ≡ false = sym (for_tracked c found.0.kind found.2.0.0) ∙
      sym (ap (λ (x : Rec). is_tracked x.kind) s) ∙ t in
      cc)

  change_keys : HasKeys (sees m k) → new.kind ≡ Dict → ArePairs (sees m k) new.values × KeysDiffer (sees m k) new.values
  change_keys w = subst
      (λ (x : Rec). (after c x).kind ≡ Dict → ArePairs (sees m k) (after c x).values ×
      KeysDiffer (sees m k) (after c x).values) (sym (at_is (sees m k) a found.0 found.1))
      (keys_after (sees m k) c found.0 found.2.0 found.2.1 (w.dicts a found.0 found.1))

pub keyed_change : (m : Meaning) (k a : ℕ) (c : Change) → IsKeyed m → CanChange (sees m k) a c
    → IsKeyed (after_change k a (after c) m)
keyed_change m k a c w can = keyed_put m k a (new m k a c can) (changed a (new m k a c can) (m.part k)) refl refl
    (change_keeps m k a c can) (change_keys m k a c can (w.now k)) w

pub fixed_change : (m : Meaning) (k a : ℕ) (c : Change) → CanChange (sees m k) a c
    → StaysFixed m (after_change k a (after c) m)
fixed_change m k a c can = stays_put m k a (new m k a c can) (changed a (new m k a c can) (m.part k)) refl refl
    (change_keeps m k a c can)

-- ---- a record that is made

dict_shape : (h : Heap) (k : Kind) (vs : List Value) → HasShape h k vs → k ≡ Dict → ArePairs h vs × KeysDiffer h vs
dict_shape h k vs s e = by vs (subst (λ z. HasShape h z vs) e s)
  where
    by : (vs : List Value) → HasShape h Dict vs → ArePairs h vs × KeysDiffer h vs
    by [] s = s
    by (x ∷ []) s = s
    by (x ∷ y ∷ vs) s = s

make_keeps : (m : Meaning) (k n : ℕ) (r : Rec) → IsFree m n → KeepsFixed (sees m k) (put_at (sees m k) n r)
make_keeps m k n r free = put_fixed (sees m k) n r (λ q e t.
    let z : None ≡ Some q = sym (ap (λ o. over o (m.image n)) (free.changes k) ∙ free.image) ∙ e in cc)

pub keyed_make : (m : Meaning) (k n : ℕ) (r : Rec) → IsFree m n → IsShaped (sees m k) r → IsKeyed m
    → IsKeyed (after_make k n r m)
keyed_make m k n r free shape w = keyed_put m k n r (made n r (m.part k)) refl refl (make_keeps m k n r free)
    (dict_shape (sees m k) r.kind r.values shape.0) w

pub fixed_make : (m : Meaning) (k n : ℕ) (r : Rec) → IsFree m n → StaysFixed m (after_make k n r m)
fixed_make m k n r free = stays_put m k n r (made n r (m.part k)) refl refl (make_keeps m k n r free)

-- ---- a step begins or is taken back, and a transaction's changes are dropped

pub keyed_open : (m : Meaning) (k : ℕ) → IsKeyed m → IsKeyed (after_open k m)
keyed_open m k w = keyed_part m k (opened (m.part k))
    (one_hand m.image (sees m k) (opened (m.part k)) refl refl (w.now k) (w.fixed k)) w

pub fixed_open : (m : Meaning) (k : ℕ) → IsKeyed m → StaysFixed m (after_open k m)
fixed_open m k w = stays_part m k (opened (m.part k)) (λ a r e t. e) (w.since k)

pub keyed_undo : (m : Meaning) (k : ℕ) → IsKeyed m → IsKeyed (after_undo k m)
keyed_undo m k w = keyed_part m k (undone (m.part k))
    (one_hand m.image (saw m k) (undone (m.part k)) refl refl (w.before k) (w.fixed_before k)) w

pub fixed_undo : (m : Meaning) (k : ℕ) → FallsBack k (saw m k) m (after_undo k m)
fixed_undo m k = falls_part m k (undone (m.part k)) (saw m k) (λ a r e t. e) (λ a r e t. e)

pub keyed_drop : (m : Meaning) (k : ℕ) → IsKeyed m → IsKeyed (after_drop k m)
keyed_drop m k w = keyed_part m k (ended (m.part k))
    (one_hand m.image m.image (ended (m.part k)) refl refl w.image (λ a r e t. e)) w

pub fixed_drop : (m : Meaning) (k : ℕ) → FallsBack k m.image m (after_drop k m)
fixed_drop m k = falls_part m k (ended (m.part k)) m.image (λ a r e t. e) (λ a r e t. e)

-- ---- what a segment holds becomes the image's

-- a record of the new image, or one of those that lie over both
over_either : (o x y : Option Rec) (r : Rec) → over o y ≡ Some r → (y ≡ Some r) ⊎ (over o x ≡ Some r)
over_either None x y r e = inl e
over_either (Some q) x y r e = inr e

-- where the images are the same below what lies over them
over_same : (o x y : Option Rec) (r : Rec) → (is_some o ≡ true → y ≡ x) → (x ≡ Some r → over o x ≡ Some r)
    → y ≡ Some r → over o y ≡ Some r
over_same None x y r e f g = g
over_same (Some q) x y r e f g = f (sym (e refl) ∙ g)

over_moved : (o x y : Option Rec) (r : Rec) → (x ≡ Some r → y ≡ Some r) → over o x ≡ Some r → over o y ≡ Some r
over_moved None x y r f e = f e
over_moved (Some q) x y r f e = e

-- what segment j has in hand over the image g that another makes of i, which differs from i in no record that j holds
module _ (i g : Heap) (p : Part) (w : IsHand i p) (keeps : KeepsFixed i g) (keys : HasKeys g)
    (now_apart : (a : ℕ) → is_some (p.changes a) ≡ true → g a ≡ i a)
    (then_apart : (a : ℕ) → is_some (p.kept a) ≡ true → g a ≡ i a) where
  module _ (c : Heap) (own : KeepsFixed i (overlay i c)) (apart : (a : ℕ) → is_some (c a) ≡ true → g a ≡ i a) where
    keeps_new : KeepsFixed g (overlay g c)
    keeps_new = λ a r e t. over_same (c a) (i a) (g a) r (apart a) (λ f. own a r f t) e

    keeps_old : KeepsFixed (overlay i c) (overlay g c)
    keeps_old = λ a r e t. over_moved (c a) (i a) (g a) r (λ f. keeps a r f t) e

    keys_over : HasKeys (overlay i c) → HasKeys (overlay g c)
    keys_over v = record {
      dicts = λ a r e d. elim (over_either (c a) (i a) (g a) r e) [
        | inl x ↦ let q = keys.dicts a r x d in pairs_kept g (overlay g c) r.values keeps_new q.0 q.1
        | inr x ↦ let q = v.dicts a r x d in pairs_kept (overlay i c) (overlay g c) r.values keeps_old q.0 q.1
      ];
    }

  keeps_since : KeepsFixed (overlay g p.kept) (overlay g p.changes)
  keeps_since = λ a r e t. elim (over_either (p.kept a) (i a) (g a) r e) [
    | inl x ↦ keeps_new p.changes w.fixed now_apart a r x t
    | inr x ↦ keeps_old p.changes w.fixed now_apart a r (w.since a r x t) t
  ]

  hand_over : IsHand g p
  hand_over = record {
    now = keys_over p.changes w.fixed now_apart w.now;
    before = keys_over p.kept w.fixed_before then_apart w.before;
    fixed = keeps_new p.changes w.fixed now_apart;
    fixed_before = keeps_new p.kept w.fixed_before then_apart;
    since = keeps_since;
  }

module _ (r : ℕ) (m : Meaning) (k : ℕ) (store : IsStore r m) (w : IsKeyed m) where
  others_apart : (j a : ℕ) → j ≢ k → holds (m.part j) a ≡ true → sees m k a ≡ m.image a
  others_apart j a d h = unheld r m k a store (store.apart j k a d h)

  pub keyed_publish : IsKeyed (after_publish k m)
  keyed_publish = of_hands (after_publish k m) (w.now k)
      (each_part (λ j q. IsHand (sees m k) q) k (ended (m.part k)) m
      (one_hand (sees m k) (sees m k) (ended (m.part k)) refl refl (w.now k) (λ a q e t. e))
      (λ j d. hand_over m.image (sees m k) (m.part j) (hand_of m j w) (w.fixed k) (w.now k)
      (λ a e. others_apart j a d (now_held r m k store j a e))
      (λ a e. others_apart j a d (then_held r m k store j a e))))

  pub fixed_publish : StaysFixed m (after_publish k m)
  fixed_publish = record {
    image = w.fixed k;
    now = each_part (λ j q. KeepsFixed (sees m j) (overlay (sees m k) q.changes)) k (ended (m.part k)) m
        (λ a q e t. e)
        (λ j d a q e t. over_moved ((m.part j).changes a) (m.image a) (sees m k a) q (λ f. w.fixed k a q f t) e);
    before = each_part (λ j q. KeepsFixed (saw m j) (overlay (sees m k) q.kept)) k (ended (m.part k)) m (w.since k)
        (λ j d a q e t. over_moved ((m.part j).kept a) (m.image a) (sees m k a) q (λ f. w.fixed k a q f t) e);
  }
