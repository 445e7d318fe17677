-- Records of a list, by address.
use Rattle.std.proofs.Common.{◌≡◌, ◌≢◌, ◌⊎◌, inl, inr, ℕ, ◌<◌, ◌≤◌, zero, suc, Bool, true, false, cond, eqb, List, [], ◌∷◌, ◌++◌, length, take, take_all, replicate, Option, Some, None, Result, Ok, Err, IfOk, OnErr, is_some, slice_get, slice_set, slice_index_or, refl, sym, ◌∙◌, ap, subst, arith}
use Rattle.std.proofs.lemmas.Bool.{cond-true, cond-false}
use Rattle.std.proofs.lemmas.Bool.Decides.{eqb_tells}
use Rattle.std.proofs.lemmas.Option.{slice_get_within, slice_get_past, slice_get-get_or, some_pair_parts, same_Some}
use Rattle.std.specs.declared.alloc.AllocError.{AllocError}
use Rattle.py_data.specs.declared.change.Change.{Change}
use Rattle.py_data.specs.declared.undo.Undo.{Undo}
use Rattle.py_data.specs.Changes.{Allows}
use Rattle.py_data.specs.Heap.{Rec, Heap, put_at}
use Rattle.py_data.specs.Sense.{IfThere}
use Rattle.seg_store.specs.inner.Images.{image_in}
use Rattle.seg_store.specs.Meaning.{overlay}
use Rattle.py_data.specs.Journal.{IsChanged, restore_at}
use Rattle.seg_store.specs.inner.Placed.{Slot, record_at, found_at, records_in, IsPlaced, IsSlotChanged}
use Rattle.seg_store.proofs.Moving.{IsMoved, moved_one, moved_all}
use Rattle.seg_store.proofs.Sees.{same_heap, same_number, other_number}
use Rattle.seg_store.proofs.Slices.{set_table, push_table}

-- the list is placed, and has these records
pub record Has (places : ℕ → Option ℕ) (l : ℕ → Option Slot) (h : Heap) : Type 0 where
  pub placed : IsPlaced places l
  pub heap : records_in places l ≡ h

own_record : (a : ℕ) (o : Option Rec) → record_at a (Some (a, o)) ≡ o
own_record a o = cond-true (eqb a a) o None (same_number a)

other_record : (b a : ℕ) (o : Option Rec) → b ≢ a → record_at b (Some (a, o)) ≡ None
other_record b a o d = cond-false (eqb a b) o None (other_number a b (λ e. d (sym e)))

gone_record : (b a : ℕ) → record_at b (Some (a, None)) ≡ None
gone_record b a = by_test (eqb a b)
  where
    by_test : (t : Bool) → ◌≡◌ {A = Option Rec} (cond t None None) None
    by_test true = refl
    by_test false = refl

-- what is found is in the list
pub found_slot : (a : ℕ) (x : Option Slot) (h : Option Rec) → record_at a x ≡ h → is_some h ≡ true → x ≡ Some (a, h)
found_slot a None h e s = let q : is_some h ≡ false = ap is_some (sym e) in cc
found_slot a (Some f) h e s = here f (eqb_tells f.0 a) e
  where
    here : (f : Slot) → ((eqb f.0 a ≡ true) × (f.0 ≡ a)) ⊎ ((eqb f.0 a ≡ false) × (f.0 ≢ a)) →
        cond (eqb f.0 a) f.1 None ≡ h → Some f ≡ Some (a, h)
    here f (inl y) e = let q : f.1 ≡ h = sym (cond-true (eqb f.0 a) f.1 None y.0) ∙ e in let p : f.0 ≡ a = y.1 in λ i.
        Some (p i, q i)
    here f (inr n) e = let q : None ≡ h = sym (cond-false (eqb f.0 a) f.1 None n.0) ∙ e in let z : is_some h ≡ false =
        ap is_some (sym q) in cc

-- an address that has no place has no record anywhere
free_place : (places : ℕ → Option ℕ) (l : ℕ → Option Slot) → IsPlaced places l → (b : ℕ) → places b ≡ None → (p : ℕ) →
    record_at b (l p) ≡ None
free_place places l w b e p = by_record (record_at b (l p)) refl
  where
    by_record : (o : Option Rec) → record_at b (l p) ≡ o → record_at b (l p) ≡ None
    by_record None q = q
    by_record (Some r) q = let s : places b ≡ Some p = w.each p b r (found_slot b (l p) (Some r) q refl) in cc

-- more places
pub more_places : (places places1 : ℕ → Option ℕ) (l : ℕ → Option Slot) → IsPlaced places l →
    ((b i : ℕ) → places b ≡ Some i → places1 b ≡ Some i) → Has places1 l (records_in places l)
more_places places places1 l w f = record {
  placed = record { each = λ i a r e. f a i (w.each i a r e) };
  heap = same_heap _ _ (λ b. by_place b (places b) refl (places1 b) refl);
}
  where
    by_place : (b : ℕ) (x : Option ℕ) → places b ≡ x → (y : Option ℕ) → places1 b ≡ y →
        found_at b (places1 b) l ≡ found_at b (places b) l
    by_place b (Some p) e y g = ap (λ x. found_at b x l) (f b p e ∙ sym e)
    by_place b None e None g = ap (λ x. found_at b x l) (g ∙ sym e)
    by_place b None e (Some p) g = ap (λ x. found_at b x l) g ∙ free_place places l w b e p ∙
        sym (ap (λ x. found_at b x l) e)

get_more : {T : Type 0} (xs ys : List T) (i : ℕ) (x : T) → slice_get xs i ≡ Some x → slice_get (xs ++ ys) i ≡ Some x
get_more [] ys i x e = cc
get_more (y ∷ xs) ys zero x e = e
get_more (y ∷ xs) ys (suc i) x e = get_more xs ys i x e

pub reached : (ps qs : List ℕ) (k : ℕ) (l : ℕ → Option Slot) → IsPlaced (slice_get ps) l → qs ≡ ps ++ replicate k 0 →
    Has (slice_get qs) l (records_in (slice_get ps) l)
reached ps qs k l w e = rw e (more_places (slice_get ps) (slice_get (ps ++ replicate k 0)) l w
    (λ b i f. get_more ps (replicate k 0) b i f))

pub reached_resize : (ps qs : List ℕ) (n k : ℕ) (l : ℕ → Option Slot) → IsPlaced (slice_get ps) l → length ps ≤ n →
    qs ≡ take n ps ++ replicate k 0 → Has (slice_get qs) l (records_in (slice_get ps) l)
reached_resize ps qs n k l w b e = reached ps qs k l w (e ∙ ap (λ xs. xs ++ replicate k 0) (take_all n ps b))

-- ---- a record is put in

module _ (ps : List ℕ) (es : List Slot) (a : ℕ) (r : Rec) (w : IsPlaced (slice_get ps) (slice_get es))
    (free : records_in (slice_get ps) (slice_get es) a ≡ None) (l : a < length ps) where
  places1 : ℕ → Option ℕ
  places1 = slice_get (slice_set ps a (length es))

  list1 : ℕ → Option Slot
  list1 = slice_get (es ++ (a, Some r) ∷ [])

  place_is : (b : ℕ) → slice_get (slice_set ps a (length es)) b ≡ cond (eqb b a) (Some (length es)) (slice_get ps b)
  place_is b = ap (λ (t : ℕ → Option ℕ). t b) (set_table ps a (length es) l)

  slot_is : (i : ℕ) → slice_get (es ++ (a, Some r) ∷ []) i ≡ cond (eqb i (length es)) (Some (a, Some r))
      (slice_get es i)
  slot_is i = ap (λ (t : ℕ → Option Slot). t i) (push_table es (a, Some r))

  own_place : slice_get (slice_set ps a (length es)) a ≡ Some (length es)
  own_place = place_is a ∙ cond-true (eqb a a) (Some (length es)) (slice_get ps a) (same_number a)

  other_place : (b : ℕ) → b ≢ a → slice_get (slice_set ps a (length es)) b ≡ slice_get ps b
  other_place b d = place_is b ∙ cond-false (eqb b a) (Some (length es)) (slice_get ps b) (other_number b a d)

  own_slot : slice_get (es ++ (a, Some r) ∷ []) (length es) ≡ Some (a, Some r)
  own_slot = slot_is (length es) ∙ cond-true (eqb (length es) (length es)) (Some (a, Some r))
      (slice_get es (length es)) (same_number (length es))

  other_slot : (i : ℕ) → i ≢ length es → slice_get (es ++ (a, Some r) ∷ []) i ≡ slice_get es i
  other_slot i d = slot_is i ∙ cond-false (eqb i (length es)) (Some (a, Some r)) (slice_get es i)
      (other_number i (length es) d)

  each1 : (i b : ℕ) (q : Rec) → slice_get (es ++ (a, Some r) ∷ []) i ≡ Some (b, Some q) →
      slice_get (slice_set ps a (length es)) b ≡ Some i
  each1 i b q e = elim (eqb_tells i (length es)) [
    | inl y ↦ let s : Some (a, Some r) ≡ Some (b, Some q) = sym own_slot ∙
        ap (slice_get (es ++ (a, Some r) ∷ [])) (sym y.1) ∙ e in
        let f : a ≡ b = (some_pair_parts a b (Some r) (Some q) s).0 in
        ap (slice_get (slice_set ps a (length es))) (sym f) ∙ own_place ∙ ap (λ x. Some x) (sym y.1)
    | inr n ↦ let s : slice_get es i ≡ Some (b, Some q) = sym (other_slot i n.1) ∙ e in
        let p : slice_get ps b ≡ Some i = w.each i b q s in
        let h : records_in (slice_get ps) (slice_get es) b ≡ Some q = ap (λ x. found_at b x (slice_get es)) p ∙
        ap (record_at b) s ∙ own_record b (Some q) in
        let d : b ≢ a = λ f. (let g : None ≡ Some q = sym free ∙ ap (records_in (slice_get ps) (slice_get es)) (sym f)
        ∙ h in cc) in
        other_place b d ∙ p
  ]

  heap1 : (b : ℕ) → records_in (slice_get (slice_set ps a (length es))) (slice_get (es ++ (a, Some r) ∷ [])) b ≡ put_at
      (records_in (slice_get ps) (slice_get es)) a r b
  heap1 b = elim (eqb_tells b a) [
    | inl y ↦ ap (records_in (slice_get (slice_set ps a (length es))) (slice_get (es ++ (a, Some r) ∷ []))) y.1
        ∙ ap (λ x. found_at a x (slice_get (es ++ (a, Some r) ∷ []))) own_place ∙ ap (record_at a) own_slot ∙
        own_record a (Some r)
        ∙ sym (cond-true (eqb b a) (Some r) (records_in (slice_get ps) (slice_get es) b) y.0)
    | inr n ↦ ap (λ x. found_at b x (slice_get (es ++ (a, Some r) ∷ []))) (other_place b n.1) ∙
        by_place b n.1 (slice_get ps b)
        ∙ sym (cond-false (eqb b a) (Some r) (records_in (slice_get ps) (slice_get es) b) n.0)
  ]
    where
      by_place : (b : ℕ) → b ≢ a → (x : Option ℕ) → found_at b x (slice_get (es ++ (a, Some r) ∷ [])) ≡ found_at b x
          (slice_get es)
      by_place b d None = refl
      by_place b d (Some p) = elim (eqb_tells p (length es)) [
        | inl y ↦ ap (λ i. record_at b (slice_get (es ++ (a, Some r) ∷ []) i)) y.1 ∙ ap (record_at b) own_slot ∙
            other_record b a (Some r) d
            ∙ sym (ap (record_at b) (slice_get_past es p (let e = y.1 in omega arith)))
        | inr n ↦ ap (record_at b) (other_slot p n.1)
      ]

  pub put_in : Has (slice_get (slice_set ps a (length es))) (slice_get (es ++ (a, Some r) ∷ []))
      (put_at (records_in (slice_get ps) (slice_get es)) a r)
  put_in = record { placed = record { each = each1 }; heap = same_heap _ _ heap1 }

pub put_by : (ps : List ℕ) (es es1 : List Slot) (h : Heap) (a n : ℕ) (r : Rec) → IsPlaced (slice_get ps) (slice_get es)
    → records_in (slice_get ps) (slice_get es) ≡ h → h a ≡ None → a < length ps → n ≡ length es →
    es1 ≡ es ++ (a, Some r) ∷ []
    → Has (slice_get (slice_set ps a n)) (slice_get es1) (put_at h a r)
put_by ps es es1 h a n r w eh free l en ee =
    let p = put_in ps es a r w (ap (λ (g : Heap). g a) eh ∙ free) l in
    rw (en, ee) (record { placed = p.placed; heap = p.heap ∙ ap (λ (g : Heap). put_at g a r) eh })

-- ---- the record of an address is set

module _ (places : ℕ → Option ℕ) (es : List Slot) (p a : ℕ) (o : Option Rec) (f : Slot)
    (w : IsPlaced places (slice_get es)) (is : slice_get es p ≡ Some (a, o)) (some : is_some o ≡ true) (same : f.0 ≡ a)
  where
    place_at : places a ≡ Some p
    place_at = by_record o is some
      where
        by_record : (o : Option Rec) → slice_get es p ≡ Some (a, o) → is_some o ≡ true → places a ≡ Some p
        by_record None e s = cc
        by_record (Some r) e s = w.each p a r e

    set_is : (i : ℕ) → slice_get (slice_set es p f) i ≡ cond (eqb i p) (Some f) (slice_get es i)
    set_is i = ap (λ (t : ℕ → Option Slot). t i) (set_table es p f (slice_get_within es p (a, o) is))

    set_own : slice_get (slice_set es p f) p ≡ Some f
    set_own = set_is p ∙ cond-true (eqb p p) (Some f) (slice_get es p) (same_number p)

    set_other : (i : ℕ) → i ≢ p → slice_get (slice_set es p f) i ≡ slice_get es i
    set_other i d = set_is i ∙ cond-false (eqb i p) (Some f) (slice_get es i) (other_number i p d)

    set_each : (i b : ℕ) (q : Rec) → slice_get (slice_set es p f) i ≡ Some (b, Some q) → places b ≡ Some i
    set_each i b q e = elim (eqb_tells i p) [
      | inl y ↦ let s : Some f ≡ Some (b, Some q) = sym set_own ∙ ap (slice_get (slice_set es p f)) (sym y.1) ∙ e in
          let g : f ≡ (b, Some q) = same_Some f (b, Some q) s in let h : b ≡ a = sym (ap (λ (x : Slot). x.0) g) ∙
          same in
          ap places h ∙ place_at ∙ ap (λ x. Some x) (sym y.1)
      | inr n ↦ w.each i b q (sym (set_other i n.1) ∙ e)
    ]

    set_heap : (b : ℕ) → records_in places (slice_get (slice_set es p f)) b ≡ cond (eqb b a) f.1
        (records_in places (slice_get es) b)
    set_heap b = elim (eqb_tells b a) [
      | inl y ↦ ap (records_in places (slice_get (slice_set es p f))) y.1 ∙
          ap (λ x. found_at a x (slice_get (slice_set es p f))) place_at ∙ ap (record_at a) set_own
          ∙ cond-true (eqb f.0 a) f.1 None (ap (λ x. eqb x a) same ∙ same_number a)
          ∙ sym (cond-true (eqb b a) f.1 (records_in places (slice_get es) b) y.0)
      | inr n ↦ by_place b n.1 (places b) ∙ sym (cond-false (eqb b a) f.1 (records_in places (slice_get es) b) n.0)
    ]
      where
        by_place : (b : ℕ) → b ≢ a → (x : Option ℕ) → found_at b x (slice_get (slice_set es p f)) ≡ found_at b x
            (slice_get es)
        by_place b d None = refl
        by_place b d (Some i) = elim (eqb_tells i p) [
          | inl y ↦ ap (λ j. record_at b (slice_get (slice_set es p f) j)) y.1 ∙ ap (record_at b) set_own
              ∙ cond-false (eqb f.0 b) f.1 None (other_number f.0 b (λ e. d (sym e ∙ same)))
              ∙ sym (ap (λ j. record_at b (slice_get es j)) y.1 ∙ ap (record_at b) is ∙ other_record b a o d)
          | inr n ↦ ap (record_at b) (set_other i n.1)
        ]

    pub set_in : Has places (slice_get (slice_set es p f))
        (λ b. cond (eqb b a) f.1 (records_in places (slice_get es) b))
    set_in = record { placed = record { each = set_each }; heap = same_heap _ _ set_heap }

-- a slot that was found is the one that is lent
lent : (es : List Slot) (p : ℕ) (e f : Slot) → slice_get es p ≡ Some f → e ≡ slice_index_or es p e → e ≡ f
lent es p e f g q = same_Some e f (ap (λ x. Some x) q ∙ sym (slice_get-get_or es p e (slice_get_within es p f g)) ∙ g)

there_some : (o : Option Rec) (P : Rec → Type 0) → IfThere false o P → is_some o ≡ true
there_some None P t = cc
there_some (Some r) P t = refl

-- the record of an address was changed in its slot
module _ (places : ℕ → Option ℕ) (es : List Slot) (p a : ℕ) (c : Change) (e f : Slot)
    (w : IsPlaced places (slice_get es)) (is : slice_get es p ≡ Some (a, records_in places (slice_get es) a))
    (le : e ≡ slice_index_or es p e)
    (t : IfThere false (records_in places (slice_get es) a) (λ r. Allows c r)) (same : f.0 ≡ e.0) where
  lent_slot : e ≡ (a, records_in places (slice_get es) a)
  lent_slot = lent es p e (a, records_in places (slice_get es) a) is le

  set_slot : Has places (slice_get (slice_set es p f)) (λ b. cond (eqb b a) f.1 (records_in places (slice_get es) b))
  set_slot = set_in places es p a (records_in places (slice_get es) a) f w is
      (there_some (records_in places (slice_get es) a) (λ r. Allows c r) t) (same ∙ ap (λ (x : Slot). x.0) lent_slot)

  pub slot_changed : (x : Result Undo AllocError) → IfOk x (λ u. IsSlotChanged c u e.1 f.1) →
      IfOk x (λ u. IsChanged a c u (records_in places (slice_get es))
      (records_in places (slice_get (slice_set es p f))))
  slot_changed (Ok u) k = record {
    old = k.old;
    new = k.new;
    is = sym (ap (λ (x : Slot). x.1) lent_slot) ∙ k.is;
    undo = k.undo;
    put = set_slot.heap ∙ same_heap _ _ (λ b. ap (λ o. cond (eqb b a) o (records_in places (slice_get es) b)) k.put);
  }
  slot_changed (Err n) k = tt

  pub slot_same : (x : Result Undo AllocError) → OnErr x (f.1 ≡ e.1) →
      OnErr x (records_in places (slice_get (slice_set es p f)) ≡ records_in places (slice_get es))
  slot_same (Ok u) k = tt
  slot_same (Err n) k = set_slot.heap ∙ same_heap _ _ (λ b. elim (eqb_tells b a) [
    | inl y ↦ cond-true (eqb b a) f.1 (records_in places (slice_get es) b) y.0 ∙ k ∙ ap (λ (x : Slot). x.1) lent_slot ∙
        ap (records_in places (slice_get es)) (sym y.1)
    | inr n ↦ cond-false (eqb b a) f.1 (records_in places (slice_get es) b) n.0
  ])

-- ---- the last slot is taken out

module _ (places : ℕ → Option ℕ) (es : List Slot) (a : ℕ) (o : Option Rec)
    (w : IsPlaced places (slice_get (es ++ (a, o) ∷ []))) where
  last_is : (i : ℕ) → slice_get (es ++ (a, o) ∷ []) i ≡ cond (eqb i (length es)) (Some (a, o)) (slice_get es i)
  last_is i = ap (λ (t : ℕ → Option Slot). t i) (push_table es (a, o))

  last_own : slice_get (es ++ (a, o) ∷ []) (length es) ≡ Some (a, o)
  last_own = last_is (length es) ∙ cond-true (eqb (length es) (length es)) (Some (a, o)) (slice_get es (length es))
      (same_number (length es))

  last_other : (i : ℕ) → i ≢ length es → slice_get (es ++ (a, o) ∷ []) i ≡ slice_get es i
  last_other i d = last_is i ∙ cond-false (eqb i (length es)) (Some (a, o)) (slice_get es i)
      (other_number i (length es) d)

  last_placed : IsPlaced places (slice_get es)
  last_placed = record { each = λ i b q e. w.each i b q (get_more es ((a, o) ∷ []) i (b, Some q) e) }

  -- it had a record
  last_place : (r : Rec) → o ≡ Some r → places a ≡ Some (length es)
  last_place r e = w.each (length es) a r (last_own ∙ ap (λ x. Some (a, x)) e)

  pub last_record : (r : Rec) → o ≡ Some r → records_in places (slice_get (es ++ (a, o) ∷ [])) a ≡ Some r
  last_record r e = ap (λ x. found_at a x (slice_get (es ++ (a, o) ∷ []))) (last_place r e) ∙ ap (record_at a) last_own
      ∙ own_record a o ∙ e

  pub last_taken : (r : Rec) → o ≡ Some r →
      Has places (slice_get es) (restore_at (records_in places (slice_get (es ++ (a, o) ∷ []))) a None)
  last_taken r e = record {
    placed = last_placed;
    heap = same_heap _ _ (λ b. elim (eqb_tells b a) [
      | inl y ↦ ap (records_in places (slice_get es)) y.1 ∙ ap (λ x. found_at a x (slice_get es)) (last_place r e) ∙
          ap (record_at a) (slice_get_past es (length es) (omega arith))
          ∙ sym (cond-true (eqb b a) None (records_in places (slice_get (es ++ (a, o) ∷ [])) b) y.0)
      | inr n ↦ by_place b n.1 (places b) ∙
          sym (cond-false (eqb b a) None (records_in places (slice_get (es ++ (a, o) ∷ [])) b) n.0)
    ]);
  }
    where
      by_place : (b : ℕ) → b ≢ a → (x : Option ℕ) →
          found_at b x (slice_get es) ≡ found_at b x (slice_get (es ++ (a, o) ∷ []))
      by_place b d None = refl
      by_place b d (Some i) = elim (eqb_tells i (length es)) [
        | inl y ↦ ap (record_at b) (slice_get_past es i (let q = y.1 in omega arith)) ∙
            sym (ap (λ j. record_at b (slice_get (es ++ (a, o) ∷ []) j)) y.1 ∙ ap (record_at b) last_own ∙
            other_record b a o d)
        | inr n ↦ ap (record_at b) (sym (last_other i n.1))
      ]

  -- it had none
  pub last_gone : o ≡ None → Has places (slice_get es) (records_in places (slice_get (es ++ (a, o) ∷ [])))
  last_gone e = record { placed = last_placed; heap = same_heap _ _ (λ b. by_place b (places b)) }
    where
      by_place : (b : ℕ) (x : Option ℕ) → found_at b x (slice_get es) ≡ found_at b x (slice_get (es ++ (a, o) ∷ []))
      by_place b None = refl
      by_place b (Some i) = elim (eqb_tells i (length es)) [
        | inl y ↦ ap (record_at b) (slice_get_past es i (let q = y.1 in omega arith)) ∙
            sym (ap (λ j. record_at b (slice_get (es ++ (a, o) ∷ []) j)) y.1 ∙ ap (record_at b) last_own ∙
            ap (λ x. record_at b (Some (a, x))) e ∙ gone_record b a)
        | inr n ↦ ap (record_at b) (sym (last_other i n.1))
      ]

-- ---- records are moved into an image, the last of the list first

module _ (places : ℕ → Option ℕ) (es es1 : List Slot) (a : ℕ) (o : Option Rec) (xs ys : List (Option Rec)) (h : Heap)
    (w : IsPlaced places (slice_get es)) (e : es ≡ es1 ++ (a, o) ∷ [])
    (m : IsMoved xs h ys (records_in places (slice_get es))) where
  v : IsPlaced places (slice_get (es1 ++ (a, o) ∷ []))
  v = subst (λ l. IsPlaced places (slice_get l)) e w

  n : IsMoved xs h ys (records_in places (slice_get (es1 ++ (a, o) ∷ [])))
  n = subst (λ l. IsMoved xs h ys (records_in places (slice_get l))) e m

  pub gave_one : (r : Rec) → o ≡ Some r → IsMoved xs h (slice_set ys a (Some r)) (records_in places (slice_get es1))
  gave_one r q = moved_one xs ys h (records_in places (slice_get (es1 ++ (a, o) ∷ [])))
      (records_in places (slice_get es1)) a r n (last_record places es1 a o v r q)
      (last_taken places es1 a o v r q).heap

  pub gave_none : ((r : Rec) → o ≡ Some r → ⊥) → IsMoved xs h ys (records_in places (slice_get es1))
  gave_none f = subst (IsMoved xs h ys) (sym (last_gone places es1 a o v (is_none o f)).heap) n
    where
      is_none : (o : Option Rec) → ((r : Rec) → o ≡ Some r → ⊥) → o ≡ None
      is_none None f = refl
      is_none (Some r) f = absurd (f r refl)

pub gave_all : (places : ℕ → Option ℕ) (es : List Slot) (xs ys : List (Option Rec)) (h : Heap) →
    IsMoved xs h ys (records_in places (slice_get es)) → es ≡ [] →
    image_in (slice_get ys) ≡ overlay (image_in (slice_get xs)) h
gave_all places es xs ys h m e = moved_all xs ys h (records_in places (slice_get es)) m
    (ap (λ l. records_in places (slice_get l)) e ∙ same_heap _ _ (λ a. by_place a (places a)))
  where
    by_place : (a : ℕ) (x : Option ℕ) → found_at a x (slice_get []) ≡ None
    by_place a None = refl
    by_place a (Some p) = refl
