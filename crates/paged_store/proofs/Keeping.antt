-- What always holds of a store still holds of what each call leaves of its meaning.
use Rattle.std.proofs.Common.{◌≡◌, ◌≢◌, ℕ, ◌≤◌, Bool, true, false, cond, ◌||◌, eqb, List, [], ◌∷◌, ◌++◌, Option, Some, None, is_some, IsSome, inl, inr, refl, sym, ◌∙◌, ap, subst}
use Rattle.std.proofs.lemmas.Bool.{cases_Bool, both_ways, false_from_ne_true, or_cases, or_left, or_right, cond-true, cond-false}
use Rattle.std.proofs.lemmas.Bool.Decides.{eqb_tells}
use Rattle.std.proofs.lemmas.List.{append-nil, append_assoc}
use Rattle.py_data.specs.declared.change.Change.{Change}
use Rattle.py_data.specs.Changes.{after, Allows, Suits, IsShort}
use Rattle.py_data.specs.Heap.{Rec, Heap, Marks, Has, at, put_at}
use Rattle.py_data.specs.Sense.{IfThere}
use Rattle.py_data.specs.Sight.{mem, no_marks, with_mark}
use Rattle.py_data.proofs.Grow.{for_tracked, mem_append}
use Rattle.py_data.proofs.Short.{short_after}
use Rattle.seg_store.specs.Meaning.{Part, Meaning, over, sees, holds, with_part}
use Rattle.seg_store.specs.Calls.{begun, marked, first_locked, changed, made, opened, undone, ended, after_begin, after_mark, after_lock, after_change, after_make, after_open, after_undo, after_publish, after_drop}
use Rattle.seg_store.specs.Store.{CanChange, NoOther, IsFree, NoneOf, IsStored, AreStored, IsStore}
use Rattle.seg_store.proofs.OneLists.{one_after}
use Rattle.seg_store.proofs.Parts.{each_part}
use Rattle.seg_store.proofs.Sees.{mem_last, at_some}
use Rattle.paged_store.proofs.MemLemmas.{one_more, locked_more, made_more}

-- ---- one segment's part, over an image

record IsPart (image : Heap) (p : Part) : Type 0 where
  changes : (a : ℕ) → is_some (p.changes a) ≡ holds p a
  kept : (a : ℕ) → is_some (p.kept a) ≡ (mem a p.changed || mem a p.kept_made)
  front : (more : List ℕ) × (p.made ≡ p.kept_made ++ more)
  locked : (a : ℕ) → mem a p.changed ≡ true → Has image a
  unused : (a : ℕ) → mem a p.made ≡ true → image a ≡ None
  stored_changes : AreStored p.changes
  stored_kept : AreStored p.kept

part_is : (n : ℕ) (m : Meaning) (j : ℕ) → IsStore n m → IsPart m.image (m.part j)
part_is n m j w = record {
  changes = w.changes j;
  kept = w.kept j;
  front = w.front j;
  locked = w.locked j;
  unused = w.unused j;
  stored_changes = w.stored_changes j;
  stored_kept = w.stored_kept j;
}

-- a store with another part for a segment, and another image
module _ (n n1 k : ℕ) (p : Part) (image : Heap) (m : Meaning) (w : IsStore n m) (room : n1 ≤ m.limit)
    (stored : AreStored image) (own : IsPart image p)
    (others : (j : ℕ) → j ≢ k → IsPart image (m.part j))
    (apart : (j a : ℕ) → j ≢ k → holds p a ≡ true → holds (m.part j) a ≡ false) where
  all_parts : (j : ℕ) → IsPart image ((with_part k p m).part j)
  all_parts j = each_part (λ j q. IsPart image q) k p m own others j

  all_apart : (i j a : ℕ) → i ≢ j → holds ((with_part k p m).part i) a ≡ true → holds ((with_part k p m).part j) a
      ≡ false
  all_apart i j a d h = each_part (λ i q. i ≢ j → holds q a ≡ true → holds ((with_part k p m).part j) a ≡ false) k p m
      (λ d h. each_part (λ j q. k ≢ j → holds q a ≡ false) k p m (λ d. absurd (d refl)) (λ j e d. apart j a e h) j d)
      (λ i e d h. each_part (λ j q. i ≢ j → holds q a ≡ false) k p m
      (λ d. false_from_ne_true (holds p a) (λ x. both_ways _ (apart i a e x) h)) (λ j f d. w.apart i j a d h) j d)
      i d h

  part_kept : IsStore n1 (record (with_part k p m) { image = image })
  part_kept = record {
    some = w.some;
    few = w.few;
    room = room;
    changes = λ j. (all_parts j).changes;
    kept = λ j. (all_parts j).kept;
    front = λ j. (all_parts j).front;
    locked = λ j. (all_parts j).locked;
    unused = λ j. (all_parts j).unused;
    apart = all_apart;
    stored = stored;
    stored_changes = λ j. (all_parts j).stored_changes;
    stored_kept = λ j. (all_parts j).stored_kept;
  }

-- the part holds no record more
fewer_apart : (n : ℕ) (m : Meaning) (k : ℕ) (p : Part) → IsStore n m
    → ((a : ℕ) → holds p a ≡ true → holds (m.part k) a ≡ true) → (j a : ℕ) → j ≢ k → holds p a ≡ true
    → holds (m.part j) a ≡ false
fewer_apart n m k p w f j a d h = w.apart k j a (λ e. d (sym e)) (f a h)

-- ---- looks, steps and ends

looked_part : (image : Heap) (p : Part) (l : Marks) → IsPart image p → IsPart image (record p { looked = l })
looked_part image p l w = record {
  changes = w.changes;
  kept = w.kept;
  front = w.front;
  locked = w.locked;
  unused = w.unused;
  stored_changes = w.stored_changes;
  stored_kept = w.stored_kept;
}

opened_part : (image : Heap) (p : Part) → IsPart image p → IsPart image (opened p)
opened_part image p w = record {
  changes = w.changes;
  kept = w.changes;
  front = ([], sym (append-nil p.made));
  locked = w.locked;
  unused = w.unused;
  stored_changes = w.stored_changes;
  stored_kept = w.stored_changes;
}

-- what stood when the step began is made still
kept_made : (image : Heap) (p : Part) (a : ℕ) → IsPart image p → mem a p.kept_made ≡ true → mem a p.made ≡ true
kept_made image p a w e = ap (mem a) w.front.1 ∙ mem_append a p.kept_made w.front.0 ∙ or_left _ _ e

undone_part : (image : Heap) (p : Part) → IsPart image p → IsPart image (undone p)
undone_part image p w = record {
  changes = w.kept;
  kept = w.kept;
  front = ([], sym (append-nil p.kept_made));
  locked = w.locked;
  unused = λ a e. w.unused a (kept_made image p a w e);
  stored_changes = w.stored_kept;
  stored_kept = w.stored_kept;
}

undone_holds : (image : Heap) (p : Part) (a : ℕ) → IsPart image p → holds (undone p) a ≡ true → holds p a ≡ true
undone_holds image p a w e = elim (or_cases (mem a p.changed) (mem a p.kept_made) e) [
  | inl x ↦ or_left _ _ x
  | inr x ↦ or_right _ _ (kept_made image p a w x)
]

ended_part : (image : Heap) (p : Part) → IsPart image (ended p)
ended_part image p = record {
  changes = λ a. refl;
  kept = λ a. refl;
  front = ([], refl);
  locked = λ a e. absurd (cc);
  unused = λ a e. absurd (cc);
  stored_changes = record { each = λ a r e. absurd (cc) };
  stored_kept = record { each = λ a r e. absurd (cc) };
}

-- ---- a record is put

some_put : (h : Heap) (a : ℕ) (r : Rec) (b : ℕ) → is_some (put_at h a r b) ≡ (eqb b a || is_some (h b))
some_put h a r b = elim (eqb b a) as (λ t. is_some (cond t (Some r) (h b)) ≡ (t || is_some (h b)))
    [ true ↦ refl | false ↦ refl ]

stored_put : (h : Heap) (a : ℕ) (r : Rec) → AreStored h → IsStored r → AreStored (put_at h a r)
stored_put h a r s t = record { each = λ b q e. by_test (eqb b a) (h b) (s.each b) q e }
  where
    by_test : (t : Bool) (o : Option Rec) → ((q : Rec) → o ≡ Some q → IsStored q) → (q : Rec) → cond t (Some r) o
        ≡ Some q → IsStored q
    by_test true o f q e = let s : r ≡ q = cc in subst IsStored s t
    by_test false o f q e = f q e

locked_part : (image : Heap) (p : Part) (a : ℕ) (r : Rec) → IsPart image p → IsStored r → Has image a
    → IsPart image (first_locked a r p)
locked_part image p a r w s there = record {
  changes = λ b. some_put p.changes a r b ∙ locked_more a b (is_some (p.changes b)) p.changed p.made (w.changes b);
  kept = λ b. some_put p.kept a r b ∙ locked_more a b (is_some (p.kept b)) p.changed p.kept_made (w.kept b);
  front = w.front;
  locked = λ b e. one_more (Has image) a b (mem b p.changed) (sym (mem_last b a p.changed) ∙ e) there (w.locked b);
  unused = w.unused;
  stored_changes = stored_put p.changes a r w.stored_changes s;
  stored_kept = stored_put p.kept a r w.stored_kept s;
}

made_part : (image : Heap) (p : Part) (a : ℕ) (r : Rec) → IsPart image p → IsStored r → image a ≡ None
    → IsPart image (made a r p)
made_part image p a r w s blank = record {
  changes = λ b. some_put p.changes a r b ∙ made_more a b (is_some (p.changes b)) p.changed p.made (w.changes b);
  kept = w.kept;
  front = (w.front.0 ++ a ∷ [], ap (λ x. x ++ a ∷ []) w.front.1 ∙ append_assoc p.kept_made w.front.0 (a ∷ []));
  locked = w.locked;
  unused = λ b e. one_more (λ x. image x ≡ None) a b (mem b p.made) (sym (mem_last b a p.made) ∙ e) blank
      (w.unused b);
  stored_changes = stored_put p.changes a r w.stored_changes s;
  stored_kept = w.stored_kept;
}

changed_part : (image : Heap) (p : Part) (a : ℕ) (r : Rec) → IsPart image p → IsStored r → holds p a ≡ true
    → IsPart image (changed a r p)
changed_part image p a r w s h = record {
  changes = λ b. some_put p.changes a r b ∙ again b;
  kept = w.kept;
  front = w.front;
  locked = w.locked;
  unused = w.unused;
  stored_changes = stored_put p.changes a r w.stored_changes s;
  stored_kept = w.stored_kept;
}
  where
    again : (b : ℕ) → (eqb b a || is_some (p.changes b)) ≡ holds p b
    again b = elim (eqb_tells b a) [
      | inl y ↦ ap (λ t. t || is_some (p.changes b)) y.0 ∙ sym (ap (holds p) y.1 ∙ h)
      | inr n ↦ ap (λ t. t || is_some (p.changes b)) n.0 ∙ w.changes b
    ]

-- a record that was changed, as it allows it
stored_after : (c : Change) (r : Rec) → Allows c r → IsStored r → IsStored (after c r)
stored_after c r k s =
    let l : IsShort (after c r) = short_after c r k (s.values, s.bytes) in
    record { values = l.0; bytes = l.1; one = one_after NoneOf (λ vs ws bs o. o) c r (for_tracked c r.kind k.0) s.one }

-- ---- what a segment sees

has_some : (o : Option Rec) (r : Rec) → o ≡ Some r → IsSome o
has_some None r e = absurd (cc)
has_some (Some q) r e = refl

has_there : (o : Option Rec) (P : Rec → Type 0) → IfThere false o P → IsSome o
has_there None P e = absurd (cc)
has_there (Some q) P e = refl

has_over : (x y : Option Rec) → IsSome y → IsSome (over x y)
has_over None y e = e
has_over (Some r) y e = refl

none_by : (o : Option Rec) → is_some o ≡ false → o ≡ None
none_by None e = refl
none_by (Some r) e = absurd (cc)

stored_over : (x y : Option Rec) → ((r : Rec) → x ≡ Some r → IsStored r) → ((r : Rec) → y ≡ Some r → IsStored r)
    → (r : Rec) → over x y ≡ Some r → IsStored r
stored_over None y f g r e = g r e
stored_over (Some q) y f g r e = f r e

pub sees_stored : (n : ℕ) (m : Meaning) (k : ℕ) → IsStore n m → AreStored (sees m k)
sees_stored n m k w = record {
  each = λ a. stored_over ((m.part k).changes a) (m.image a)
      ((w.stored_changes k).each a) (w.stored.each a);
}

-- a record that a segment doesn't hold stands for it as in the image
pub unheld : (n : ℕ) (m : Meaning) (k a : ℕ) → IsStore n m → holds (m.part k) a ≡ false → sees m k a ≡ m.image a
unheld n m k a w e = ap (λ o. over o (m.image a)) (none_by ((m.part k).changes a) (w.changes k a ∙ e))

-- ---- the calls

module _ (n n1 k : ℕ) (m : Meaning) (w : IsStore n m) (room : n1 ≤ m.limit) where
  -- another part of the segment, that holds no record more
  fewer_kept : (p : Part) → IsPart m.image p → ((a : ℕ) → holds p a ≡ true → holds (m.part k) a ≡ true)
      → IsStore n1 (with_part k p m)
  fewer_kept p v f = part_kept n n1 k p m.image m w room w.stored v (λ j d. part_is n m j w) (fewer_apart n m k p w f)

  pub begin_kept : IsStore n1 (after_begin k m)
  begin_kept = fewer_kept (begun (m.part k)) (looked_part m.image (m.part k) no_marks (part_is n m k w)) (λ a e. e)

  pub mark_kept : (a : ℕ) → IsStore n1 (after_mark k a m)
  mark_kept a = fewer_kept (marked a (m.part k))
      (looked_part m.image (m.part k) (with_mark a (m.part k).looked) (part_is n m k w)) (λ a e. e)

  pub open_kept : IsStore n1 (after_open k m)
  open_kept = fewer_kept (opened (m.part k)) (opened_part m.image (m.part k) (part_is n m k w)) (λ a e. e)

  pub undo_kept : IsStore n1 (after_undo k m)
  undo_kept = fewer_kept (undone (m.part k)) (undone_part m.image (m.part k) (part_is n m k w))
      (λ a e. undone_holds m.image (m.part k) a (part_is n m k w) e)

  pub drop_kept : IsStore n1 (after_drop k m)
  drop_kept = fewer_kept (ended (m.part k)) (ended_part m.image (m.part k)) (λ a e. absurd (cc))

  -- another part, that holds one record more, which no other segment holds
  more_kept : (a : ℕ) (p : Part) → IsPart m.image p → ((b : ℕ) → holds p b ≡ (eqb b a || holds (m.part k) b))
      → ((j : ℕ) → j ≢ k → holds (m.part j) a ≡ false) → IsStore n1 (with_part k p m)
  more_kept a p v f free = part_kept n n1 k p m.image m w room w.stored v (λ j d. part_is n m j w) (λ j b d h.
      one_more (λ x. holds (m.part j) x ≡ false) a b (holds (m.part k) b) (sym (f b) ∙ h) (free j d)
      (w.apart k j b (λ e. d (sym e))))

  lock_first : (a : ℕ) → Has (sees m k) a → NoOther m k a → holds (m.part k) a ≡ false
      → IsStore n1 (with_part k (first_locked a (at (sees m k) a) (m.part k)) m)
  lock_first a there free e =
      let r = at (sees m k) a in
      let p = m.part k in
      let is : m.image a ≡ Some r = sym (unheld n m k a w e) ∙ at_some (sees m k) a there in
      more_kept a (first_locked a r p) (locked_part m.image p a r (part_is n m k w) (w.stored.each a r is)
      (has_some (m.image a) r is))
      (λ b. sym (locked_more a b (holds p b) p.changed p.made refl)) free

  pub lock_kept : (a : ℕ) → Has (sees m k) a → NoOther m k a → IsStore n1 (after_lock k a m)
  lock_kept a there free =
      let p = m.part k in
      let r = at (sees m k) a in
      elim (cases_Bool (holds p a)) [
        | inl y ↦ subst (λ q. IsStore n1 (with_part k q m))
            (sym (cond-true (holds p a) (marked a p) (first_locked a r p) y)) (mark_kept a)
        | inr y ↦ subst (λ q. IsStore n1 (with_part k q m))
            (sym (cond-false (holds p a) (marked a p) (first_locked a r p) y)) (lock_first a there free y)
      ]

  -- any record of a store in the place of one that the segment holds
  pub put_kept : (a : ℕ) (f : Rec → Rec) → holds (m.part k) a ≡ true → IsStored (f (at (sees m k) a))
      → IsStore n1 (after_change k a f m)
  put_kept a f h s = fewer_kept (changed a (f (at (sees m k) a)) (m.part k))
      (changed_part m.image (m.part k) a (f (at (sees m k) a)) (part_is n m k w) s h) (λ b e. e)

  pub change_kept : (a : ℕ) (c : Change) → holds (m.part k) a ≡ true → CanChange (sees m k) a c
      → IsStore n1 (after_change k a (after c) m)
  change_kept a c h can =
      let q = at (sees m k) a in
      let is : sees m k a ≡ Some q = at_some (sees m k) a
      (has_there (sees m k a) (λ r. Allows c r × Suits false (sees m k) c r) can) in
      let allowed : Allows c q × Suits false (sees m k) c q =
      subst (λ o. IfThere false o (λ r. Allows c r × Suits false (sees m k) c r)) is can in
      put_kept a (after c) h (stored_after c q allowed.0 ((sees_stored n m k w).each a q is))

  pub make_kept : (a : ℕ) (r : Rec) → IsFree m a → IsStored r → IsStore n1 (after_make k a r m)
  make_kept a r free s =
      let p = m.part k in
      more_kept a (made a r p) (made_part m.image p a r (part_is n m k w) s free.image)
      (λ b. sym (made_more a b (holds p b) p.changed p.made refl)) (λ j d. free.held j)

  -- what another segment has in hand stands as it did over what the segment sees
  other_part : (j : ℕ) → j ≢ k → IsPart (sees m k) (m.part j)
  other_part j d = record {
    changes = w.changes j;
    kept = w.kept j;
    front = w.front j;
    locked = λ a e. has_over ((m.part k).changes a) (m.image a) (w.locked j a e);
    unused = λ a e. unheld n m k a w (w.apart j k a d (or_right _ _ e)) ∙ w.unused j a e;
    stored_changes = w.stored_changes j;
    stored_kept = w.stored_kept j;
  }

  pub publish_kept : IsStore n1 (after_publish k m)
  publish_kept = part_kept n n1 k (ended (m.part k)) (sees m k) m w room (sees_stored n m k w)
      (ended_part (sees m k) (m.part k)) other_part (λ j a d h. absurd (cc))
