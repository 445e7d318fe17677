-- What a segment sees and holds after a call.
use Rattle.std.proofs.Common.{◌≡◌, ◌≢◌, inl, inr, ℕ, Bool, true, false, cond, ◌||◌, eqb, List, [], ◌∷◌, ◌++◌, Option, Some, None, is_some, unwrap_or, IsSome, refl, sym, ◌∙◌, ap}
use Rattle.std.proofs.Math.Bool.{or_assoc}
use Rattle.std.proofs.lemmas.Bool.{cases_Bool, cond-true, cond-false, or_parts}
use Rattle.std.proofs.lemmas.Bool.Decides.{eqb_tells}
use Rattle.py_data.specs.Heap.{Rec, Heap, Marks, Has, at, put_at, blank}
use Rattle.py_data.specs.Sight.{mem}
use Rattle.seg_store.specs.Meaning.{Part, Meaning, over, overlay, sees, saw, holds, with_part}
use Rattle.seg_store.specs.Calls.{marked, first_locked, locked, changed, made, opened, undone, ended, after_lock, after_open, after_undo, after_drop}
use Rattle.seg_store.specs.Store.{IsStore}
use Rattle.seg_store.specs.Laws.{PartSet, LockShows, ChangeShows, MakeShows, StepShows, EndShows}

-- two functions that agree everywhere
pub same_heap : (h g : Heap) → ((b : ℕ) → h b ≡ g b) → h ≡ g
same_heap h g p = λ i b. p b i

pub same_marks : (h g : Marks) → ((b : ℕ) → h b ≡ g b) → h ≡ g
same_marks h g p = λ i b. p b i

pub same_number : (a : ℕ) → eqb a a ≡ true
same_number a = elim (eqb_tells a a) [
  | inl y ↦ y.0
  | inr n ↦ absurd (n.1 refl)
]

pub other_number : (a b : ℕ) → a ≢ b → eqb a b ≡ false
other_number a b d = elim (eqb_tells a b) [
  | inl y ↦ absurd (d y.1)
  | inr n ↦ n.0
]

pub own_part : (k : ℕ) (p : Part) (m : Meaning) → (with_part k p m).part k ≡ p
own_part k p m = cond-true (eqb k k) p (m.part k) (same_number k)

pub other_part : (k : ℕ) (p : Part) (m : Meaning) (j : ℕ) → j ≢ k → (with_part k p m).part j ≡ m.part j
other_part k p m j d = cond-false (eqb j k) p (m.part j) (other_number j k d)

-- where a segment's changes were dropped, it has locked and made nothing
pub dropped_changed : (k : ℕ) (m m1 : Meaning) → m1 ≡ after_drop k m → (m1.part k).changed ≡ []
dropped_changed k m m1 e = ap (λ (n : Meaning). (n.part k).changed) e ∙
    ap (λ (p : Part). p.changed) (own_part k (ended (m.part k)) m)

pub dropped_made : (k : ℕ) (m m1 : Meaning) → m1 ≡ after_drop k m → (m1.part k).made ≡ []
dropped_made k m m1 e = ap (λ (n : Meaning). (n.part k).made) e ∙
    ap (λ (p : Part). p.made) (own_part k (ended (m.part k)) m)

pub part_set : (k : ℕ) (p : Part) (m : Meaning) → PartSet k p m
part_set k p m = record { own = own_part k p m; others = other_part k p m }

-- a record that is put over the image
over_put : (image changes : Heap) (a : ℕ) (r : Rec) (b : ℕ) →
    over (put_at changes a r b) (image b) ≡ put_at (overlay image changes) a r b
over_put image changes a r b = elim (eqb b a) as
    (λ t. over (cond t (Some r) (changes b)) (image b) ≡ cond t (Some r) (over (changes b) (image b)))
    [ true ↦ refl | false ↦ refl ]

pub overlay_put : (image changes : Heap) (a : ℕ) (r : Rec) →
    overlay image (put_at changes a r) ≡ put_at (overlay image changes) a r
overlay_put image changes a r = same_heap _ _ (over_put image changes a r)

-- a record that is put where it stands
put_there : (h : Heap) (a : ℕ) (r : Rec) → h a ≡ Some r → put_at h a r ≡ h
put_there h a r e = same_heap _ _ (λ b. elim (eqb_tells b a) [
  | inl y ↦ cond-true (eqb b a) (Some r) (h b) y.0 ∙ sym e ∙ ap h (sym y.1)
  | inr n ↦ cond-false (eqb b a) (Some r) (h b) n.0
])

-- the record at an address where one is
pub at_some : (h : Heap) (a : ℕ) → Has h a → h a ≡ Some (at h a)
unfolding at
at_some h a s = some_by (h a) s
  where
    some_by : (o : Option Rec) → IsSome o → o ≡ Some (unwrap_or o blank)
    some_by None s = cc
    some_by (Some r) s = refl

pub or_middle : (x y z : Bool) → (y || (x || z)) ≡ (x || (y || z))
or_middle true true z = refl
or_middle true false z = refl
or_middle false true z = refl
or_middle false false z = refl

-- an address more at the end of a list
pub mem_last : (b a : ℕ) (xs : List ℕ) → mem b (xs ++ a ∷ []) ≡ (eqb b a || mem b xs)
mem_last b a [] = elim (eqb b a) as (λ t. (t || false) ≡ (t || false)) [ true ↦ refl | false ↦ refl ]
mem_last b a (x ∷ xs) = ap (λ t. eqb b x || t) (mem_last b a xs) ∙ or_middle (eqb b a) (eqb b x) (mem b xs)

pub change_shows : (k a : ℕ) (f : Rec → Rec) (m : Meaning) → ChangeShows k a f m
change_shows k a f m =
    let p = changed a (f (at (sees m k) a)) (m.part k) in
    let e : (with_part k p m).part k ≡ p = own_part k p m in
    record {
      seen = ap (λ (q : Part). overlay m.image q.changes) e ∙
          overlay_put m.image (m.part k).changes a (f (at (sees m k) a));
      before = ap (λ (q : Part). overlay m.image q.kept) e;
      held = ap holds e;
    }

pub make_shows : (k n : ℕ) (r : Rec) (m : Meaning) → MakeShows k n r m
make_shows k n r m =
    let p = made n r (m.part k) in
    let e : (with_part k p m).part k ≡ p = own_part k p m in
    record {
      seen = ap (λ (q : Part). overlay m.image q.changes) e ∙ overlay_put m.image (m.part k).changes n r;
      before = ap (λ (q : Part). overlay m.image q.kept) e;
      held = ap holds e ∙ same_marks _ _ (λ b. ap (λ t. mem b (m.part k).changed || t) (mem_last b n (m.part k).made) ∙
          or_middle (eqb b n) (mem b (m.part k).changed) (mem b (m.part k).made));
    }

-- where the segment holds the record already
locked_again : (k a : ℕ) (m : Meaning) → holds (m.part k) a ≡ true → LockShows k a m
locked_again k a m h =
    let r = at (sees m k) a in
    let e : (after_lock k a m).part k ≡ marked a (m.part k) = own_part k (locked a r (m.part k)) m ∙
    cond-true (holds (m.part k) a) (marked a (m.part k)) (first_locked a r (m.part k)) h in
    record {
      seen = ap (λ (q : Part). overlay m.image q.changes) e;
      before = ap (λ (q : Part). overlay m.image q.kept) e;
      held = ap holds e ∙ same_marks _ _ (λ b. elim (eqb_tells b a) [
        | inl y ↦ ap (holds (m.part k)) y.1 ∙ h ∙ sym (ap (λ t. t || holds (m.part k) b) y.0)
        | inr n ↦ sym (ap (λ t. t || holds (m.part k) b) n.0)
      ]);
    }

none_by : (o : Option Rec) → is_some o ≡ false → o ≡ None
none_by None e = refl
none_by (Some r) e = cc

-- where no segment holds it, it stands in the image
locked_first : (reserved : ℕ) (m : Meaning) (k a : ℕ) → IsStore reserved m → Has (sees m k) a →
    holds (m.part k) a ≡ false → LockShows k a m
locked_first reserved m k a s there h =
    let r = at (sees m k) a in
    let p = m.part k in
    let e : (after_lock k a m).part k ≡ first_locked a r p = own_part k (locked a r p) m ∙
    cond-false (holds p a) (marked a p) (first_locked a r p) h in
    let unheld = or_parts (mem a p.changed) (mem a p.made) h in
    let is : sees m k a ≡ Some r = at_some (sees m k) a there in
    let unchanged : p.changes a ≡ None = none_by (p.changes a) (s.changes k a ∙ h) in
    let here : m.image a ≡ Some r = sym (ap (λ o. over o (m.image a)) unchanged) ∙ is in
    let unkept : p.kept a ≡ None = none_by (p.kept a) (s.kept k a ∙ ap (λ t. t || mem a p.kept_made) unheld.0 ∙
    kept_unmade reserved m k a s unheld.1) in
    let was : saw m k a ≡ Some r = ap (λ o. over o (m.image a)) unkept ∙ here in
    record {
      seen = ap (λ (q : Part). overlay m.image q.changes) e ∙ overlay_put m.image p.changes a r ∙
          put_there (sees m k) a r is;
      before = ap (λ (q : Part). overlay m.image q.kept) e ∙ overlay_put m.image p.kept a r ∙
          put_there (saw m k) a r was;
      held = ap holds e ∙ same_marks _ _ (λ b. ap (λ t. t || mem b p.made) (mem_last b a p.changed) ∙
          or_assoc (eqb b a) (mem b p.changed) (mem b p.made));
    }
  where
    front_mem : (a : ℕ) (xs ys : List ℕ) → mem a (xs ++ ys) ≡ false → mem a xs ≡ false
    front_mem a [] ys e = refl
    front_mem a (x ∷ xs) ys e = let q = or_parts (eqb a x) (mem a (xs ++ ys)) e in ap (λ t. t || mem a xs) q.0 ∙
        front_mem a xs ys q.1

    kept_unmade : (reserved : ℕ) (m : Meaning) (k a : ℕ) → IsStore reserved m → mem a (m.part k).made ≡ false →
        mem a (m.part k).kept_made ≡ false
    kept_unmade reserved m k a s e = let f = s.front k in
        front_mem a (m.part k).kept_made f.0 (ap (mem a) (sym f.1) ∙ e)

pub lock_shows : (reserved : ℕ) (m : Meaning) (k a : ℕ) → IsStore reserved m → Has (sees m k) a → LockShows k a m
lock_shows reserved m k a s there = elim (cases_Bool (holds (m.part k) a)) [
  | inl y ↦ locked_again k a m y
  | inr n ↦ locked_first reserved m k a s there n
]

pub step_shows : (k : ℕ) (m : Meaning) → StepShows k m
step_shows k m =
    let o : (after_open k m).part k ≡ opened (m.part k) = own_part k (opened (m.part k)) m in
    let u : (after_undo k m).part k ≡ undone (m.part k) = own_part k (undone (m.part k)) m in
    record {
      opened = ap (λ (q : Part). overlay m.image q.changes) o;
      kept = ap (λ (q : Part). overlay m.image q.kept) o;
      undone = ap (λ (q : Part). overlay m.image q.changes) u;
      again = ap (λ (q : Part). overlay m.image q.kept) u;
    }

pub end_shows : (k : ℕ) (m : Meaning) → EndShows k m
end_shows k m = record {
  published = ap (λ (q : Part). overlay (sees m k) q.changes) (own_part k (ended (m.part k)) m);
  others = λ j d. ap (λ (q : Part). overlay (sees m k) q.changes) (other_part k (ended (m.part k)) m j d);
  dropped = ap (λ (q : Part). overlay m.image q.changes) (own_part k (ended (m.part k)) m);
}
