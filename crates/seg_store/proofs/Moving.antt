-- Records that are moved into an image.
use Rattle.std.proofs.Common.{◌≡◌, ◌⊎◌, inl, inr, ℕ, ◌<◌, Bool, true, false, cond, eqb, List, length, Option, Some, None, is_some, slice_get, slice_set, refl, sym, ◌∙◌, ap, subst, ◌≢◌}
use Rattle.std.proofs.lemmas.Bool.Decides.{eqb_tells}
use Rattle.std.proofs.lemmas.List.{length-set}
use Rattle.py_data.specs.Heap.{Rec, Heap, put_at, no_records}
use Rattle.seg_store.specs.Meaning.{over, overlay}
use Rattle.seg_store.specs.inner.Images.{stands, image_in, Reaches}
use Rattle.py_data.specs.Journal.{restore_at}
use Rattle.seg_store.proofs.Sees.{same_heap}
use Rattle.seg_store.proofs.Slices.{set_table}

image_put : (xs : List (Option Rec)) (a : ℕ) (r : Rec) → a < length xs →
    image_in (slice_get (slice_set xs a (Some r))) ≡ put_at (image_in (slice_get xs)) a r
image_put xs a r l = same_heap _ _ (λ b. ap (λ (t : ℕ → Option (Option Rec)). stands (t b)) (set_table xs a (Some r) l)
    ∙ by_test (eqb b a) (slice_get xs b))
  where
    by_test : (t : Bool) (o : Option (Option Rec)) → stands (cond t (Some (Some r)) o) ≡ cond t (Some r) (stands o)
    by_test true o = refl
    by_test false o = refl

overlay_move : (image h : Heap) (a : ℕ) (r : Rec) → h a ≡ Some r →
    overlay (put_at image a r) (restore_at h a None) ≡ overlay image h
overlay_move image h a r e = same_heap _ _ (λ b. here b (eqb_tells b a))
  where
    here : (b : ℕ) → ((eqb b a ≡ true) × (b ≡ a)) ⊎ ((eqb b a ≡ false) × (b ≢ a)) →
        over (restore_at h a None b) (put_at image a r b) ≡ over (h b) (image b)
    here b (inl q) = rw q.0 (sym (ap (λ o. over o (image b)) (ap h q.1 ∙ e)))
    here b (inr q) = rw q.0 refl

-- what is moved so far, and what is left to move, lead to the same image
pub record IsMoved (xs : List (Option Rec)) (h : Heap) (ys : List (Option Rec)) (g : Heap) : Type 0 where
  pub image : overlay (image_in (slice_get ys)) g ≡ overlay (image_in (slice_get xs)) h
  pub size : length ys ≡ length xs
  pub reaches : Reaches g (length xs)

pub moved_within : (xs ys : List (Option Rec)) (h g : Heap) (a : ℕ) (r : Rec) → IsMoved xs h ys g → g a ≡ Some r →
    a < length ys
moved_within xs ys h g a r m e = subst (λ i. a < i) (sym m.size) (m.reaches a (ap is_some e))

pub moved_one : (xs ys : List (Option Rec)) (h g g1 : Heap) (a : ℕ) (r : Rec) → IsMoved xs h ys g → g a ≡ Some r →
    g1 ≡ restore_at g a None → IsMoved xs h (slice_set ys a (Some r)) g1
moved_one xs ys h g g1 a r m e f = rw f (record {
  image = ap (λ (i : Heap). overlay i (restore_at g a None)) (image_put ys a r (moved_within xs ys h g a r m e)) ∙
      overlay_move (image_in (slice_get ys)) g a r e ∙ m.image;
  size = length-set ys a (Some r) ∙ m.size;
  reaches = λ b q. m.reaches b (was b q);
})
  where
    by_test : (t : Bool) (o : Option Rec) → is_some (cond t None o) ≡ true → is_some o ≡ true
    by_test true o q = cc
    by_test false o q = q

    was : (b : ℕ) → is_some (restore_at g a None b) ≡ true → is_some (g b) ≡ true
    was b q = by_test (eqb b a) (g b) q

pub moved_all : (xs ys : List (Option Rec)) (h g : Heap) → IsMoved xs h ys g → g ≡ no_records →
    image_in (slice_get ys) ≡ overlay (image_in (slice_get xs)) h
moved_all xs ys h g m e = sym (ap (overlay (image_in (slice_get ys))) e) ∙ m.image
