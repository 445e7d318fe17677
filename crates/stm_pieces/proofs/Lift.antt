-- A step over a part of a heap, which makes and starts nothing and leaves the devices alone, is one over each heap with
-- that part.
use Rattle.std.proofs.Common.{◌≡◌, ℕ, true, false, ◌||◌, List, [], ◌++◌, Option, Some, None, IsSome, refl, sym, ◌∙◌, ap, inl, inr, append-nil}
use Rattle.std.proofs.lemmas.Bool.{cases_Bool, both_ways, or_left, or_cases}
use Rattle.py_data.specs.Heap.{Heap, Rec, Has}
use Rattle.py_data.specs.Row.{Row}
use Rattle.py_data.specs.Sense.{IsPart}
use Rattle.py_data.specs.Sight.{Sight, Does, mem}
use Rattle.py_data.specs.Frames.{Frame, Mirrors, Agrees}
use Rattle.py_data.proofs.Grow.{does_grows}
use Rattle.py_data.proofs.Mirror.{does_mirror}
use Rattle.stm_pieces.specs.inner.Walked.{Quiet}

-- y is z with what the sight t changed
pub record Lifted {S : Type 0} (z t y : Sight S) : Type 0 where
  pub part : IsPart t.heap y.heap
  pub changed : (a : ℕ) → t.touched a ≡ true → y.heap a ≡ t.heap a
  pub others : (a : ℕ) → t.touched a ≡ false → y.heap a ≡ z.heap a
  pub made : y.made ≡ z.made
  pub started : y.started ≡ z.started
  pub looked : (a : ℕ) → y.looked a ≡ true → (z.looked a || t.looked a) ≡ true
  pub touched : (a : ℕ) → y.touched a ≡ true → (z.touched a || t.touched a) ≡ true
  pub used : y.used ≡ true → z.used ≡ true
  pub world : y.world ≡ z.world

abbrev pub LiftedRow : {S A : Type 0} → Row S A → Sight S → A → Sight S → Type 0
LiftedRow {S} row z b t = (y : Sight S) × Does row z b y × Lifted z t y

none_of : (xs : List ℕ) (a : ℕ) → xs ≡ [] → mem a xs ≡ true → ⊥
none_of xs a e m = both_ways (mem a xs) (ap (mem a) e) m

there_part : (g h : Heap) → IsPart g h → (a : ℕ) (o : Option Rec) → g a ≡ o → IsSome o → h a ≡ g a
there_part g h q a None e s = absurd cc
there_part g h q a (Some r) e s = q a r e ∙ sym e

pub same_there : (g h : Heap) → IsPart g h → (a : ℕ) → Has g a → h a ≡ g a
same_there g h q a s = there_part g h q a (g a) refl s

pub lift : {S A : Type 0} (row : Row S A) (s t z : Sight S) (b : A) → Does row s b t → Quiet s → Quiet t →
    IsPart s.heap z.heap → ((a : ℕ) → s.touched a ≡ true → Has s.heap a) → LiftedRow row z b t
lift {S} row s t z b d qs qt part there =
    let g = does_grows row s t b d in
    let fr : Frame S = record {
      base = z.heap;
      world = z.world;
      made_here = [];
      made_there = z.made;
      started_here = [];
      started_there = z.started;
      looked = z.looked;
      touched = z.touched;
      used = z.used;
      unseen = s.looked;
    } in
    let m : Mirrors fr s z = record {
      inside = λ a e. same_there s.heap z.heap part a (there a e);
      outside = λ a e. refl;
      looked = λ a e. or_left (z.looked a) (s.looked a) e;
      looked_back = λ a e. or_left (s.looked a) (z.looked a) e;
      touched = λ a e. or_left (z.touched a) (s.touched a) e;
      used = λ e. or_left z.used s.used e;
      world_used = λ e. absurd (both_ways s.used qs.unused e);
      world_left = λ e. refl;
      made = ap (λ xs. z.made ++ xs) qs.made ∙ append-nil z.made;
      started = ap (λ xs. z.started ++ xs) qs.started ∙ append-nil z.started;
    } in
    let ag : Agrees z.heap z.world s t = record {
      looked = λ a r e is f. part a r is;
      fresh = λ a e f is. absurd (none_of t.made a qt.made (g.fresh a e f is));
      world = λ e f. absurd (both_ways t.used qt.unused f);
    } in
    let k = does_mirror fr row s z t b d m ag in
    let r = k.2 in (
      k.0,
      k.1,
      record {
        part = λ a q e. elim (cases_Bool (t.touched a)) [
          | inl x ↦ r.inside a x ∙ e
          | inr x ↦ r.outside a x ∙
              part a q (sym (g.same a x) ∙ e)
        ];
        changed = r.inside;
        others = r.outside;
        made = sym r.made ∙ (ap (λ xs. z.made ++ xs) qt.made ∙ append-nil z.made);
        started = sym r.started ∙ (ap (λ xs. z.started ++ xs) qt.started ∙ append-nil z.started);
        looked = r.looked;
        touched = r.touched;
        used = λ e. elim (or_cases z.used t.used (r.used e))
            [ inl x ↦ x | inr x ↦ absurd (both_ways t.used qt.unused x) ];
        world = r.world_left qt.unused;
      },
    )
