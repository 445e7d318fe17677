-- What a row can do at most, and in what sense it does the same over another heap that agrees where it looks.
-- States `docs/HEAP.md`, "Rows" and "Tracked and fixed records".
use Rattle.std.specs.Prelude.{◌≡◌, ℕ, ◌≤◌, Bool, true, false, ◌||◌, List, [], ◌++◌, Some, None}
use Rattle.py_data.specs.Heap.{Heap, Marks, Rec, is_tracked}
use Rattle.py_data.specs.Row.{Row}
use Rattle.py_data.specs.Sight.{Sight, Does, mem, no_marks, opened}
use Rattle.py_data.specs.World.{World}

-- what a change leaves of a record: its kind and first room, and at least its room
pub record KeptAs (r q : Rec) : Type 0 where
  pub kind : q.kind ≡ r.kind
  pub first : q.first ≡ r.first
  pub room : r.room ≤ q.room

-- what a row can do to a sight, whatever the row
pub record Grows {S : Type 0} (s t : Sight S) : Type 0 where
  pub looked : (a : ℕ) → s.looked a ≡ true → t.looked a ≡ true
  pub touched : (a : ℕ) → s.touched a ≡ true → t.touched a ≡ true
  pub used : s.used ≡ true → t.used ≡ true
  pub same : (a : ℕ) → t.touched a ≡ false → t.heap a ≡ s.heap a
  pub world : t.used ≡ false → t.world ≡ s.world
  pub kept : (a : ℕ) (r : Rec) → s.heap a ≡ Some r → (q : Rec) × (t.heap a ≡ Some q) × KeptAs r q
  pub fixed : (a : ℕ) (r : Rec) → s.heap a ≡ Some r → is_tracked r.kind ≡ false → t.heap a ≡ Some r
  pub seen : (a : ℕ) (r : Rec) → s.touched a ≡ false → t.touched a ≡ true → s.heap a ≡ Some r →
      (t.looked a ≡ true) × (is_tracked r.kind ≡ true)
  pub fresh : (a : ℕ) → s.touched a ≡ false → t.touched a ≡ true → s.heap a ≡ None → mem a t.made ≡ true
  pub names : (a : ℕ) → mem a s.made ≡ true → mem a t.made ≡ true

-- another heap and world, and what one of two sights had made, started and marked before, that the other had not
pub record Frame (S : Type 0) : Type 0 where
  pub base : Heap
  pub world : World
  pub made_here : List ℕ
  pub made_there : List ℕ
  pub started_here : List S
  pub started_there : List S
  pub looked : Marks
  pub touched : Marks
  pub used : Bool
  pub unseen : Marks

-- s' is s over the frame's heap and world: the same where s has touched, and the frame's elsewhere
pub record Mirrors {S : Type 0} (fr : Frame S) (s s' : Sight S) : Type 0 where
  pub inside : (a : ℕ) → s.touched a ≡ true → s'.heap a ≡ s.heap a
  pub outside : (a : ℕ) → s.touched a ≡ false → s'.heap a ≡ fr.base a
  pub looked : (a : ℕ) → s'.looked a ≡ true → (fr.looked a || s.looked a) ≡ true
  pub looked_back : (a : ℕ) → s.looked a ≡ true → (fr.unseen a || s'.looked a) ≡ true
  pub touched : (a : ℕ) → s'.touched a ≡ true → (fr.touched a || s.touched a) ≡ true
  pub used : s'.used ≡ true → (fr.used || s.used) ≡ true
  pub world_used : s.used ≡ true → s'.world ≡ s.world
  pub world_left : s.used ≡ false → s'.world ≡ fr.world
  pub made : fr.made_there ++ s.made ≡ fr.made_here ++ s'.made
  pub started : fr.started_there ++ s.started ≡ fr.started_here ++ s'.started

-- the other heap and world agree with what is looked at on the way from s to t
pub record Agrees {S : Type 0} (base : Heap) (w : World) (s t : Sight S) : Type 0 where
  pub looked : (a : ℕ) (r : Rec) → s.touched a ≡ false → s.heap a ≡ Some r →
      (is_tracked r.kind ≡ true → t.looked a ≡ true) → base a ≡ Some r
  pub fresh : (a : ℕ) → s.touched a ≡ false → t.touched a ≡ true → s.heap a ≡ None → base a ≡ None
  pub world : s.used ≡ false → t.used ≡ true → w ≡ s.world

-- the frame that adds no bookkeeping
abbrev pub plain : (S : Type 0) → Heap → World → Frame S
plain S h w = record {
  base = h;
  world = w;
  made_here = [];
  made_there = [];
  started_here = [];
  started_there = [];
  looked = no_marks;
  touched = no_marks;
  used = false;
  unseen = no_marks;
}

-- a second heap that has each fixed record of the first, and agrees with it on these marks
pub record AgreesOn (looked : Marks) (h h' : Heap) : Type 0 where
  pub fixed : (a : ℕ) (r : Rec) → h a ≡ Some r → is_tracked r.kind ≡ false → h' a ≡ Some r
  pub same : (a : ℕ) → looked a ≡ true → h' a ≡ h a

-- the same step over another heap and world
pub record SameStep {S A : Type 0} (w : Row S A) (h' : Heap) (v' : World) (t : Sight S) (y : A) (t' : Sight S) : Type 0
  where
    pub does : Does w (opened S h' v') y t'
    pub looked : (a : ℕ) → t'.looked a ≡ t.looked a
    pub made : t'.made ≡ t.made
    pub started : t'.started ≡ t.started
    pub changes : (a : ℕ) → t.touched a ≡ true → t'.heap a ≡ t.heap a
    pub others : (a : ℕ) → t.touched a ≡ false → t'.heap a ≡ h' a
    pub world : t.used ≡ false → t'.world ≡ v'
    pub world_used : t.used ≡ true → t'.world ≡ t.world

-- the frame law
abbrev pub FrameLaw : Type 0 → Type 0 → Type 0
FrameLaw S A =
    (w : Row S A) (h h' : Heap) (v v' : World) (t : Sight S) (y : A) → Does w (opened S h v) y t →
    AgreesOn t.looked h h' → ((a : ℕ) → mem a t.made ≡ true → h' a ≡ None)
    → (t.used ≡ true → v' ≡ v) → (t' : Sight S) × SameStep w h' v' t y t'

-- the same row from the same heap and world, with fresh bookkeeping
pub record Afresh {S A : Type 0} (w : Row S A) (s t : Sight S) (y : A) (t' : Sight S) : Type 0 where
  pub does : Does w (opened S s.heap s.world) y t'
  pub heap : (a : ℕ) → t'.heap a ≡ t.heap a
  pub world : t'.world ≡ t.world
  pub made : t.made ≡ s.made ++ t'.made
  pub started : t.started ≡ s.started ++ t'.started
  pub looked : (a : ℕ) → t'.looked a ≡ true → t.looked a ≡ true
