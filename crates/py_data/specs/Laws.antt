-- Laws of all rows, in the words in which `src/laws.rt` ensures them. States `docs/HEAP.md`, "Rows" and "Stops".
use Rattle.std.specs.Prelude.{◌≡◌, ◌⊎◌, ◌↔◌, ℕ, List, ◌++◌, Some, Bool, false}
use Rattle.py_data.specs.declared.stop.Stop.{Stop}
use Rattle.py_data.specs.declared.stop.Stop.TheVariants.{OutOfMemory}
use Rattle.py_data.specs.Heap.{Heap}
use Rattle.py_data.specs.World.{World}
use Rattle.py_data.specs.Row.{Call, Reply, Row, Do, bind}
use Rattle.py_data.specs.Sense.{Sense, Run, Stopped, Upto, ShownOf, Safe}
use Rattle.py_data.specs.Sight.{Sight, Does, opened}
use Rattle.py_data.specs.Frames.{Afresh}

-- the world is independent: a row that doesn't use it leaves it, and does the same over any other
abbrev pub WorldLaw : Type 0 → Type 0 → Type 0
WorldLaw S A =
    (w : Row S A) (h : Heap) (v other : World) (t : Sight S) (y : A) → Does w (opened S h v) y t → t.used ≡ false
    → (t.world ≡ v) × Does w (opened S h other) y (record t { world = other })

-- The place at which a row was stopped: its calls up to there were done, and `left` is left of it. There the code found
-- no memory of its own, or the view refused the next call.
pub record StoppedAt {S X A : Type 0} (u : Sense S X) (row : Row S A) (v : X) (e : Stop) (w : X) : Type 0 where
  pub left : Row S A
  pub place : X
  pub upto : Upto u row v left place
  pub why : ((e ≡ OutOfMemory) × (w ≡ place)) ⊎
      ((c : Call S) × (k : Reply c → Row S A) × (left ≡ Do c k) × u.refuses c place e w)

-- a row that was stopped was stopped at some place
abbrev pub StopLaw : {S X : Type 0} → Sense S X → Type 0 → Type 0
StopLaw {S} {X} u A = (row : Row S A) (v : X) (e : Stop) (w : X) → Stopped u row v e w → StoppedAt u row v e w

-- a row that is bound to what follows it is done exactly where the one is done, and then the other
abbrev pub BindLaw : {S X : Type 0} → Sense S X → Type 0 → Type 0 → Type 0
BindLaw {S} {X} u A B =
    (p : Row S A) (f : A → Row S B) (v : X) (b : B) (w : X) →
    (Run u (bind p f) v b w) ↔ ((a : A) × (m : X) × Run u p v a m × Run u (f a) m b w)

-- whatever bookkeeping a row began with, it can be done with fresh bookkeeping, and adds the same to it
abbrev pub AfreshLaw : Type 0 → Type 0 → Type 0
AfreshLaw S A = (w : Row S A) (s t : Sight S) (y : A) → Does w s y t → (t1 : Sight S) × Afresh w s t y t1

-- the source tells the bytes that are to come
pub record IsTold {S : Type 0} (s : Sight S) : Type 0 where
  pub bytes : List ℕ
  pub is : s.world.input ≡ Some bytes

-- The names decide: where the source tells its bytes, two ways to do a row of which both give the first names of one
-- list are the same way.
abbrev pub NamesLaw : Type 0 → Type 0 → Type 0
NamesLaw S A =
    (w : Row S A) (s t t1 : Sight S) (y y1 : A) (rest rest1 : List ℕ) → IsTold s → Does w s y t → Does w s y1 t1 →
    t1.made ++ rest1 ≡ t.made ++ rest
    → (y1 ≡ y) × (t1 ≡ t)

-- a row that is safe over a heap is safe over what a view shows of it
abbrev pub PartLaw : Type 0 → Type 0 → Type 0
PartLaw S A = (p : Bool) (row : Row S A) (g h : Heap) → ShownOf p g h → Safe false row h → Safe p row g
