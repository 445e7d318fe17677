-- What a conflict is, when it stands, and who loses it. States `docs/HEAP.md`, "Conflicts".
use Rattle.std.specs.Prelude.{◌≡◌, ◌≢◌, ℕ, ◌<◌, ◌≤◌, Bool, true, false, cond, not, ◌||◌, ◌&&◌, eqb, ltb, Some}
use Rattle.py_data.specs.declared.stop.Side.{Side}
use Rattle.py_data.specs.declared.stop.Conflict.{Conflict}
use Rattle.py_data.specs.Heap.{Rec, Heap, is_tracked}
use Rattle.py_data.specs.World.{World}
use Rattle.py_data.specs.Sight.{mem}
use Rattle.lock_run.specs.Prog.{Prog}
use Rattle.stm_segment.specs.CoreState.{Transaction, Running, CoreState, sight_of}
use Rattle.stm_segment.specs.Asking.{Reaches, AsksToChange}

-- ---- what it is

-- a transaction as a side of a conflict
abbrev pub side : {S : Type 0} → ℕ → Transaction S → Side
side i x = record { segment = i; thread = x.thread; begun = x.begun; solo = x.solo }

-- the conflict over the record a between the writer x of segment i, which has locked it, and y of segment j, which has
-- looked at it, or asks to change it
abbrev pub conflict : {S : Type 0} → ℕ → Transaction S → ℕ → Transaction S → ℕ → Bool → ℕ → Conflict
conflict i x j y a asks lost = record {
  at = record { 0 = a };
  writer = side i x;
  other = side j y;
  asks = asks;
  lost =
      lost;
}

-- ---- who loses

-- the sides by their numbers: the writer is 0, and the other is 1
abbrev pub loser : Conflict → Side
loser f = cond (eqb f.lost 0) f.writer f.other

abbrev pub winner : Conflict → Side
winner f = cond (eqb f.lost 0) f.other f.writer

-- the solo one wins, and otherwise the one that began earlier
abbrev pub wins : Side → Side → Bool
wins x y = x.solo || (not y.solo && ltb x.begun y.begun)

-- ---- when it stands

-- The transaction y meets the lock of the record a: its next step comes to a call that changes the record, where the
-- conflict says that it asks; otherwise it has looked at it.
abbrev pub IsMet : {S : Type 0} → Prog S → Heap → World → Transaction S → ℕ → Bool → Type 0
IsMet p image w y a true = Reaches (p.row y.state) (sight_of image w y) (AsksToChange a)
IsMet p image w y a false = y.looked a ≡ true

-- A conflict stands: its sides are the transactions that run on two segments, the writer has locked the record, and the
-- other one meets the lock. The side of the number `lost` loses, which is the one that doesn't win.
pub record IsStanding {S : Type 0} (p : Prog S) (k : CoreState S) (f : Conflict) : Type 0 where
  pub x : Transaction S
  pub y : Transaction S
  pub writes : k.segments f.writer.segment ≡ Running x
  pub reads : k.segments f.other.segment ≡ Running y
  pub is : f ≡ conflict f.writer.segment x f.other.segment y f.at.0 f.asks f.lost
  pub differ : f.writer.segment ≢ f.other.segment
  pub held : mem f.at.0 x.changed ≡ true
  pub met : IsMet p k.image k.world y f.at.0 f.asks
  pub lost : f.lost ≤ 1
  pub loses : wins (winner f) (loser f) ≡ true

-- a conflict by which the segment i asks, and which the side of this number loses
pub record AsksFrom (i lost : ℕ) (f : Conflict) : Type 0 where
  pub segment : f.other.segment ≡ i
  pub asks : f.asks ≡ true
  pub lost_is : f.lost ≡ lost

-- ---- what is left of it

-- A conflict of the list: over a tracked record of the image, between two segments, and the loser is the side that
-- doesn't win.
pub record IsConflict (image : Heap) (begun : ℕ) (f : Conflict) : Type 0 where
  pub entry : Rec
  pub is : image f.at.0 ≡ Some entry
  pub tracked : is_tracked entry.kind ≡ true
  pub segments : f.writer.segment ≢ f.other.segment
  pub numbers : f.writer.begun ≢ f.other.begun
  pub lost : f.lost ≤ 1
  pub loses : wins (winner f) (loser f) ≡ true
  pub mortal : (loser f).solo ≡ false
  pub below : (loser f).begun < begun
