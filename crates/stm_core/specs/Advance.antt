-- What so many steps of a transaction are, as moves of the core. States `docs/HEAP.md`, "Events".
use Rattle.std.specs.Prelude.{◌≡◌, ℕ, Bool, true, false, List, [], ◌∷◌, ◌++◌, length, map, All}
use Rattle.py_data.specs.declared.stop.Conflict.{Conflict}
use Rattle.py_data.specs.Heap.{Heap}
use Rattle.py_data.specs.Row.{Row, Ret}
use Rattle.py_data.specs.World.{World}
use Rattle.lock_run.specs.declared.client.Outcome.{Outcome}
use Rattle.lock_run.specs.Prog.{Prog}
use Rattle.stm_segment.specs.CoreState.{CoreState, sight_of}
use Rattle.stm_segment.specs.Asking.{Went}
use Rattle.stm_segment.specs.Conflict.{AsksFrom}
use Rattle.stm_core.specs.Moves.{Move, Dooms, Goes, Rests, Follows}

-- A step of a transaction that was tried: the conflicts by which it doomed others on its way, and then the move that it
-- was.
pub record Try (S : Type 0) : Type 0 where
  pub dooms : List Conflict
  pub move : Move S

-- the moves of tries, one after another
abbrev pub moves_of : {S : Type 0} → List (Try S) → List (Move S)
moves_of [] = []
moves_of (t ∷ ts) = map Dooms t.dooms ++ t.move ∷ moves_of ts

-- The move is a step of segment k: one that was done to its end where it is said to be done, and otherwise one that
-- waits or was taken back. It looked at, locked and doomed only what its row asked for on its way.
abbrev pub IsStepOf : {S : Type 0} → Prog S → Heap → World → ℕ → List Conflict → Move S → Bool → Type 0
IsStepOf {S} p image w k fs (Goes i x x1) true =
    (i ≡ k) × (y : Outcome × S) × Went (p.row x.state) (sight_of image w x) (Ret y) x1.looked x1.changed fs
IsStepOf {S} p image w k fs (Rests i x x1) false = (i ≡ k) × (left : Row S (Outcome × S)) × Went (p.row x.state)
    (sight_of image w x) left x1.looked x1.changed fs
IsStepOf p image w k fs _ _ = ⊥

-- a try of segment k: it doomed others by its own requests alone, which it won
pub record IsTry {S : Type 0} (p : Prog S) (image : Heap) (w : World) (k : ℕ) (done : Bool) (t : Try S) : Type 0 where
  pub wins : All (AsksFrom k 0) t.dooms
  pub step : IsStepOf p image w k t.dooms t.move done

-- n steps of the transaction of segment k were tried, one after another, and each of them was done, or none. They lead
-- from one state of the core to another.
pub record Tried {S : Type 0} (p : Prog S) (most k : ℕ) (done : Bool) (n : ℕ) (c c1 : CoreState S) : Type 0 where
  pub tries : List (Try S)
  pub follows : Follows p most c (moves_of tries) c1
  pub kinds : All (IsTry p c.image c.world k done) tries
  pub count : length tries ≡ n
  pub image : c1.image ≡ c.image
  pub world : c1.world ≡ c.world
  pub cause : c1.cause ≡ c.cause

-- n steps of the transaction of segment k were done, and then so many more were tried, which wait or were taken back
pub record Gone {S : Type 0} (p : Prog S) (most k n more : ℕ) (c c1 : CoreState S) : Type 0 where
  pub reached : CoreState S
  pub steps : Tried p most k true n c reached
  pub rest : Tried p most k false more reached c1
