-- What a step that was cut in its next call has done, and which step of a run it was. States `docs/HEAP.md`, "Turns and
-- runs".
use Rattle.std.specs.Prelude.{◌≡◌, ◌≢◌, ℕ, List, ◌++◌, Some, length, take, slice_get, All}
use Rattle.py_data.specs.declared.stop.Out.TheVariants.{Output, ErrorOutput}
use Rattle.py_data.specs.Row.{Row, Do, Put, Take}
use Rattle.py_data.specs.Sense.{Upto}
use Rattle.py_data.specs.Sight.{Sight, opened, pure}
use Rattle.py_data.specs.World.{World, wrote, shrunk}
use Rattle.lock_run.specs.declared.client.Life.TheVariants.{Lives}
use Rattle.lock_run.specs.declared.turn.Turn.{Turn}
use Rattle.lock_run.specs.Prog.{Prog}
use Rattle.lock_run.specs.Machine.{Machine, Runs}

-- what the devices were told once the next call of a row was cut: a front of what it writes, or some bytes of the input
-- are gone
abbrev pub PartOf : {S A : Type 0} → Row S A → World → World → Type 0
PartOf (Do (Put Output bytes) k) w told = (n : ℕ) × (told ≡ wrote Output (take n bytes) w)
PartOf (Do (Put ErrorOutput bytes) k) w told = (n : ℕ) × (told ≡ wrote ErrorOutput (take n bytes) w)
PartOf (Do (Take most) k) w told = (n : ℕ) × (told ≡ record w { input = shrunk w.input n })
PartOf _ w told = told ≡ w

-- A row was begun at a sight and cut in its next call: `left` is left of it at `place`, and this was told to the
-- devices.
pub record RowCut {S A : Type 0} (row : Row S A) (from : Sight S) (told : World) : Type 0 where
  pub left : Row S A
  pub place : Sight S
  pub upto : Upto pure row from left place
  pub part : PartOf left place.world told

-- the step that was cut: the next one of this thread, after so many turns
pub record Broken : Type 0 where
  pub thread : ℕ
  pub turns : ℕ

-- The step that was cut is the next one of its thread after a front of the history. The thread has no later turn, and
-- the later turns left the world. Of its row a beginning was done, and its next call was cut.
pub record Broke {S : Type 0} (p : Prog S) (first : Machine S) (history : List Turn) (w told : World)
    (b : Broken) : Type 0 where
  pub front : List Turn
  pub rest : List Turn
  pub history_is : history ≡ front ++ rest
  pub turns : length front ≡ b.turns
  pub no_more : All (λ (t : Turn). t.thread ≢ b.thread) rest
  pub machine : Machine S
  pub run : Runs p first front machine
  pub quiet : machine.world ≡ w
  pub state : S
  pub is : slice_get machine.threads b.thread ≡ Some state
  pub lives : p.life state ≡ Lives
  pub cut : RowCut (p.row state) (opened S machine.heap machine.world) told
