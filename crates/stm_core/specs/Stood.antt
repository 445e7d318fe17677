-- That a conflict stood, over machines and histories alone. States `docs/HEAP.md`, "Conflicts".
use Rattle.std.specs.Prelude.{◌≡◌, ◌≢◌, ◌≤◌, true, false, List, ◌++◌}
use Rattle.py_data.specs.declared.stop.Conflict.{Conflict}
use Rattle.py_data.specs.Sight.{mem}
use Rattle.lock_run.specs.declared.turn.Turn.{Turn}
use Rattle.lock_run.specs.Prog.{Prog}
use Rattle.lock_run.specs.Machine.{Machine, Runs}
use Rattle.stm_segment.specs.CoreState.{Transaction}
use Rattle.stm_segment.specs.Conflict.{conflict, loser, winner, wins, IsMet}
use Rattle.stm_core.specs.Good.{Stands, Apart}

-- A conflict stood: a front of the history is a run to a machine over which two transactions of different segments
-- stood, apart from each other. The writer had locked the record, and the other one met the lock. The side of the
-- number `lost` loses, which is the one that doesn't win, and isn't solo.
pub record Stood {S : Type 0} (p : Prog S) (first : Machine S) (history : List Turn) (f : Conflict) : Type 0 where
  pub front : List Turn
  pub rest : List Turn
  pub history_is : history ≡ front ++ rest
  pub machine : Machine S
  pub run : Runs p first front machine
  pub x : Transaction S
  pub y : Transaction S
  pub writes : Stands p machine.heap machine.threads machine.world x
  pub reads : Stands p machine.heap machine.threads machine.world y
  pub apart : Apart x y
  pub is : f ≡ conflict f.writer.segment x f.other.segment y f.at.0 f.asks f.lost
  pub differ : f.writer.segment ≢ f.other.segment
  pub held : mem f.at.0 x.changed ≡ true
  pub met : IsMet p machine.heap machine.world y f.at.0 f.asks
  pub lost : f.lost ≤ 1
  pub loses : wins (winner f) (loser f) ≡ true
  pub mortal : (loser f).solo ≡ false
