-- Which pieces a worker may run between its visits. States `docs/HEAP.md`, "Workers".
use Rattle.std.specs.Prelude.{◌≡◌, List, true}
use Rattle.py_data.specs.Heap.{Heap}
use Rattle.lock_run.specs.declared.client.Life.TheVariants.{Lives}
use Rattle.lock_run.specs.Client.{StandsIn}
use Rattle.lock_run.specs.Prog.{Prog}
use Rattle.stm_pieces.specs.declared.loan.Loan.{Loan}
use Rattle.stm_pieces.specs.PieceOf.{piece_state}
use Rattle.stm_workers.specs.declared.held.Errand.{Errand}

-- a loan whose thread lives, and whose state stands over some heap with the loaned records
pub record IsRunnable {C T : Type 0} (prog : C → Prog T) (sound : C → Heap → List T → Type 0) (client : C)
    (l : Loan T) : Type 0 where
  pub lives : (prog client).life l.state ≡ Lives
  pub stands : StandsIn (sound client) true (piece_state l.view).heap l.state

-- an errand of this client, whose loan is one
pub record CanRun {C T : Type 0} (prog : C → Prog T) (sound : C → Heap → List T → Type 0) (client : C)
    (e : Errand C T) : Type 0 where
  pub client_is : e.client.now ≡ client
  pub runnable : IsRunnable prog sound client e.loan
