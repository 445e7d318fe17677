-- What code and proofs say to each other: nothing public rests on it.
-- What a turn of the loop that runs a piece did. States `docs/HEAP.md`, "Pieces".
use Rattle.std.specs.Prelude.{◌≡◌, ◌≢◌, ℕ, suc, Bool, true, false, List, Result, Ok, Err}
use Rattle.py_data.specs.Heap.{Heap}
use Rattle.lock_run.specs.declared.client.Life.{Life}
use Rattle.lock_run.specs.declared.client.Life.TheVariants.{Lives}
use Rattle.lock_run.specs.Prog.{Prog}
use Rattle.stm_pieces.specs.declared.run.PieceEnd.{PieceEnd}
use Rattle.stm_pieces.specs.PieceState.{PieceState}
use Rattle.stm_pieces.specs.Ends.{Hindered}
use Rattle.stm_pieces.specs.inner.Walked.{Walked}

-- an answer says whether the thread lives
abbrev pub Tells : Bool → Life → Type 0
Tells true life = life ≡ Lives
Tells false life = life ≢ Lives

-- one step more, whatever was done before, and whether the thread lives on
abbrev pub OneStep : {S : Type 0} → Prog S → (Heap → List S → Type 0) → S → PieceState → Bool → S → PieceState →
    Type 0
OneStep {S} p sound q d on q1 e =
    (d0 : PieceState) (n : ℕ) (q0 : S) → Walked p sound d0 n q0 q d
    → Walked p sound d0 (suc n) q0 q1 e × Tells on (p.life q1)

-- nothing was done, for a reason that is true of the next step
abbrev pub NoStep : {S : Type 0} → Prog S → (Heap → List S → Type 0) → S → PieceState → PieceEnd → S → PieceState →
    Type 0
NoStep {S} p sound q d end q1 e =
    (d0 : PieceState) (n : ℕ) (q0 : S) → Walked p sound d0 n q0 q d
    → Walked p sound d0 n q0 q1 e × (p.life q1 ≡ Lives) × Hindered p q1 e end

-- what a turn did, by its answer: a step more, or none
abbrev pub Turned : {S : Type 0} → Prog S → (Heap → List S → Type 0) → S → PieceState → Result Bool PieceEnd → S →
    PieceState → Type 0
Turned p sound q d (Ok on) q1 e = OneStep p sound q d on q1 e
Turned p sound q d (Err end) q1 e = NoStep p sound q d end q1 e

-- how far the loop has come
pub record Going {S : Type 0} (p : Prog S) (sound : Heap → List S → Type 0) (d0 : PieceState) (n : ℕ) (q0 q : S)
    (d : PieceState) : Type 0 where
  pub walked : Walked p sound d0 n q0 q d
  pub lives : p.life q ≡ Lives
