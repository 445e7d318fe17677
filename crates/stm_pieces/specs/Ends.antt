-- Why a piece ended, and the state in which it left the thread. States `docs/HEAP.md`, "Pieces".
use Rattle.std.specs.Prelude.{◌≡◌, ◌≢◌, ℕ, ◌<◌, Option, Some, None}
use Rattle.py_data.specs.Heap.{Heap}
use Rattle.py_data.specs.World.{World}
use Rattle.py_data.specs.Row.{Call, Reply, Row, Do}
use Rattle.py_data.specs.Sense.{Upto}
use Rattle.py_data.specs.Sight.{Sight, pure, opened}
use Rattle.lock_run.specs.declared.client.Life.TheVariants.{Lives}
use Rattle.lock_run.specs.Prog.{Prog}
use Rattle.lock_run.specs.Client.{Waiting}
use Rattle.stm_pieces.specs.declared.run.PieceEnd.{PieceEnd}
use Rattle.stm_pieces.specs.declared.run.PieceEnd.TheVariants.{Most, Ended, Waits, NeedSolo, NeedHeap, OutOfMemory}
use Rattle.stm_pieces.specs.PieceState.{PieceState, Outer, NeedsHeap}

-- From the records g a row comes to a call of which this holds, over the records as they stand there.
pub record ComesTo {S A : Type 0} (row : Row S A) (g : Heap) (w : World) (P : Call S → Heap → Type 0) : Type 0 where
  pub call : Call S
  pub rest : Reply call → Row S A
  pub place : Sight S
  pub upto : Upto pure row (opened S g w) (Do call rest) place
  pub so : P call place.heap

-- in every world the row comes to a call that prints or reads
abbrev pub ComesOut : {S A : Type 0} → Row S A → PieceState → Type 0
ComesOut row d = (w : World) → ComesTo row d.heap w (λ c h. Outer c)

-- in every world the row comes to a call that can't be done on these terms
abbrev pub ComesToNeed : {S A : Type 0} → Row S A → PieceState → Type 0
ComesToNeed row d = (w : World) → ComesTo row d.heap w (λ c h. NeedsHeap c (record d { heap = h }))

-- the row's next step can't be done over the view, for such a reason
abbrev pub Hindered : {S : Type 0} → Prog S → S → PieceState → PieceEnd → Type 0
Hindered p q d Most = ⊥
Hindered p q d Ended = ⊥
Hindered p q d Waits = Waiting (p.row q) d.heap
Hindered p q d NeedSolo = ComesOut (p.row q) d
Hindered p q d NeedHeap = ComesToNeed (p.row q) d
Hindered p q d OutOfMemory = Unit {0}

-- After n of at most so many steps a piece ended so, in the state q and with the view d. The thread has ended exactly
-- where the piece says so; a piece that says Most has all its steps, and one that says another reason has fewer, and
-- that reason is true of the next step. Want of memory alone is always possible.
abbrev pub EndsSo : {S : Type 0} → Prog S → ℕ → ℕ → S → PieceState → PieceEnd → Type 0
EndsSo p most n q d Most = (p.life q ≡ Lives) × (n ≡ most)
EndsSo p most n q d Ended = p.life q ≢ Lives
EndsSo p most n q d OutOfMemory = p.life q ≡ Lives
EndsSo p most n q d end = (p.life q ≡ Lives) × (n < most) × Hindered p q d end

-- the state at the end: the one at the start, where none is kept beside it
abbrev pub last_of : {S : Type 0} → S → Option S → S
last_of q None = q
last_of q (Some q1) = q1
