-- A piece: steps of one thread over copies of some records. States `docs/HEAP.md`, "Pieces".
use Rattle.std.specs.Prelude.{◌≡◌, ℕ, zero, suc, true, false, []}
use Rattle.py_data.specs.Heap.{Heap, Marks}
use Rattle.py_data.specs.World.{World}
use Rattle.py_data.specs.Sight.{Sight, opened}
use Rattle.py_data.specs.Steady.{NoLonger}
use Rattle.lock_run.specs.Prog.{Prog}
use Rattle.lock_run.specs.Machine.{Step}

-- n steps, the last one last, after each of which every record is one of g, and no longer than there
abbrev pub PieceSteps : {S : Type 0} → Prog S → Heap → ℕ → S → Sight S → S → Sight S → Type 0
PieceSteps p g zero q s q1 s1 = (q1 ≡ q) × (s1 ≡ s)
PieceSteps {S} p g (suc n) q s q1 s1 =
    (r : S) × (u : Sight S) × PieceSteps p g n q s r u × Step p r u q1 s1 × NoLonger s1.heap g

-- In one world: n steps from q over the loaned records g lead to q1 and the records g1. They make no record, start no
-- thread, use no device and change only locked records. What is not loaned isn't there, so they look at nothing else.
pub record PieceIn {S : Type 0} (p : Prog S) (g : Heap) (locked : Marks) (n : ℕ) (q q1 : S) (g1 : Heap)
    (w : World) : Type 0 where
  pub sight : Sight S
  pub steps : PieceSteps p g n q (opened S g w) q1 sight
  pub heap : sight.heap ≡ g1
  pub made : sight.made ≡ []
  pub started : sight.started ≡ []
  pub unused : sight.used ≡ false
  pub touched : (a : ℕ) → sight.touched a ≡ true → locked a ≡ true

-- a piece: so in every world
abbrev pub IsPiece : {S : Type 0} → Prog S → Heap → Marks → ℕ → S → S → Heap → Type 0
IsPiece p g locked n q q1 g1 = (w : World) → PieceIn p g locked n q q1 g1 w
