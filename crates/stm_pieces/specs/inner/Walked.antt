-- What code and proofs say to each other: nothing public rests on it.
-- Steps over a piece view, one after another. States `docs/HEAP.md`, "Pieces".
use Rattle.std.specs.Prelude.{◌≡◌, ℕ, true, false, List, []}
use Rattle.py_data.specs.Heap.{Heap, Has}
use Rattle.py_data.specs.World.{World}
use Rattle.py_data.specs.Sight.{Sight, opened}
use Rattle.py_data.specs.Steady.{NoLonger}
use Rattle.lock_run.specs.Prog.{Prog}
use Rattle.lock_run.specs.Client.{StandsIn}
use Rattle.stm_pieces.specs.Piece.{PieceSteps}
use Rattle.stm_pieces.specs.PieceState.{PieceState, IsTight, SameTerms, Replayed}

-- a sight that made and started nothing and left the devices alone
pub record Quiet {S : Type 0} (s : Sight S) : Type 0 where
  pub made : s.made ≡ []
  pub started : s.started ≡ []
  pub unused : s.used ≡ false

-- the sight of steps that began at the view d0 and goes on over the view d
pub record Follows {S : Type 0} (d0 d : PieceState) (s : Sight S) : Type 0 where
  pub heap : s.heap ≡ d.heap
  pub quiet : Quiet s
  pub there : (a : ℕ) → s.touched a ≡ true → Has s.heap a
  pub locked : (a : ℕ) → s.touched a ≡ true → d0.locked a ≡ true
  pub within : NoLonger d.heap d0.heap
  pub terms : SameTerms d0 d
  pub replayed : Replayed d0 d
  pub tight : IsTight d0
  pub alone : d0.solo ≡ false

-- n steps from q0 and the view d0 up to the state q and the view d
pub record Walked {S : Type 0} (p : Prog S) (sound : Heap → List S → Type 0) (d0 : PieceState) (n : ℕ) (q0 q : S)
    (d : PieceState) : Type 0 where
  pub steps : (w : World) → (s : Sight S) × PieceSteps p d0.heap n q0 (opened S d0.heap w) q s × Follows d0 d s
  pub stands : StandsIn sound true d.heap q
