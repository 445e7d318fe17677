-- A core is good when it is made.
use Rattle.std.proofs.Common.{◌≡◌, ◌≤◌, ℕ, None, refl, arith}
use Rattle.std.proofs.lemmas.List.Elements.{All-nil}
use Rattle.py_data.specs.declared.stop.Conflict.{Conflict}
use Rattle.py_data.specs.World.{World}
use Rattle.lock_run.specs.declared.turn.Turn.{Turn}
use Rattle.lock_run.specs.Prog.{Prog}
use Rattle.stm_segment.specs.CoreState.{Transaction, Segment, Idle, Doomed, Running, committed, core_new}
use Rattle.stm_core.specs.Good.{Good}
use Rattle.stm_segment.specs.Conflict.{IsConflict}

no_run : {S : Type 0} (x : Transaction S) → ◌≡◌ {A = Segment S} Idle (Running x) → ⊥
no_run x e = cc

no_doom : (S : Type 0) (f : Conflict) → ◌≡◌ {A = Segment S} Idle (Doomed f) → ⊥
no_doom S f e = cc

pub good_new : {S : Type 0} (c : Prog S) (w : World) (most : ℕ) → Good c (committed (core_new c w)) most (core_new c w)
good_new {S} c w most = record {
  run = refl;
  short = All-nil (λ (t : Turn). t.steps ≤ most);
  stands = λ i x e. absurd (no_run x e);
  at_most = λ i x e. absurd (no_run x e);
  apart = λ i j x y n e f. absurd (no_run x e);
  conflicts = All-nil (IsConflict (λ a. None) 0);
  lost = λ i x e. absurd (no_run x e);
  differ = λ i j d l h. absurd (omega arith);
  doomed = λ i f e. absurd (no_doom S f e);
  caused = λ n. absurd (n refl);
}
