-- Whether a thread can go on.
use Rattle.std.proofs.Common.{◌≡◌, Bool, true, false, not, refl}
use Rattle.py_data.specs.Heap.{Heap}
use Rattle.lock_run.specs.declared.client.Life.TheVariants.{Lives}
use Rattle.lock_run.specs.Prog.{Prog}
use Rattle.lock_run.specs.Client.{Going, Waiting}
use Rattle.lock_run.specs.RunState.{IsReady}

-- a living thread can go on where it isn't blocked
pub ready_of : {S : Type 0} (p : Prog S) (s : S) (h : Heap) (blocked : Bool) → p.life s ≡ Lives →
    (blocked ≡ true → Waiting (p.row s) h) → (blocked ≡ false → Going (p.row s) h) → IsReady p s h (not blocked)
ready_of p s h true l waits goes = λ e. waits refl
ready_of p s h false l waits goes = (l, goes refl)
