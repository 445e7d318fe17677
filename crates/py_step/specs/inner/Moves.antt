-- What code and proofs say to each other: nothing public rests on it. What the code of a step does over a view. States
-- `docs/LANGUAGE.md`, "States of threads".
use Rattle.std.specs.Prelude.{◌≡◌, [], Result, Ok, Err}
use Rattle.py_data.specs.declared.stop.Stop.{Stop}
use Rattle.py_data.specs.Row.{Row, Ret, bind}
use Rattle.py_data.specs.Sense.{Sense, Run, Stopped}
use Rattle.lock_run.specs.declared.client.Outcome.{Outcome}
use Rattle.lock_run.specs.declared.client.Outcome.TheVariants.{Ended}
use Rattle.py_frames.specs.declared.state.Dying.{Dying}
use Rattle.py_frames.specs.PrintRows.{dying_row}
use Rattle.py_frames.specs.Raising.{place_of}
use Rattle.py_frames.specs.State.{State, with_frames}

-- The row was done, its answer is how the step ended and the state that it left; or it was stopped, and the state
-- stayed as it was.
abbrev pub Moves : {X : Type 0} → Sense State X → Row State (Outcome × State) → X → State → X → State →
    Result Outcome Stop → Type 0
Moves u row v s w t (Ok o) = Run u row v (o, t) w
Moves u row v s w t (Err e) = Stopped u row v e w × (t ≡ s)

-- the last words of a thread that dies, and its step
abbrev pub dying_words : {S : Type 0} → State → Dying → Row S (Unit {0})
dying_words s d = dying_row (place_of s.roots) s.number s.thread d

abbrev pub dying_step : State → Dying → Row State (Outcome × State)
dying_step s d = bind (dying_words s d) (λ _. Ret (Ended, with_frames s []))
