-- What code and proofs say to each other: nothing public rests on it.
-- How a step went as an end of steps, and how many steps an end of steps counts. States `docs/HEAP.md`, "Events".
use Rattle.std.specs.Prelude.{◌≡◌, ℕ, ◌<◌, ◌≤◌}
use Rattle.stm_segment.specs.declared.halt.Halt.{Halt}
use Rattle.stm_core.specs.declared.steps.Pause.{Pause}
use Rattle.stm_core.specs.declared.steps.Pause.TheVariants.{Whole, Waits, Ended, Stopped}
use Rattle.stm_core.specs.declared.steps.Went.{Went}
use Rattle.stm_core.specs.declared.steps.Went.TheVariants as went

-- how one step went, as the end of the steps that were asked for: it tells this Halt where the step was cut
abbrev pub pause_of : Went → Halt → Pause
pause_of went.Whole h = Whole
pause_of went.Waits h = Waits
pause_of went.Ended h = Ended
pause_of went.Cut h = Stopped h

-- the steps that were done where one was asked for
abbrev pub done_by : Pause → ℕ
done_by Whole = 1
done_by Waits = 0
done_by Ended = 1
done_by (Stopped e) = 0

-- the steps that were tried after those that were done
abbrev pub tried_by : Pause → ℕ
tried_by Whole = 0
tried_by Ended = 0
tried_by Waits = 1
tried_by (Stopped e) = 1

-- how many steps were done where so many were asked for
abbrev pub PauseCount : ℕ → ℕ → Pause → Type 0
PauseCount most n Whole = n ≡ most
PauseCount most n Ended = (1 ≤ n) × (n ≤ most)
PauseCount most n Waits = n < most
PauseCount most n (Stopped e) = n < most
