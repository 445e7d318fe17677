-- The innermost frame of a thread, and how a step ends. States `docs/LANGUAGE.md`, "States of threads".
use Rattle.std.specs.Prelude.{◌≡◌, ℕ, Bool, true, false, List, [], ◌∷◌, reverse, None}
use Rattle.py_data.specs.declared.value.Value.{Value}
use Rattle.py_data.specs.declared.value.Value.TheVariants.{Unset}
use Rattle.py_data.specs.Heap.{value_at}
use Rattle.py_code.specs.declared.program.Program.{Program}
use Rattle.lock_run.specs.declared.client.Outcome.{Outcome}
use Rattle.lock_run.specs.declared.client.Outcome.TheVariants.{Done, Waits}
use Rattle.py_frames.specs.declared.state.Frame.{Frame}
use Rattle.py_frames.specs.declared.next.Next.{Next}
use Rattle.py_frames.specs.State.{State, settled}

-- a frame with nothing in it
abbrev pub no_frame : Frame
no_frame = record { code = 0; pc = 0; slots = []; stack = []; blocks = []; made = Unset; names = None }

-- the innermost of these frames; where there is none, one with nothing in it
abbrev pub innermost : List Frame → Frame
innermost [] = no_frame
innermost (f ∷ fs) = f

-- a value of a stack, counted from its top; Unset where there are not so many
abbrev pub from_top : ℕ → List Value → Value
from_top i xs = value_at (reverse xs) i

-- ---- the state behind an instruction that takes n operands, and its end

-- without a frame there is no instruction
abbrev pub settled_in : Program → State → ℕ → Next → List Frame → Outcome × State
settled_in p s n next [] = (Waits, s)
settled_in p s n next (f ∷ fs) = settled p s n f fs next

-- a step ended so, and left this state
abbrev pub Settles : Outcome × State → Outcome → State → Type 0
Settles x o s = ◌≡◌ {A = Outcome × State} (o, s) x

-- The step of an instruction that takes n operands and leads to this was done, whatever the program, and the thread
-- lives on; or the state is as it was.
abbrev pub Follows : State → ℕ → Next → Bool → State → Type 0
Follows s n next true s1 = (p : Program) → Settles (settled_in p s n next s.frames) Done s1
Follows s n next false s1 = s1 ≡ s
