-- What holds of the threads of a right program, in the words of the laws of clients. States `docs/LANGUAGE.md`, "Sound
-- states".
use Rattle.std.specs.Prelude.{◌≡◌, ℕ, ◌<◌, List, [], ◌∷◌, length, slice_get, Some, None, false}
use Rattle.py_data.specs.Heap.{Heap, no_records}
use Rattle.py_data.specs.Steady.{AsksToPrint, Steady}
use Rattle.py_code.specs.declared.instr.Instr.{Instr}
use Rattle.py_code.specs.declared.program.Program.{Program}
use Rattle.py_code.specs.Effects.{Fine}
use Rattle.py_code.specs.Right.{IsRightProgram}
use Rattle.lock_run.specs.Prog.{Prog}
use Rattle.lock_run.specs.Client.{StaysSound, IsSafe, TellsLife, WaitsQuietly}
use Rattle.py_frames.specs.declared.state.Frame.{Frame}
use Rattle.py_frames.specs.State.{State, limits, instr_at, life_of}
use Rattle.py_frames.specs.Sound.{heights, first_state, Sound}
use Rattle.py_frames.specs.Steps.{step_row}

-- what the threads of a program do
abbrev pub prog_of : Program → Prog State
prog_of p = record { row = step_row p; life = life_of; first = first_state p }

-- the first state alone may stand over no records
abbrev pub FirstLaw : Type 0
FirstLaw = (p : Program) → IsRightProgram p → Sound p no_records (first_state p ∷ [])

-- a step leaves states that may stand over the heap that it leaves
abbrev pub StepLaw : Type 0
StepLaw = (p : Program) → StaysSound (prog_of p) (Sound p)

-- the next step of a thread that lives has what its calls need
abbrev pub SafeLaw : Type 0
SafeLaw = (p : Program) → IsSafe (prog_of p) (Sound p)

-- after a step that was done the thread lives, and after its last step it doesn't
abbrev pub OutcomeLaw : Type 0
OutcomeLaw = (p : Program) → TellsLife (prog_of p)

-- in the course of a step no record is longer than before it, or than at its end
abbrev pub SteadyStepLaw : Type 0
SteadyStepLaw = (p : Program) (s : State) → Steady false (step_row p s)

-- a step that asks whether the output is in mid line goes on to write
abbrev pub AskLaw : Type 0
AskLaw = (p : Program) (s : State) → AsksToPrint (step_row p s)

-- a step that waits leaves all as it was
abbrev pub WaitLaw : Type 0
WaitLaw = (p : Program) → WaitsQuietly (prog_of p)

-- The innermost frame of a thread that may stand over the heap, and doesn't die, lacks nothing: it has its code, an
-- instruction at its place, the operands above the innermost block, and what the instruction names.
pub record IsEquipped (p : Program) (f : Frame) : Type 0 where
  pub code : f.code < length p.codes
  pub instr : Instr
  pub at : instr_at p f ≡ Some instr
  pub fine : Fine (limits p f) instr (record { height = length f.stack; blocks = heights f.blocks })

abbrev pub NeverLacksLaw : Type 0
NeverLacksLaw =
    (p : Program) (h : Heap) (ss : List State) (t : ℕ) (s : State) (f : Frame) (fs : List Frame)
    → Sound p h ss → slice_get ss t ≡ Some s → s.dying ≡ None → s.frames ≡ f ∷ fs → IsEquipped p f
