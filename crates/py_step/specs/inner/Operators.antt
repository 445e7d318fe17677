-- What code and proofs say to each other: nothing public rests on it. Which numbers an instruction may have for its
-- operator, and what a step needs to know of the instruction at hand. States `docs/LANGUAGE.md`, "Right programs".
use Rattle.std.specs.Prelude.{◌≡◌, ◌<◌, List, ◌∷◌, length, Some, None}
use Rattle.py_base.specs.Numbers.{unary_signs, binary_signs, compare_signs}
use Rattle.py_code.specs.declared.instr.Instr.{Instr}
use Rattle.py_code.specs.declared.instr.Instr.TheVariants.{Unary, Binary, InPlace, Compare}
use Rattle.py_code.specs.declared.program.Program.{Program}
use Rattle.py_frames.specs.declared.state.Frame.{Frame}
use Rattle.py_frames.specs.State.{State, instr_at}

-- an instruction that names an operator names one that there is
abbrev pub HasOperator : Instr → Type 0
HasOperator (Unary o) = o < length unary_signs
HasOperator (Binary o) = o < length binary_signs
HasOperator (InPlace o) = o < length binary_signs
HasOperator (Compare o) = o < length compare_signs
HasOperator _ = Unit {0}

-- so does the next instruction of a thread that doesn't die
pub record IsOperable (p : Program) (s : State) : Type 0 where
  pub each : (f : Frame) (fs : List Frame) (i : Instr) → s.dying ≡ None → s.frames ≡ f ∷ fs → instr_at p f ≡ Some i →
      HasOperator i
