-- Changes of the innermost frame, and where an exception goes.
-- What code and proofs say to each other: nothing public rests on it.
use Rattle.std.specs.Prelude.{◌≡◌, ◌≢◌, ℕ, ◌+◌, Bool, true, false, List, [], ◌∷◌, ◌++◌, take, Option, Some, None}
use Rattle.py_data.specs.declared.value.Value.{Value}
use Rattle.py_frames.specs.declared.state.Block.{Block}
use Rattle.py_frames.specs.declared.state.Frame.{Frame}
use Rattle.py_frames.specs.State.{State, handled, with_frames}

-- the innermost frame is changed, the others stay
abbrev pub on_top : (Frame → Frame) → List Frame → List Frame
on_top g [] = []
on_top g (f ∷ fs) = g f ∷ fs

abbrev pub with_top : State → (Frame → Frame) → State
with_top s g = with_frames s (on_top g s.frames)

-- ---- parts of what an instruction leads to

-- the stack has its first m values, and then these
abbrev pub restacked : ℕ → List Value → Frame → Frame
restacked m ys f = record f { stack = take m f.stack ++ ys }

-- another place follows
abbrev pub placed : ℕ → Frame → Frame
placed t f = record f { pc = t }

-- the innermost block takes an exception, if there is one
abbrev pub caught_by : Value → Frame → List Block → Frame
caught_by x f [] = f
caught_by x f (b ∷ bs) = handled x f b bs

abbrev pub caught : Value → Frame → Frame
caught x f = caught_by x f f.blocks

-- the place of the first of these frames that has an open block, where the first of all has the place i
abbrev pub catching_by : ℕ → List Block → Option ℕ → Option ℕ
catching_by i [] rest = rest
catching_by i (b ∷ bs) rest = Some i

abbrev pub catching : ℕ → List Frame → Option ℕ
catching i [] = None
catching i (f ∷ fs) = catching_by i f.blocks (catching (i + 1) fs)

-- an exception led to these frames, or to none and then the frames are those from before
abbrev pub IsThrown : List Frame → List Frame → List Frame → Bool → Type 0
IsThrown us old new true = (us ≢ []) × (new ≡ us)
IsThrown us old new false = (us ≡ []) × (new ≡ old)
