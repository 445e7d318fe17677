-- The states of threads, and what the end of an instruction makes of one. States `docs/LANGUAGE.md`, "States of
-- threads".
use Rattle.std.specs.Prelude.{ℕ, ◌+◌, ◌-◌, List, [], ◌∷◌, ◌++◌, length, take, drop, slice_get, slice_set, get_or, Option, Some, None}
use Rattle.py_base.specs.declared.kind.Kind.TheVariants.{Str}
use Rattle.py_data.specs.declared.value.Addr.{Addr}
use Rattle.py_data.specs.declared.value.Value.{Value}
use Rattle.py_code.specs.declared.instr.Instr.{Instr}
use Rattle.py_code.specs.declared.program.Code.{Code}
use Rattle.py_code.specs.declared.program.Program.{Program}
use Rattle.py_code.specs.declared.program.Root.{Root}
use Rattle.py_code.specs.Effects.{Limits, effect}
use Rattle.py_code.specs.Right.{limits_of}
use Rattle.lock_run.specs.declared.client.Outcome.{Outcome}
use Rattle.lock_run.specs.declared.client.Outcome.TheVariants.{Done, Ended, Waits as WaitsNow}
use Rattle.lock_run.specs.declared.client.Life.{Life}
use Rattle.lock_run.specs.declared.client.Life.TheVariants.{Lives, Ended as HasEnded, Failed}
use Rattle.py_frames.specs.declared.state.Block.{Block}
use Rattle.py_frames.specs.declared.state.Frame.{Frame}
use Rattle.py_frames.specs.declared.state.Dying.{Dying}
use Rattle.py_frames.specs.declared.next.Next.{Next}
use Rattle.py_frames.specs.declared.next.Next.TheVariants.{Goes, Jumps, Stores, Opens, Closes, Enters, Leaves, Fails, Begins, Throws, Waits}

-- the state of a thread; its frames are in order from the innermost on
pub record State : Type 0 where
  pub number : ℕ  -- the number of the thread, from 0
  pub roots : Option Addr  -- the list of roots, once it is made
  pub thread : Option Addr  -- its Thread record, if it has one
  pub frames : List Frame
  pub dying : Option Dying  -- the exception that it ends with

-- ---- what a program has at a number

abbrev pub no_code : Code
no_code = record { name = []; instrs = []; lines = []; slots = []; params = 0; keys = [] }

abbrev pub code_at : Program → ℕ → Code
code_at p n = get_or p.codes n no_code

abbrev pub no_root : Root
no_root = record { kind = Str; number = 0; bytes = [] }

-- the name of a global, an attribute or a keyword that is a root
abbrev pub root_name : Program → ℕ → List ℕ
root_name p n = let r = get_or p.roots n no_root in r.bytes

-- ---- the code of a frame

abbrev pub limits : Program → Frame → Limits
limits p f = limits_of p.codes p.roots f.code (code_at p f.code)

abbrev pub instr_at : Program → Frame → Option Instr
instr_at p f = slice_get (code_at p f.code).instrs f.pc

abbrev pub line_at : Program → Frame → ℕ
line_at p f = get_or (code_at p f.code).lines f.pc 0

abbrev pub slot_name : Program → Frame → ℕ → List ℕ
slot_name p f i = get_or (code_at p f.code).slots i []

-- how many operands an instruction takes
abbrev pub pops : Program → Frame → Instr → ℕ
pops p f i = let e = effect (limits p f) i in e.pops

-- the values on top of the stack, the lowest of them first
abbrev pub operands : ℕ → Frame → List Value
operands n f = drop (length f.stack - n) f.stack

-- ---- life: a thread lives while it has a frame, and has failed where it ended by an exception

abbrev pub life_by : Option Dying → List Frame → Life
life_by d (f ∷ fs) = Lives
life_by (Some x) [] = Failed
life_by None [] = HasEnded

abbrev pub life_of : State → Life
life_of s = life_by s.dying s.frames

-- ---- raising

-- The innermost open block of a frame takes an exception: the stack is cut to the block's height, the exception is
-- pushed, and the handler follows.
abbrev pub handled : Value → Frame → Block → List Block → Frame
handled x f b bs = record f { pc = b.handler; stack = take b.height f.stack ++ x ∷ []; blocks = bs }

abbrev pub unwound_by : Value → Frame → List Frame → List Block → List Frame → List Frame
unwound_by x f fs (b ∷ bs) rest = handled x f b bs ∷ fs
unwound_by x f fs [] rest = rest

-- the frames that go on with an exception, where the first that has an open block takes it; none where no frame has one
abbrev pub unwound : Value → List Frame → List Frame
unwound x [] = []
unwound x (f ∷ fs) = unwound_by x f fs f.blocks (unwound x fs)

abbrev pub with_frames : State → List Frame → State
with_frames s fs = record s { frames = fs }

-- where no frame takes it the thread is dying; its frames stay as they are
abbrev pub thrown_to : State → Value → ℕ → List Frame → State
thrown_to s x line (f ∷ fs) = with_frames s (f ∷ fs)
thrown_to s x line [] = record s { dying = Some (record { exc = x; line = line }) }

-- ---- returning

abbrev pub pushed : Value → Frame → Frame
pushed x f = record f { stack = f.stack ++ x ∷ [] }

-- the value is pushed in the frame round the one that is left; behind the last one the thread has ended
abbrev pub returned : State → Value → List Frame → Outcome × State
returned s x [] = (Ended, with_frames s [])
returned s x (g ∷ fs) = (Done, with_frames s (pushed x g ∷ fs))

-- ---- the state behind an instruction that takes n operands

-- other values in the place of the operands, at another place of the code
abbrev pub advanced : ℕ → List Value → ℕ → Frame → Frame
advanced n ys place f = record f { pc = place; stack = take (length f.stack - n) f.stack ++ ys }

-- the frame with no operands, at the next place
abbrev pub passed : ℕ → Frame → Frame
passed n f = advanced n [] (f.pc + 1) f

abbrev pub stored : ℕ → Value → Frame → Frame
stored i x f = record f { slots = slice_set f.slots i x }

abbrev pub opened : ℕ → ℕ → Frame → Frame
opened t n f = record f { blocks = record { handler = t; height = n } ∷ f.blocks }

abbrev pub closed : Frame → Frame
closed f = record f { blocks = drop 1 f.blocks }

-- The line of an exception is that of the instruction which ends. A frame that is entered stands on the one that goes
-- on behind the call.
unfoldable pub settled : Program → State → ℕ → Frame → List Frame → Next → Outcome × State
settled p s n f fs (Goes ys) = (Done, with_frames s (advanced n ys (f.pc + 1) f ∷ fs))
settled p s n f fs (Jumps t ys) = (Done, with_frames s (advanced n ys t f ∷ fs))
settled p s n f fs (Stores i x) = (Done, with_frames s (stored i x (passed n f) ∷ fs))
settled p s n f fs (Opens t) = (Done, with_frames s (opened t (length f.stack - n) (passed n f) ∷ fs))
settled p s n f fs Closes = (Done, with_frames s (closed (passed n f) ∷ fs))
settled p s n f fs (Enters g) = (Done, with_frames s (g ∷ passed n f ∷ fs))
settled p s n f fs (Leaves x) = returned s x fs
settled p s n f fs (Fails x) = (Done, thrown_to s x (line_at p f) (unwound x fs))
settled p s n f fs (Begins a) = (Done, record (with_frames s (passed n f ∷ fs)) { roots = Some a })
settled p s n f fs (Throws x) = (Done, thrown_to s x (line_at p f) (unwound x (f ∷ fs)))
settled p s n f fs Waits = (WaitsNow, s)
