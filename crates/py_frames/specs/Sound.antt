-- Which states of threads may stand over which heaps. States `docs/LANGUAGE.md`, "Sound states".
use Rattle.std.specs.Prelude.{◌≡◌, ◌≢◌, ◌⊎◌, ℕ, pos, ◌+◌, ◌<◌, ◌≤◌, List, [], ◌∷◌, length, map, Option, Some, None, false, IsTrue}
use Rattle.py_base.specs.declared.kind.Kind.TheVariants.{Str, Tuple, Dict, Cell, Class, Instance, Thread}
use Rattle.py_data.specs.declared.value.Addr.{Addr}
use Rattle.py_data.specs.declared.value.Value.{Value}
use Rattle.py_data.specs.declared.value.Value.TheVariants.{Unset, Int, Ref}
use Rattle.py_data.specs.Closed.{Refers}
use Rattle.py_data.specs.Every.{Every}
use Rattle.py_data.specs.Heap.{Rec, Heap, no_records, value_at}
use Rattle.py_data.specs.Order.{Rules, IsOrdered}
use Rattle.py_data.specs.Shape.{RefTo}
use Rattle.py_code.specs.declared.program.Program.{Program}
use Rattle.py_code.specs.Effects.{Sh}
use Rattle.py_code.specs.Typing.{shape_at, IsTyping}
use Rattle.py_code.specs.Right.{first_text, first_place, is_body, IsRightProgram}
use Rattle.obj_class.specs.Bases.{ref}
use Rattle.obj_class.specs.Roots.{IsRoots}
use Rattle.py_frames.specs.declared.state.Block.{Block}
use Rattle.py_frames.specs.declared.state.Frame.{Frame}
use Rattle.py_frames.specs.declared.state.Dying.{Dying}
use Rattle.py_frames.specs.Binding.{entered, unset_slots}
use Rattle.py_frames.specs.GlobalRows.{first_cell}
use Rattle.py_frames.specs.State.{State, code_at, limits}

-- ---- what a program asks of the heap

-- a Function's values: its name, the number of a code that is neither the module's nor a class body's, and a Tuple of
-- defaults, which are no more than the code's parameters
pub record IsFunctionOf (p : Program) (h : Heap) (vs : List Value) : Type 0 where
  pub name : Value
  pub number : ℕ
  pub defaults : Addr
  pub is : vs ≡ name ∷ Int (pos number) ∷ Ref defaults ∷ []
  pub there : number < length p.codes
  pub some : 0 < number
  pub none : is_body p.codes number ≡ false
  pub tuple : Rec
  pub here : h defaults.0 ≡ Some tuple
  pub kind : tuple.kind ≡ Tuple
  pub few : length tuple.values ≤ (code_at p number).params

-- a count of threads
abbrev pub IsThreadCount : Value → Type 0
IsThreadCount (Int (pos n)) = (1 ≤ n) × (n ≤ 1_024)
IsThreadCount _ = ⊥

-- the Cell at the address `count` has the count of threads
unfoldable pub rules_of : Program → ℕ → Rules
rules_of p count = record { function = IsFunctionOf p; cell = λ a v. a ≡ count → IsThreadCount v }

-- The list of a program's roots: the Cell of the count, the classes, the strings, and the Cells of the global names,
-- none of which is that of the count.
pub record AreRoots (p : Program) (h : Heap) (count roots : ℕ) : Type 0 where
  pub known : IsRoots h roots
  pub counts : value_at known.list.values 0 ≡ ref count
  pub texts : (n : ℕ) → first_text ≤ n → n < first_cell p → RefTo h Str (value_at known.list.values n)
  pub cells : (n : ℕ) → first_cell p ≤ n → n < length p.roots → RefTo h Cell (value_at known.list.values n)
  pub apart : (n : ℕ) → first_cell p ≤ n → n < length p.roots → value_at known.list.values n ≢ ref count

-- ---- frames

abbrev pub heights : List Block → List ℕ
heights bs = map (λ b. b.height) bs

-- Each open block, from the innermost on, is no higher than what stands above the blocks round it, and its handler
-- finds those blocks, and the exception on a stack of the block's height.
abbrev pub BlocksFit : List (Option Sh) → ℕ → ℕ → List Block → Type 0
BlocksFit t first n [] = Unit {0}
BlocksFit t first n (b ∷ bs) =
    (b.height ≤ n) × (first ≤ b.handler) ×
    (shape_at t b.handler ≡ Some (record { height = b.height + 1; blocks = heights bs })) × BlocksFit t first
    b.height bs

-- Unset, or an Instance
abbrev pub IsMade : Heap → Value → Type 0
IsMade h Unset = Unit {0}
IsMade h x = RefTo h Instance x

-- the Dict and the base of a class body, or what an `__init__` makes
abbrev pub HasNames : Heap → Option Addr → Value → Type 0
HasNames h (Some d) made = RefTo h Dict (Ref d) × RefTo h Class made
HasNames h None made = IsMade h made

-- A frame fits a typing of its code, with so many values still to come: none of the innermost frame, and of another one
-- the value that the frame above it leaves.
pub record IsFrame (p : Program) (h : Heap) (extra : ℕ) (f : Frame) : Type 0 where
  pub is : f.code < length p.codes
  pub typing : List (Option Sh)
  pub typed : IsTyping (limits p f) (code_at p f.code).instrs typing
  pub shape : shape_at typing f.pc ≡ Some (record { height = length f.stack + extra; blocks = heights f.blocks })
  pub begun : first_place f.code ≤ f.pc
  pub blocks : BlocksFit typing (first_place f.code) (length f.stack) f.blocks
  pub slots : length f.slots ≡ length (code_at p f.code).slots
  pub held : Every (Refers h) f.slots
  pub stacked : Every (Refers h) f.stack
  pub names : HasNames h f.names f.made
  pub body : IsTrue (is_body p.codes f.code) → f.names ≢ None

abbrev pub AreFrames : Program → Heap → ℕ → List Frame → Type 0
AreFrames p h extra [] = Unit {0}
AreFrames p h extra (f ∷ fs) = IsFrame p h extra f × AreFrames p h 1 fs

-- ---- threads

abbrev pub IsThread : Heap → Option Addr → Type 0
IsThread h None = Unit {0}
IsThread h (Some a) = RefTo h Thread (Ref a)

-- a thread that dies has an exception, and another one frames that fit
abbrev pub CanGoOn : Program → Heap → Option Dying → List Frame → Type 0
CanGoOn p h (Some d) fs = RefTo h Instance d.exc
CanGoOn p h None fs = AreFrames p h 0 fs

pub record IsState (p : Program) (roots : Addr) (h : Heap) (s : State) : Type 0 where
  pub roots_are : s.roots ≡ Some roots
  pub thread : IsThread h s.thread
  pub goes : CanGoOn p h s.dying s.frames

-- the threads of a program once its roots are made
pub record AreStates (p : Program) (h : Heap) (ss : List State) : Type 0 where
  pub roots : Addr
  pub count : ℕ
  pub order : IsOrdered (rules_of p count) h
  pub rooted : AreRoots p h count roots.0
  pub each : Every (IsState p roots h) ss

-- ---- the first state

-- the frame of the module, at its SETUP
abbrev pub module_frame : Program → Frame
module_frame p = entered 0 (unset_slots (length (code_at p 0).slots))

abbrev pub first_state : Program → State
first_state p = record { number = 0; roots = None; thread = None; frames = module_frame p ∷ []; dying = None }

-- the first thread alone over no records
pub record IsBegin (p : Program) (h : Heap) (ss : List State) : Type 0 where
  pub heap : h ≡ no_records
  pub states : ss ≡ first_state p ∷ []

-- the threads of a program that is right, before its first step or behind it
abbrev pub Sound : Program → Heap → List State → Type 0
Sound p h ss = IsRightProgram p × (IsBegin p h ss ⊎ AreStates p h ss)
