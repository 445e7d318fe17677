-- States, arguments and names worked by hand. States `docs/LANGUAGE.md`, "States of threads", "Calls and frames",
-- "Numbers and names", "Print" and "Exceptions".
use Rattle.std.specs.Fmt.{digits}
use Rattle.std.specs.Prelude.{◌≡◌, ℕ, pos, true, false, [], ◌∷◌, ◌++◌, Some, None, codes, refl}
use Rattle.py_base.specs.Numbers.{builtin_number, class_number, class_count}
use Rattle.py_data.specs.declared.value.Value.{Value}
use Rattle.py_data.specs.declared.value.Value.TheVariants.{Unset, Int}
use Rattle.py_data.specs.declared.record.Got.TheVariants.{Is, Raise}
use Rattle.py_data.specs.Fault.{argument_fault, depth_fault}
use Rattle.py_code.specs.declared.instr.Constant.TheVariants.{Truth, Builtin as BuiltinConstant, Root as RootConstant}
use Rattle.py_code.specs.declared.instr.Instr.TheVariants.{CallMethod}
use Rattle.py_code.specs.declared.program.Code.{Code}
use Rattle.py_code.specs.declared.program.Program.{Program}
use Rattle.py_code.specs.Right.{cell_root, class_roots, text_root, texts_of, cells_of}
use Rattle.lock_run.specs.declared.client.Outcome.TheVariants.{Done, Ended}
use Rattle.obj_class.specs.Roots.{class_place}
use Rattle.py_frames.specs.declared.state.Frame.{Frame}
use Rattle.py_frames.specs.declared.next.Next.TheVariants.{Goes, Leaves, Fails, Throws}
use Rattle.py_frames.specs.Binding.{entered, plainly, bound_to}
use Rattle.py_frames.specs.GlobalRows.{builtin_named, text_number, cell_number}
use Rattle.py_frames.specs.PrintRows.{error_line, spaced, stays_mid}
use Rattle.py_frames.specs.State.{State, no_code, settled}
use Rattle.py_frames.specs.Steps.{wanted, has_unset}

abbrev int : ℕ → Value
int n = Int (pos n)

-- ---- a program of a module and of `def f(a, b, c=..)`, with a slot more; its strings are `a`, `b`, `d`, its global is
-- `x`

abbrev three : Code
three = record {
  name = codes "f";
  instrs = [];
  lines = [];
  slots = codes "a" ∷ codes "b" ∷ codes "c" ∷ codes "" ∷ [];
  params = 3;
  keys = [];
}

abbrev program : Program
program = record {
  codes = no_code ∷ three ∷ [];
  roots =
      cell_root [] ∷ (class_roots 0 class_count ++
      (text_root (codes "a") ∷ text_root (codes "b") ∷ text_root (codes "d") ∷ cell_root (codes "x") ∷ []));
}

-- the keywords a, b and d are the roots 21, 22 and 23

-- f(1, 2): the default is taken, and the fourth slot has nothing
default_taken : bound_to program (plainly (int 1 ∷ int 2 ∷ [])) 1 (int 3 ∷ []) ≡ Is
    (entered 1 (int 1 ∷ int 2 ∷ int 3 ∷ Unset ∷ []))
unfolding bound_to
default_taken = refl

-- f(1, b=2)
keyword_taken : bound_to program (record { args = int 1 ∷ []; names = 22 ∷ []; values = int 2 ∷ [] }) 1 (int 3 ∷ []) ≡
    Is (entered 1 (int 1 ∷ int 2 ∷ int 3 ∷ Unset ∷ []))
unfolding bound_to
keyword_taken = refl

-- f(b=2, a=1)
keywords_in_any_order : bound_to program (record { args = []; names = 22 ∷ 21 ∷ []; values = int 2 ∷ int 1 ∷ [] }) 1
    (int 3 ∷ []) ≡ Is (entered 1 (int 1 ∷ int 2 ∷ int 3 ∷ Unset ∷ []))
unfolding bound_to
keywords_in_any_order = refl

-- f(1): nothing for b
one_is_missing : bound_to program (plainly (int 1 ∷ [])) 1 (int 3 ∷ []) ≡ Raise argument_fault
unfolding bound_to
one_is_missing = refl

-- f(1, 2, 3, 4)
one_too_many : bound_to program (plainly (int 1 ∷ int 2 ∷ int 3 ∷ int 4 ∷ [])) 1 (int 3 ∷ []) ≡ Raise argument_fault
unfolding bound_to
one_too_many = refl

-- f(1, 2, a=3): a has an argument already
argument_doubled : bound_to program (record { args = int 1 ∷ int 2 ∷ []; names = 21 ∷ []; values = int 3 ∷ [] }) 1
    (int 3 ∷ []) ≡ Raise argument_fault
unfolding bound_to
argument_doubled = refl

-- f(1, b=2, b=3)
keyword_doubled : bound_to program (record { args = int 1 ∷ []; names = 22 ∷ 22 ∷ []; values = int 2 ∷ int 3 ∷ [] }) 1
    (int 3 ∷ []) ≡ Raise argument_fault
unfolding bound_to
keyword_doubled = refl

-- f(1, 2, d=3): there is no d
keyword_unknown : bound_to program (record { args = int 1 ∷ int 2 ∷ []; names = 23 ∷ []; values = int 3 ∷ [] }) 1
    (int 3 ∷ []) ≡ Raise argument_fault
unfolding bound_to
keyword_unknown = refl

-- ---- names

string_of_b : text_number program (codes "b") ≡ Some 22
unfolding texts_of
string_of_b = refl

cell_of_x : cell_number program (codes "x") ≡ Some 24
unfolding texts_of cells_of
cell_of_x = refl

len_is_a_builtin : builtin_named program (codes "len") ≡ Some (BuiltinConstant (builtin_number (codes "len")))
unfolding builtin_named
len_is_a_builtin = refl

true_is_a_builtin : builtin_named program (codes "True") ≡ Some (Truth true)
unfolding builtin_named
true_is_a_builtin = refl

key_error_is_a_class : builtin_named program (codes "KeyError") ≡ Some
    (RootConstant (class_place (class_number (codes "KeyError"))))
unfolding builtin_named
key_error_is_a_class = refl

error_is_none : builtin_named program (codes "error") ≡ None
unfolding builtin_named
error_is_none = refl

module_is_none : builtin_named program (codes "thread") ≡ None
unfolding builtin_named
module_is_none = refl

-- ---- states

-- a frame of code 1 with a stack, at place 5
abbrev inner : Frame
inner = record (entered 1 []) { pc = 5; stack = int 7 ∷ int 8 ∷ [] }

-- a frame whose block begins above its first value
abbrev outer : Frame
outer = record (entered 0 []) { pc = 9; stack = int 1 ∷ int 2 ∷ []; blocks = record { handler = 3; height = 1 } ∷ [] }

abbrev state : State
state = record { number = 0; roots = None; thread = None; frames = inner ∷ outer ∷ []; dying = None }

-- two operands go, and a value comes
pushed_for_two : settled program state 2 inner (outer ∷ []) (Goes (int 9 ∷ [])) ≡
    (Done, record state { frames = record inner { pc = 6; stack = int 9 ∷ [] } ∷ outer ∷ [] })
unfolding settled
pushed_for_two = refl

-- a frame without a block is dropped; the one that has a block goes on at its handler, with the exception above its
-- height
caught_below : settled program state 0 inner (outer ∷ []) (Throws (int 4)) ≡
    (Done, record state { frames = record outer { pc = 3; stack = int 1 ∷ int 4 ∷ []; blocks = [] } ∷ [] })
unfolding settled
caught_below = refl

-- where no frame has a block the thread dies, and its frames stay
dies : settled program (record state { frames = inner ∷ [] }) 0 inner [] (Throws (int 4)) ≡
    (Done, record state { frames = inner ∷ []; dying = Some (record { exc = int 4; line = 0 }) })
unfolding settled
dies = refl

-- what is left is pushed in the frame below
left_below : settled program state 1 inner (outer ∷ []) (Leaves (int 4)) ≡
    (Done, record state { frames = record outer { stack = int 1 ∷ int 2 ∷ int 4 ∷ [] } ∷ [] })
unfolding settled
left_below = refl

-- an exception behind the frame that is left passes the blocks of that frame
failed_behind : settled program (record state { frames = outer ∷ outer ∷ [] }) 1 outer (outer ∷ []) (Fails (int 4)) ≡
    (Done, record state { frames = record outer { pc = 3; stack = int 1 ∷ int 4 ∷ []; blocks = [] } ∷ [] })
unfolding settled
failed_behind = refl

last_ends : settled program (record state { frames = inner ∷ [] }) 1 inner [] (Leaves (int 4)) ≡
    (Ended, record state { frames = [] })
unfolding settled
last_ends = refl

-- nothing may stand for the object of CALL_METHOD alone
object_may_be_missing : has_unset (wanted (CallMethod 1 0) (int 1 ∷ Unset ∷ int 2 ∷ [])) ≡ false
object_may_be_missing = refl

argument_may_not : has_unset (wanted (CallMethod 1 0) (int 1 ∷ int 2 ∷ Unset ∷ [])) ≡ true
argument_may_not = refl

-- ---- what is written

space_before : spaced true (codes "a") ≡ codes " a"
space_before = refl

line_goes_on : stays_mid (codes "a ") ≡ true
line_goes_on = refl

line_ends : stays_mid (97 ∷ 10 ∷ []) ≡ false
line_ends = refl

nothing_goes_on : stays_mid [] ≡ true
nothing_goes_on = refl

last_line : error_line 0 1 (codes "OverflowError") (Is (codes "integer overflow")) ≡ codes
    "thread 0, line 1: OverflowError: integer overflow" ++ 10 ∷ []
unfolding digits
last_line = refl

last_line_alone : error_line 3 12 (codes "MemoryError") (Is []) ≡ codes "thread 3, line 12: MemoryError" ++ 10 ∷ []
unfolding digits
last_line_alone = refl

last_line_of_none : error_line 3 12 (codes "E") (Raise depth_fault) ≡ codes "thread 3, line 12: E" ++ 10 ∷ []
unfolding digits
last_line_of_none = refl
