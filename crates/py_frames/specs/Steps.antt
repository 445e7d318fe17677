-- The row of every instruction, and of a step of a thread. States `docs/LANGUAGE.md`, "Instructions" and "States of
-- threads".
use Rattle.std.specs.Prelude.{ℕ, zero, suc, ◌+◌, ◌-◌, Bool, true, false, cond, List, [], ◌∷◌, ◌++◌, length, take, drop, get_or, Option, Some, None}
use Rattle.std.specs.List.{list_any}
use Rattle.py_base.specs.declared.kind.Kind.TheVariants.{Tuple, List as ListKind}
use Rattle.py_data.specs.declared.value.Value.{Value}
use Rattle.py_data.specs.declared.value.Value.TheVariants.{Unset}
use Rattle.py_data.specs.Fault.{operand_fault}
use Rattle.py_data.specs.Heap.{value_at}
use Rattle.py_data.specs.Row.{Row, Ret, bind}
use Rattle.py_code.specs.declared.instr.Instr.{Instr}
use Rattle.py_code.specs.declared.instr.Instr.TheVariants.{Setup, Const, Pop, Dup, Rot2, Dup2, Rot3, LoadLocal, StoreLocal, DelLocal, LoadGlobal, StoreGlobal, DelGlobal, LoadName, StoreName, DelName, LoadAttr, StoreAttr, DelAttr, LoadMethod, LoadItem, StoreItem, DelItem, Slice, Unary, Not, Binary, InPlace, Compare, Jump, JumpFalse, KeepFalse, KeepTrue, BuildTuple, BuildList, BuildDict, Unpack, Iter, Next as NextInstr, Call, CallMethod, Return, MakeFunction, ClassBody, Try, PopTry, ExcMatch, MakeRaised, Raise as RaiseInstr, PrintItem, PrintNewline}
use Rattle.py_code.specs.declared.program.Program.{Program}
use Rattle.lock_run.specs.declared.client.Outcome.{Outcome}
use Rattle.lock_run.specs.declared.client.Outcome.TheVariants.{Ended}
use Rattle.py_frames.specs.declared.next.Next.{Next}
use Rattle.py_frames.specs.declared.next.Next.TheVariants.{Goes, Jumps, Stores, Opens, Closes}
use Rattle.py_frames.specs.declared.state.Frame.{Frame}
use Rattle.py_frames.specs.declared.state.Dying.{Dying}
use Rattle.py_frames.specs.AttrInstrs.{load_attr_row, store_attr_row, del_attr_instr, load_method_row}
use Rattle.py_frames.specs.Binding.{Given}
use Rattle.py_frames.specs.BuildRows.{build_row, build_dict_row, unpack_row, iter_instr, next_instr}
use Rattle.py_frames.specs.CallRows.{value_call}
use Rattle.py_frames.specs.ClassCalls.{Site}
use Rattle.py_frames.specs.FunctionRows.{make_function_row, class_body_row, return_row}
use Rattle.py_frames.specs.GlobalRows.{builtin_named, cell_number, load_global_row, store_global_row, del_global_row, load_name_row, store_name_row, del_name_row}
use Rattle.py_frames.specs.ItemRows.{load_item_row, store_item_row, del_item_instr, slice_instr}
use Rattle.py_frames.specs.LocalRows.{const_row, load_local_row, del_local_row}
use Rattle.py_frames.specs.OperatorRows.{unary_instr, not_row, binary_instr, in_place_instr, compare_instr, jump_false_row, keep_false_row, keep_true_row}
use Rattle.py_frames.specs.PrintRows.{print_item_row, print_newline_row, dying_row}
use Rattle.py_frames.specs.RaiseRows.{exc_match_row, raise_value, made_alone, made_valued}
use Rattle.py_frames.specs.Raising.{place_of, raise_row}
use Rattle.py_frames.specs.SetupRows.{setup_row}
use Rattle.py_frames.specs.State.{State, code_at, root_name, slot_name, instr_at, pops, operands, settled, with_frames}

-- ---- what a call gives, out of the operands behind what is called: so many arguments, and the values of this keyword
-- list

abbrev pub given_in : Site → Frame → ℕ → ℕ → List Value → Given
given_in s f m l xs = record {
  args = take m xs;
  names = get_or (code_at s.program f.code).keys l [];
  values =
      drop m xs;
}

-- ---- MAKE_RAISED 0 and 1

abbrev pub made_raised_row : {S : Type 0} → Site → List Value → ℕ → Row S Next
made_raised_row s xs zero = made_alone s (value_at xs 0)
made_raised_row s xs (suc n) = made_valued s (value_at xs 0) (value_at xs 1)

-- ---- one instruction, in this frame and with these operands, the lowest first

unfoldable pub instr_row : Site → Frame → List Value → Instr → Row State Next
instr_row s f xs Setup = setup_row s.program
instr_row s f xs (Const c) = const_row s.roots c
instr_row s f xs Pop = Ret (Goes [])
instr_row s f xs Dup = Ret (Goes (value_at xs 0 ∷ value_at xs 0 ∷ []))
instr_row s f xs Rot2 = Ret (Goes (value_at xs 1 ∷ value_at xs 0 ∷ []))
instr_row s f xs Dup2 = Ret (Goes (value_at xs 0 ∷ value_at xs 1 ∷ value_at xs 0 ∷ value_at xs 1 ∷ []))
instr_row s f xs Rot3 = Ret (Goes (value_at xs 2 ∷ value_at xs 0 ∷ value_at xs 1 ∷ []))
instr_row s f xs (LoadLocal i) = load_local_row s.roots (slot_name s.program f i) (value_at f.slots i)
instr_row s f xs (StoreLocal i) = Ret (Stores i (value_at xs 0))
instr_row s f xs (DelLocal i) = del_local_row s.roots (slot_name s.program f i) i (value_at f.slots i)
instr_row s f xs (LoadGlobal g) = load_global_row s.roots g (root_name s.program g)
    (builtin_named s.program (root_name s.program g))
instr_row s f xs (StoreGlobal g) = store_global_row s.roots g (value_at xs 0)
instr_row s f xs (DelGlobal g) = del_global_row s.roots g (root_name s.program g)
instr_row s f xs (LoadName n) =
    load_name_row s.roots (place_of f.names) n (root_name s.program n)
    (builtin_named s.program (root_name s.program n)) (cell_number s.program (root_name s.program n))
instr_row s f xs (StoreName n) = store_name_row s.roots (place_of f.names) n (value_at xs 0)
instr_row s f xs (DelName n) = del_name_row s.roots (place_of f.names) n (root_name s.program n)
instr_row s f xs (LoadAttr n) = load_attr_row s.roots n (value_at xs 0)
instr_row s f xs (StoreAttr n) = store_attr_row s.roots n (value_at xs 0) (value_at xs 1)
instr_row s f xs (DelAttr n) = del_attr_instr s.roots n (value_at xs 0)
instr_row s f xs (LoadMethod n) = load_method_row s.roots n (root_name s.program n) (value_at xs 0)
instr_row s f xs LoadItem = load_item_row s.roots (value_at xs 0) (value_at xs 1)
instr_row s f xs StoreItem = store_item_row s.roots (value_at xs 0) (value_at xs 1) (value_at xs 2)
instr_row s f xs DelItem = del_item_instr s.roots (value_at xs 0) (value_at xs 1)
instr_row s f xs Slice = slice_instr s.roots (value_at xs 0) (value_at xs 1) (value_at xs 2)
instr_row s f xs (Unary o) = unary_instr s.roots o (value_at xs 0)
instr_row s f xs Not = not_row (value_at xs 0)
instr_row s f xs (Binary o) = binary_instr s.roots o (value_at xs 0) (value_at xs 1)
instr_row s f xs (InPlace o) = in_place_instr s.roots o (value_at xs 0) (value_at xs 1)
instr_row s f xs (Compare o) = compare_instr s.roots o (value_at xs 0) (value_at xs 1)
instr_row s f xs (Jump t) = Ret (Jumps t [])
instr_row s f xs (JumpFalse t) = jump_false_row t (value_at xs 0)
instr_row s f xs (KeepFalse t) = keep_false_row t (value_at xs 0)
instr_row s f xs (KeepTrue t) = keep_true_row t (value_at xs 0)
instr_row s f xs (BuildTuple n) = build_row s.roots Tuple xs
instr_row s f xs (BuildList n) = build_row s.roots ListKind xs
instr_row s f xs (BuildDict n) = build_dict_row s.roots xs
instr_row s f xs (Unpack n) = unpack_row s.roots n (value_at xs 0)
instr_row s f xs Iter = iter_instr s.roots (value_at xs 0)
instr_row s f xs (NextInstr t) = next_instr s.roots t (value_at xs 0)
instr_row s f xs (Call m l) = value_call s Unset (given_in s f m l (drop 1 xs)) (value_at xs 0)
instr_row s f xs (CallMethod m l) = value_call s (value_at xs 1) (given_in s f m l (drop 2 xs)) (value_at xs 0)
instr_row s f xs Return = return_row s.roots s.thread (code_at s.program f.code).name (s.depth - 1) f (value_at xs 0)
instr_row s f xs (MakeFunction c n) = make_function_row s.roots (code_at s.program c).name c xs
instr_row s f xs (ClassBody c) = class_body_row s c (value_at xs 0)
instr_row s f xs (Try t) = Ret (Opens t)
instr_row s f xs PopTry = Ret Closes
instr_row s f xs ExcMatch = exc_match_row s.roots (value_at xs 0) (value_at xs 1)
instr_row s f xs (MakeRaised n) = made_raised_row s xs n
instr_row s f xs RaiseInstr = raise_value s.roots (value_at xs 0)
instr_row s f xs PrintItem = print_item_row s.roots (value_at xs 0)
instr_row s f xs PrintNewline = print_newline_row

-- ---- operands that hold nothing

-- the operands of an instruction that may not be nothing; a few instructions only move theirs
abbrev pub wanted : Instr → List Value → List Value
wanted Pop xs = []
wanted Dup xs = []
wanted Rot2 xs = []
wanted Dup2 xs = []
wanted Rot3 xs = []
wanted (CallMethod m l) xs = take 1 xs ++ drop 2 xs
wanted _ xs = xs

abbrev pub is_unset : Value → Bool
is_unset Unset = true
is_unset _ = false

abbrev pub has_unset : List Value → Bool
has_unset xs = list_any is_unset xs

unfoldable pub guarded_row : Site → Frame → List Value → Instr → Row State Next
guarded_row s f xs i = cond (has_unset (wanted i xs)) (raise_row s.roots operand_fault) (instr_row s f xs i)

-- ---- a step

-- where the innermost of so many frames is
abbrev pub site_of : Program → State → List Frame → Site
site_of p s fs = record { program = p; roots = place_of s.roots; thread = s.thread; depth = length fs + 1 }

unfoldable pub step_at : Program → State → Frame → List Frame → Option Instr → Row State (Outcome × State)
step_at p s f fs (Some i) = bind (guarded_row (site_of p s fs) f (operands (pops p f i) f) i)
    (λ next. Ret (settled p s (pops p f i) f fs next))
step_at p s f fs None = Ret (Ended, with_frames s [])

-- a thread that dies writes its last line, and has ended
unfoldable pub step_by : Program → State → Option Dying → List Frame → Row State (Outcome × State)
step_by p s d [] = Ret (Ended, s)
step_by p s (Some d) (f ∷ fs) = bind (dying_row (place_of s.roots) s.number s.thread d)
    (λ _. Ret (Ended, with_frames s []))
step_by p s None (f ∷ fs) = step_at p s f fs (instr_at p f)

unfoldable pub step_row : Program → State → Row State (Outcome × State)
step_row p s = step_by p s s.dying s.frames
