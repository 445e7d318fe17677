-- What code and proofs say to each other: nothing public rests on it. Instructions that ask nothing of the heap and
-- raise nothing. States `docs/LANGUAGE.md`, "Instructions".
use Rattle.std.specs.Prelude.{◌≡◌, ℤ, Bool, true, false, not, drop, Option, Some, None}
use Rattle.std.specs.Ordering.{int_cmp, int_eq}
use Rattle.py_data.specs.declared.value.Value.{Value}
use Rattle.py_data.specs.Row.{Ret}
use Rattle.py_data.specs.declared.value.Value.TheVariants.{None as NoneValue, Bool as Truth, Int, Builtin}
use Rattle.py_code.specs.declared.instr.Constant.{Constant}
use Rattle.py_code.specs.declared.instr.Constant.TheVariants.{None as NoneConstant, Truth as TruthConstant, Int as IntConstant, Builtin as BuiltinConstant, Root as RootConstant}
use Rattle.py_code.specs.declared.instr.Instr.{Instr}
use Rattle.obj_ops.specs.declared.operator.Comparison.{Comparison}
use Rattle.obj_ops.specs.declared.operator.Comparison.TheVariants.{Less, Greater, Equal, GreaterEqual, LessEqual, NotEqual, In, NotIn, Is as Identical, IsNot}
use Rattle.obj_ops.specs.Compare.{is_below, is_above}
use Rattle.py_code.specs.declared.program.Program.{Program}
use Rattle.lock_run.specs.declared.client.Outcome.TheVariants.{Done}
use Rattle.py_frames.specs.State.{State}
use Rattle.py_frames.specs.Steps.{step_at}
use Rattle.py_states.specs.Innermost.{innermost}

-- the value of a constant; a root's stands in the heap
abbrev pub constant_value : Constant → Option Value
constant_value NoneConstant = Some NoneValue
constant_value (TruthConstant b) = Some (Truth b)
constant_value (IntConstant n) = Some (Int n)
constant_value (BuiltinConstant b) = Some (Builtin b)
constant_value (RootConstant n) = None

-- what a comparison says of two numbers; nothing of `in` and `not in`
abbrev pub compares : Comparison → ℤ → ℤ → Option Bool
compares Less i j = Some (is_below (int_cmp i j))
compares Greater i j = Some (is_above (int_cmp i j))
compares Equal i j = Some (int_eq i j)
compares GreaterEqual i j = Some (not (is_below (int_cmp i j)))
compares LessEqual i j = Some (not (is_above (int_cmp i j)))
compares NotEqual i j = Some (not (int_eq i j))
compares In i j = None
compares NotIn i j = None
compares Identical i j = Some (int_eq i j)
compares IsNot i j = Some (not (int_eq i j))

-- The instruction is at hand and was done, whatever the program, and the thread lives on; or the state is as it was.
abbrev pub IsAtOnce : State → Instr → Bool → State → Type 0
IsAtOnce s i true s1 = (p : Program) →
    step_at p s (innermost s.frames) (drop 1 s.frames) (Some i) ≡ Ret (Done, s1)
IsAtOnce s i false s1 = s1 ≡ s
