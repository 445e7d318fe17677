-- The rows of constants, of the stack, and of the slots of a frame. States `docs/LANGUAGE.md`, "Instructions".
use Rattle.std.specs.Prelude.{ℕ, List, [], ◌∷◌, ◌++◌, codes}
use Rattle.py_base.specs.Numbers.{class_number}
use Rattle.py_data.specs.declared.value.Value.{Value}
use Rattle.py_data.specs.declared.value.Value.TheVariants.{Unset, None as NoneValue, Bool as BoolValue, Int, Builtin}
use Rattle.py_data.specs.declared.record.Fault.{Fault}
use Rattle.py_data.specs.Fault.{text_fault}
use Rattle.py_data.specs.Looking.{look_row}
use Rattle.py_data.specs.Row.{Row, Ret, bind}
use Rattle.py_code.specs.declared.instr.Constant.{Constant}
use Rattle.py_code.specs.declared.instr.Constant.TheVariants.{None as NoneConstant, Truth, Int as IntConstant, Builtin as BuiltinConstant, Root as RootConstant}
use Rattle.py_frames.specs.declared.next.Next.{Next}
use Rattle.py_frames.specs.declared.next.Next.TheVariants.{Goes, Stores}
use Rattle.py_frames.specs.Raising.{raise_row}

-- CONST
unfoldable pub const_row : {S : Type 0} → ℕ → Constant → Row S Next
const_row roots NoneConstant = Ret (Goes (NoneValue ∷ []))
const_row roots (Truth b) = Ret (Goes (BoolValue b ∷ []))
const_row roots (IntConstant n) = Ret (Goes (Int n ∷ []))
const_row roots (BuiltinConstant b) = Ret (Goes (Builtin b ∷ []))
const_row roots (RootConstant n) = bind (look_row roots n) (λ x. Ret (Goes (x ∷ [])))

-- the slot of this name has no value
abbrev pub unbound_fault : List ℕ → Fault
unbound_fault name = text_fault (class_number (codes "UnboundLocalError"))
    (codes "local variable '" ++ name ++ codes "' referenced before assignment")

-- LOAD_LOCAL, by what the slot has
unfoldable pub load_local_row : {S : Type 0} → ℕ → List ℕ → Value → Row S Next
load_local_row roots name Unset = raise_row roots (unbound_fault name)
load_local_row roots name x = Ret (Goes (x ∷ []))

-- DEL_LOCAL
unfoldable pub del_local_row : {S : Type 0} → ℕ → List ℕ → ℕ → Value → Row S Next
del_local_row roots name i Unset = raise_row roots (unbound_fault name)
del_local_row roots name i x = Ret (Stores i Unset)
