-- The rows of instructions that raise, and what an instruction makes of the answer of an operation on objects.
-- States `docs/LANGUAGE.md`, "Exceptions".
use Rattle.std.specs.Prelude.{ℕ, pos, [], ◌∷◌, List, Option, Some, None, codes}
use Rattle.py_base.specs.Numbers.{class_number}
use Rattle.py_data.specs.declared.value.Addr.{Addr}
use Rattle.py_data.specs.declared.value.Value.{Value}
use Rattle.py_data.specs.declared.value.Value.TheVariants.{Int, Ref}
use Rattle.py_data.specs.declared.record.Fault.{Fault}
use Rattle.py_data.specs.declared.record.Got.{Got}
use Rattle.py_data.specs.declared.record.Got.TheVariants.{Is, Raise}
use Rattle.py_data.specs.Fault.{text_fault}
use Rattle.py_data.specs.Row.{Row, Ret, Do, Read, bind}
use Rattle.obj_class.specs.Exceptions.{fault_row}
use Rattle.py_frames.specs.declared.next.Next.{Next}
use Rattle.py_frames.specs.declared.next.Next.TheVariants.{Goes, Throws, Fails}

-- ---- what a value reads as, where it isn't what is looked for

-- the address in a value
abbrev pub place_in : Value → ℕ
place_in (Ref a) = a.0
place_in _ = 0

abbrev pub place_of : Option Addr → ℕ
place_of (Some a) = a.0
place_of None = 0

-- the number in a value
abbrev pub count_in : Value → ℕ
count_in (Int (pos n)) = n
count_in _ = 0

-- all values of a record
unfoldable pub values_row : {S : Type 0} → ℕ → Row S (List Value)
values_row a = Do (Read a) (λ r. Ret r.values)

-- ---- exceptions

-- what is called is nothing that can be called
abbrev pub call_fault : Fault
call_fault = text_fault (class_number (codes "TypeError")) (codes "not callable")

-- it can't be raised
abbrev pub raised_fault : Fault
raised_fault = text_fault (class_number (codes "TypeError")) (codes "cannot be raised")

-- it can't be the base of a class
abbrev pub base_fault : Fault
base_fault = text_fault (class_number (codes "TypeError")) (codes "bad base")

-- so many values were not there to be unpacked
abbrev pub count_fault : Fault
count_fault = text_fault (class_number (codes "ValueError")) (codes "wrong number of values")

-- an instruction raises
unfoldable pub raise_row : {S : Type 0} → ℕ → Fault → Row S Next
raise_row roots e = bind (fault_row roots e) (λ x. Ret (Throws x))

-- it raises once its frame is left
unfoldable pub fail_row : {S : Type 0} → ℕ → Fault → Row S Next
fail_row roots e = bind (fault_row roots e) (λ x. Ret (Fails x))

-- ---- the answer of an operation on objects

-- a value is pushed, or the exception raised
unfoldable pub give : {S : Type 0} → ℕ → Got Value → Row S Next
give roots (Is x) = Ret (Goes (x ∷ []))
give roots (Raise e) = raise_row roots e

-- the operation was done, or the exception is raised
unfoldable pub done : {S A : Type 0} → ℕ → Got A → Row S Next
done roots (Is a) = Ret (Goes [])
done roots (Raise e) = raise_row roots e
