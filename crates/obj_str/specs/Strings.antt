-- The row that makes a string. States `docs/LANGUAGE.md`, "Values that are strings" and "Sizes".
use Rattle.std.specs.Prelude.{ℕ, List, [], length, leb, cond}
use Rattle.py_data.specs.declared.value.Value.{Value}
use Rattle.py_data.specs.declared.value.Value.TheVariants.{Ref}
use Rattle.py_base.specs.declared.kind.Kind.TheVariants.{Str}
use Rattle.py_data.specs.declared.record.Got.{Got}
use Rattle.py_data.specs.declared.record.Got.TheVariants.{Is, Raise}
use Rattle.py_data.specs.declared.record.TheConstants.{LENGTH_LIMIT}
use Rattle.py_data.specs.Fault.{memory_fault}
use Rattle.py_data.specs.Heap.{new_rec}
use Rattle.py_data.specs.Row.{Row, Ret, Do, Make}

-- a new string of these bytes, which are no more than a string may have
abbrev pub made_text : {S : Type 0} → List ℕ → Row S (Got Value)
made_text bs = Do (Make (new_rec Str [] bs)) (λ a. Ret (Is (Ref (record { 0 = a }))))

-- a new string of these bytes; MemoryError, before anything is made, where they are more than a string may have
unfoldable pub new_text : {S : Type 0} → List ℕ → Row S (Got Value)
new_text bs = cond (leb (length bs) LENGTH_LIMIT) (made_text bs) (Ret (Raise memory_fault))
