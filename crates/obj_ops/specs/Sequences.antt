-- Sequences and strings that are joined and repeated. States `docs/LANGUAGE.md`, "Operators on sequences".
use Rattle.std.specs.Prelude.{ℕ, ℤ, pos, negsuc, ◌+◌, ◌*◌, cond, leb, List, [], ◌++◌, length}
use Rattle.std.specs.List.{repeat}
use Rattle.py_base.specs.declared.kind.Kind.{Kind}
use Rattle.py_data.specs.declared.value.Value.{Value}
use Rattle.py_data.specs.declared.value.Value.TheVariants.{Ref}
use Rattle.py_data.specs.declared.record.Got.{Got}
use Rattle.py_data.specs.declared.record.Got.TheVariants.{Is, Raise}
use Rattle.py_data.specs.declared.record.TheConstants.{LENGTH_LIMIT}
use Rattle.py_data.specs.Fault.{memory_fault}
use Rattle.py_data.specs.Heap.{new_rec}
use Rattle.py_data.specs.Row.{Row, Ret, Do, Read, Make, bind}
use Rattle.py_data.specs.Looking.{bytes_row}
use Rattle.obj_str.specs.Strings.{new_text}

-- the values of a record
unfoldable pub values_row : {S : Type 0} → ℕ → Row S (List Value)
values_row a = Do (Read a) (λ r. Ret r.values)

unfoldable pub made_row : {S : Type 0} → Kind → List Value → Row S (Got Value)
made_row k vs = Do (Make (new_rec k vs [])) (λ a. Ret (Is (Ref (record { 0 = a }))))

-- a new record of these n values; MemoryError, before anything is made, where they are too many
unfoldable pub new_items : {S : Type 0} → Kind → ℕ → List Value → Row S (Got Value)
new_items k n vs = cond (leb n LENGTH_LIMIT) (made_row k vs) (Ret (Raise memory_fault))

-- ---- joined

unfoldable pub joined_with : {S : Type 0} → Kind → List Value → ℕ → Row S (Got Value)
joined_with k xs b = bind (values_row b) (λ ys. new_items k (length xs + length ys) (xs ++ ys))

unfoldable pub joined_items : {S : Type 0} → Kind → ℕ → ℕ → Row S (Got Value)
joined_items k a b = bind (values_row a) (λ xs. joined_with k xs b)

unfoldable pub joined_text_with : {S : Type 0} → List ℕ → ℕ → Row S (Got Value)
joined_text_with xs b = bind (bytes_row b) (λ ys. new_text (xs ++ ys))

unfoldable pub joined_texts : {S : Type 0} → ℕ → ℕ → Row S (Got Value)
joined_texts a b = bind (bytes_row a) (λ xs. joined_text_with xs b)

-- ---- repeated

-- how often: not at all, where the number is negative
abbrev pub times : ℤ → ℕ
times (pos n) = n
times (negsuc n) = 0

unfoldable pub repeated_items : {S : Type 0} → Kind → ℕ → ℕ → Row S (Got Value)
repeated_items k a n = bind (values_row a) (λ xs. new_items k (n * length xs) (repeat n xs))

-- a new string of bytes so often; MemoryError, before anything is made, where they are too many
unfoldable pub new_repeated : {S : Type 0} → ℕ → List ℕ → Row S (Got Value)
new_repeated n bs = cond (leb (n * length bs) LENGTH_LIMIT) (new_text (repeat n bs)) (Ret (Raise memory_fault))

unfoldable pub repeated_text : {S : Type 0} → ℕ → ℕ → Row S (Got Value)
repeated_text a n = bind (bytes_row a) (new_repeated n)
