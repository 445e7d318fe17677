-- The rows of the operations on dictionaries. States `docs/LANGUAGE.md`, "Dictionaries".
use Rattle.std.specs.Prelude.{ℕ, ◌+◌, ◌*◌, Bool, true, false, cond, ltb, length, Option, Some, None}
use Rattle.py_data.specs.declared.value.Value.{Value}
use Rattle.py_data.specs.declared.value.Value.TheVariants.{Unset, Ref}
use Rattle.py_data.specs.declared.record.Got.{Got}
use Rattle.py_data.specs.declared.record.Got.TheVariants.{Is, Raise}
use Rattle.py_data.specs.declared.record.TheConstants.{LENGTH_LIMIT}
use Rattle.py_data.specs.Heap.{Rec, value_at}
use Rattle.py_data.specs.Shape.{is_key_kind}
use Rattle.py_data.specs.declared.change.Change.TheVariants as change
use Rattle.py_data.specs.Row.{Row, Ret, Do, Read, Find, Edit, bind}
use Rattle.py_data.specs.Fault.{hash_fault, key_fault, memory_fault}

-- ---- keys

-- whether a value can be a key: of a reference the record's kind is looked at
unfoldable pub key_row : {S : Type 0} → Value → Row S Bool
key_row (Ref a) = Do (Read a.0) (λ r. Ret (is_key_kind r.kind))
key_row Unset = Ret false
key_row _ = Ret true

-- a row for a value that can be a key
unfoldable pub if_key : {S A : Type 0} → Row S (Got A) → Bool → Row S (Got A)
if_key row true = row
if_key row false = Ret (Raise hash_fault)

-- ---- get

-- the value of the pair of a number, if there is one
unfoldable pub value_of_pair : {S : Type 0} → ℕ → Option ℕ → Row S (Got (Option Value))
value_of_pair d None = Ret (Is None)
value_of_pair d (Some i) = Do (Read d) (λ r. Ret (Is (Some (value_at r.values (2 * i + 1)))))

unfoldable pub get_row : {S : Type 0} → ℕ → Value → Row S (Got (Option Value))
get_row d key = bind (key_row key) (if_key (Do (Find d key) (value_of_pair d)))

-- ---- set

-- a new pair at the end, where there is room for one
abbrev pub push_at : {S : Type 0} → ℕ → Value → Value → Rec → Row S (Got (Unit {0}))
push_at d key x r = cond (ltb (length r.values + 1) LENGTH_LIMIT) (Do (Edit d (change.Pair key x)) (λ _. Ret (Is tt)))
    (Ret (Raise memory_fault))

-- another value in the place of a key that is there, whose pair keeps its place and its first key
unfoldable pub set_pair : {S : Type 0} → ℕ → Value → Value → Option ℕ → Row S (Got (Unit {0}))
set_pair d key x None = Do (Read d) (push_at d key x)
set_pair d key x (Some i) = Do (Edit d (change.Set (2 * i + 1) x)) (λ _. Ret (Is tt))

unfoldable pub set_row : {S : Type 0} → ℕ → Value → Value → Row S (Got (Unit {0}))
set_row d key x = bind (key_row key) (if_key (Do (Find d key) (set_pair d key x)))

-- ---- del

-- the pair of a number goes, and its value is the answer
unfoldable pub drop_found : {S : Type 0} → ℕ → Value → Option ℕ → Row S (Got Value)
drop_found d key None = Ret (Raise (key_fault key))
drop_found d key (Some i) = Do (Read d) (λ r.
    Do (Edit d (change.Unpair i)) (λ _. Ret (Is (value_at r.values (2 * i + 1)))))

unfoldable pub del_row : {S : Type 0} → ℕ → Value → Row S (Got Value)
del_row d key = bind (key_row key) (if_key (Do (Find d key) (drop_found d key)))
