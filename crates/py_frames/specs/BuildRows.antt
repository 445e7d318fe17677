-- The rows that make tuples, lists and dictionaries, take them apart, and go through them. States `docs/LANGUAGE.md`,
-- "Instructions", "Iteration" and "Sizes".
use Rattle.std.specs.Prelude.{ℕ, ◌==◌, Bool, true, false, cond, leb, List, [], ◌∷◌, length, reverse, Option, Some, None}
use Rattle.py_base.specs.declared.kind.Kind.{Kind}
use Rattle.py_base.specs.declared.kind.Kind.TheVariants.{Dict}
use Rattle.py_data.specs.declared.value.Value.{Value}
use Rattle.py_data.specs.declared.value.Value.TheVariants.{Ref}
use Rattle.py_data.specs.declared.record.Fault.{Fault}
use Rattle.py_data.specs.declared.record.Got.{Got}
use Rattle.py_data.specs.declared.record.Got.TheVariants.{Is, Raise}
use Rattle.py_data.specs.declared.record.TheConstants.{LENGTH_LIMIT}
use Rattle.py_data.specs.Fault.{hash_fault, memory_fault, operand_fault}
use Rattle.py_data.specs.Heap.{new_rec}
use Rattle.py_data.specs.Looking.{got_row}
use Rattle.py_data.specs.Row.{Row, Ret, bind}
use Rattle.obj_class.specs.Exceptions.{made_row}
use Rattle.obj_dict.specs.Dict.{key_row, set_row}
use Rattle.obj_seq.specs.Gather.{gather_row}
use Rattle.obj_seq.specs.Iter.{iter_row, next_row}
use Rattle.py_frames.specs.declared.next.Next.{Next}
use Rattle.py_frames.specs.declared.next.Next.TheVariants.{Goes, Jumps}
use Rattle.py_frames.specs.Raising.{place_in, raise_row, give, count_fault}

-- ---- BUILD_TUPLE, BUILD_LIST

unfoldable pub built_row : {S : Type 0} → Kind → List Value → Row S Next
built_row k xs = bind (made_row (new_rec k xs [])) (λ x. Ret (Goes (x ∷ [])))

unfoldable pub build_row : {S : Type 0} → ℕ → Kind → List Value → Row S Next
build_row roots k xs = cond (leb (length xs) LENGTH_LIMIT) (built_row k xs) (raise_row roots memory_fault)

-- ---- BUILD_DICT

-- the pairs are set from left to right
unfoldable pub pairs_set : {S : Type 0} → ℕ → List Value → Row S (Got (Unit {0}))
pairs_set d (key ∷ x ∷ rest) = bind (set_row d key x) (got_row (λ u. pairs_set d rest))
pairs_set d _ = Ret (Is tt)

unfoldable pub dict_or_raise : {S : Type 0} → ℕ → Value → Got (Unit {0}) → Row S Next
dict_or_raise roots d (Is u) = Ret (Goes (d ∷ []))
dict_or_raise roots d (Raise e) = raise_row roots e

unfoldable pub filled_dict : {S : Type 0} → ℕ → List Value → Value → Row S Next
filled_dict roots xs d = bind (pairs_set (place_in d) xs) (λ g. dict_or_raise roots d g)

unfoldable pub new_dict : {S : Type 0} → ℕ → List Value → Row S Next
new_dict roots xs = bind (made_row (new_rec Dict [] [])) (λ d. filled_dict roots xs d)

-- the limit of length is the last test, so where there are too many pairs the keys come first
unfoldable pub all_keys_row : {S : Type 0} → List Value → Row S Bool
all_keys_row (key ∷ x ∷ rest) = bind (key_row key) (λ b. cond b (all_keys_row rest) (Ret false))
all_keys_row _ = Ret true

abbrev pub size_or_key : Bool → Fault
size_or_key b = cond b memory_fault hash_fault

unfoldable pub too_many_pairs : {S : Type 0} → ℕ → List Value → Row S Next
too_many_pairs roots xs = bind (all_keys_row xs) (λ b. raise_row roots (size_or_key b))

unfoldable pub build_dict_row : {S : Type 0} → ℕ → List Value → Row S Next
build_dict_row roots xs = cond (leb (length xs) LENGTH_LIMIT) (new_dict roots xs) (too_many_pairs roots xs)

-- ---- UNPACK

-- the first value is to be on top
unfoldable pub spread : {S : Type 0} → ℕ → ℕ → Got (List Value) → Row S Next
spread roots n (Is xs) = cond (length xs == n) (Ret (Goes (reverse xs))) (raise_row roots count_fault)
spread roots n (Raise e) = raise_row roots e

unfoldable pub spread_row : {S : Type 0} → ℕ → ℕ → Value → Row S Next
spread_row roots n x = bind (gather_row x) (λ g. spread roots n g)

unfoldable pub unpack_row : {S : Type 0} → ℕ → ℕ → Value → Row S Next
unpack_row roots n x = cond (leb n LENGTH_LIMIT) (spread_row roots n x) (raise_row roots memory_fault)

-- ---- ITER and NEXT

unfoldable pub iter_instr : {S : Type 0} → ℕ → Value → Row S Next
iter_instr roots x = bind (iter_row x) (λ g. give roots g)

unfoldable pub next_or_end : {S : Type 0} → ℕ → ℕ → Value → Got (Option Value) → Row S Next
next_or_end roots t it (Is (Some y)) = Ret (Goes (it ∷ y ∷ []))
next_or_end roots t it (Is None) = Ret (Jumps t [])
next_or_end roots t it (Raise e) = raise_row roots e

-- what is no iterator raises TypeError
unfoldable pub next_instr : {S : Type 0} → ℕ → ℕ → Value → Row S Next
next_instr roots t (Ref a) = bind (next_row a.0) (λ g. next_or_end roots t (Ref a) g)
next_instr roots t _ = raise_row roots operand_fault
