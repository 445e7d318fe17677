-- The rows of the operations on lists and tuples. States `docs/LANGUAGE.md`, "Lists and tuples".
use Rattle.std.specs.Prelude.{ℕ, ℤ, pos, negsuc, ◌+◌, ◌-◌, ◌==◌, List, [], ◌∷◌, length, take, drop, min, ltb, reverse, cond, Option, Some, None, suc}
use Rattle.py_data.specs.declared.value.Value.{Value}
use Rattle.py_data.specs.declared.value.Value.TheVariants.{Ref}
use Rattle.py_data.specs.declared.record.Got.{Got}
use Rattle.py_data.specs.declared.record.Got.TheVariants.{Is, Raise}
use Rattle.py_data.specs.declared.record.TheConstants.{LENGTH_LIMIT}
use Rattle.py_data.specs.Heap.{Rec, value_at, new_rec}
use Rattle.py_data.specs.declared.change.Change.TheVariants as change
use Rattle.py_data.specs.Row.{Row, Ret, Do, Read, Edit, Make, bind}
use Rattle.py_data.specs.Fault.{index_fault, empty_fault, memory_fault}

-- the place that an index names among n items: a negative one counts from the end
abbrev pub place : ℤ → ℕ → Option ℕ
place (pos k) n = cond (ltb k n) (Some k) None
place (negsuc k) n = cond (ltb k n) (Some (n - suc k)) None

-- what is done with a place, or where there is none
unfoldable pub if_place : {A : Type 0} → Option ℕ → (ℕ → A) → A → A
if_place (Some k) f z = f k
if_place None f z = z

-- where a bound falls among n items: a negative one counts from the end, and it is cut to what there is
abbrev pub bound : ℤ → ℕ → ℕ
bound (pos k) n = min k n
bound (negsuc k) n = n - suc k

-- the same of a bound that may be missing, and is then the given place
abbrev pub bound_or : Option ℤ → ℕ → ℕ → ℕ
bound_or None d n = d
bound_or (Some i) d n = bound i n

-- the values from place i up to place j
abbrev pub part : List Value → ℕ → ℕ → List Value
part xs i j = take (j - i) (drop i xs)

-- values in places, from place k on
unfoldable pub put_row : {S : Type 0} → ℕ → ℕ → List Value → Row S (Unit {0})
put_row a k [] = Ret tt
put_row a k (x ∷ xs) = Do (Edit a (change.Set k x)) (λ _. put_row a (k + 1) xs)

-- the values xs, which stand behind place k, move one place down, and the list loses its last place
unfoldable pub gap_row : {S : Type 0} → ℕ → ℕ → List Value → Row S (Unit {0})
gap_row a k [] = Do (Edit a (change.Cut k)) (λ _. Ret tt)
gap_row a k (x ∷ xs) = Do (Edit a (change.Set k x)) (λ _. gap_row a (k + 1) xs)

-- x comes into place k, what stood there into the next place, and so on; the last of the values ys from place k on goes
-- to the end
unfoldable pub shift_row : {S : Type 0} → ℕ → ℕ → Value → List Value → Row S (Unit {0})
shift_row a k x [] = Do (Edit a (change.Push x)) (λ _. Ret tt)
shift_row a k x (y ∷ ys) = Do (Edit a (change.Set k x)) (λ _. shift_row a (k + 1) y ys)

-- ---- item

abbrev pub item_at : {S : Type 0} → ℤ → Rec → Row S (Got Value)
item_at i r = if_place (place i (length r.values)) (λ k. Ret (Is (value_at r.values k))) (Ret (Raise index_fault))

abbrev pub item_row : {S : Type 0} → ℕ → ℤ → Row S (Got Value)
item_row a i = Do (Read a) (item_at i)

-- ---- set_item

abbrev pub set_item_at : {S : Type 0} → ℕ → ℤ → Value → Rec → Row S (Got (Unit {0}))
set_item_at a i x r = if_place (place i (length r.values)) (λ k. Do (Edit a (change.Set k x)) (λ _. Ret (Is tt)))
    (Ret (Raise index_fault))

abbrev pub set_item_row : {S : Type 0} → ℕ → ℤ → Value → Row S (Got (Unit {0}))
set_item_row a i x = Do (Read a) (set_item_at a i x)

-- ---- del_item

abbrev pub del_item_at : {S : Type 0} → ℕ → ℤ → Rec → Row S (Got (Unit {0}))
del_item_at a i r =
    if_place (place i (length r.values))
    (λ k. bind (gap_row a k (drop (k + 1) r.values)) (λ _. Ret (Is tt)))
    (Ret (Raise index_fault))

abbrev pub del_item_row : {S : Type 0} → ℕ → ℤ → Row S (Got (Unit {0}))
del_item_row a i = Do (Read a) (del_item_at a i)

-- ---- pop

abbrev pub pop_at : {S : Type 0} → ℕ → ℤ → Rec → Row S (Got Value)
pop_at a i r =
    cond
    (length r.values == 0)
    (Ret (Raise empty_fault))
    (if_place (place i (length r.values))
    (λ k. bind (gap_row a k (drop (k + 1) r.values)) (λ _. Ret (Is (value_at r.values k))))
    (Ret (Raise index_fault)))

abbrev pub pop_row : {S : Type 0} → ℕ → ℤ → Row S (Got Value)
pop_row a i = Do (Read a) (pop_at a i)

-- ---- insert

abbrev pub insert_at : {S : Type 0} → ℕ → ℤ → Value → Rec → Row S (Got (Unit {0}))
insert_at a i x r =
    cond
    (ltb (length r.values) LENGTH_LIMIT)
    (bind (shift_row a (bound i (length r.values)) x (drop (bound i (length r.values)) r.values)) (λ _. Ret (Is tt)))
    (Ret (Raise memory_fault))

abbrev pub insert_row : {S : Type 0} → ℕ → ℤ → Value → Row S (Got (Unit {0}))
insert_row a i x = Do (Read a) (insert_at a i x)

-- ---- reverse

abbrev pub reverse_row : {S : Type 0} → ℕ → Row S (Unit {0})
reverse_row a = Do (Read a) (λ r. put_row a 0 (reverse r.values))

-- ---- slice

abbrev pub slice_at : {S : Type 0} → Option ℤ → Option ℤ → Rec → Row S (Got Value)
slice_at from to r =
    Do
    (Make (new_rec r.kind (part r.values (bound_or from 0 (length r.values))
    (bound_or to (length r.values) (length r.values))) []))
    (λ b. Ret (Is (Ref (record { 0 = b }))))

abbrev pub slice_row : {S : Type 0} → ℕ → Option ℤ → Option ℤ → Row S (Got Value)
slice_row a from to = Do (Read a) (slice_at from to)
