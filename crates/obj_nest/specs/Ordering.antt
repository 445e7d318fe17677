-- Which of two values comes first: the row, look by look. States `docs/HEAP.md`, "Equality and order".
use Rattle.std.specs.Prelude.{ℕ, zero, suc, Bool, true, false, List, min, Option, Some, None}
use Rattle.std.specs.declared.cmp.Ordering.{Ordering}
use Rattle.std.specs.Ordering.{nat_cmp}
use Rattle.py_data.specs.declared.value.Value.{Value}
use Rattle.py_data.specs.declared.value.Value.TheVariants.{Ref}
use Rattle.py_data.specs.declared.record.Got.{Got}
use Rattle.py_data.specs.declared.record.Got.TheVariants.{Is, Raise}
use Rattle.py_data.specs.Fault.{operand_fault}
use Rattle.py_data.specs.Comparing.{DEPTH_LIMIT, number_of, order_numbers, order_bytes}
use Rattle.py_data.specs.Row.{Row, Ret, bind}
use Rattle.py_data.specs.Looking.{size_row, look_row, bytes_row, until_row, got_row}
use Rattle.obj_nest.specs.declared.pairing.Pairing.{Pairing}
use Rattle.obj_nest.specs.declared.pairing.Pairing.TheVariants.{Texts, Items}
use Rattle.obj_nest.specs.Levels.{level_row, kinds_row}
use Rattle.obj_nest.specs.Equal.{Compares, equal_levels}

-- what orders two values
abbrev pub Orders : Type 0 → Type 0
Orders S = Value → Value → Row S (Got Ordering)

-- ---- strings

unfoldable pub bytes_with : {S : Type 0} → List ℕ → ℕ → Row S (Got Ordering)
bytes_with x b = bind (bytes_row b) (λ y. Ret (Is (order_bytes x y)))

unfoldable pub strings_row : {S : Type 0} → ℕ → ℕ → Row S (Got Ordering)
strings_row a b = bind (bytes_row a) (λ x. bytes_with x b)

-- ---- lists and tuples

-- what orders the parts of containers, and what says whether they are equal
pub record Parts (S : Type 0) : Type 0 where
  pub same : Compares S
  pub first : Orders S

-- the order of two items decides
abbrev pub deciding : {S : Type 0} → Got Ordering → Row S (Got (Option Ordering))
deciding (Is o) = Ret (Is (Some o))
deciding (Raise e) = Ret (Raise e)

-- where two items are equal, they decide nothing; where they aren't, their order does
unfoldable pub unequal_row : {S : Type 0} → Parts S → Value → Value → Bool → Row S (Got (Option Ordering))
unequal_row u x y true = Ret (Is None)
unequal_row u x y false = bind (u.first x y) deciding

unfoldable pub decided_row : {S : Type 0} → Parts S → Value → Value → Row S (Got (Option Ordering))
decided_row u x y = bind (u.same x y) (got_row (unequal_row u x y))

unfoldable pub turn_with : {S : Type 0} → Parts S → ℕ → ℕ → Value → Row S (Got (Option Ordering))
turn_with u b i x = bind (look_row b i) (λ y. decided_row u x y)

-- what the items at a place decide
unfoldable pub turn_row : {S : Type 0} → Parts S → ℕ → ℕ → ℕ → Row S (Got (Option Ordering))
turn_row u a b i = bind (look_row a i) (λ x. turn_with u b i x)

-- nothing is decided so far
abbrev pub is_open : Got (Option Ordering) → Bool
is_open (Is None) = true
is_open _ = false

-- where no items decide, the lengths do
abbrev pub by_lengths : ℕ → ℕ → Got (Option Ordering) → Got Ordering
by_lengths n m (Is None) = Is (nat_cmp n m)
by_lengths n m (Is (Some o)) = Is o
by_lengths n m (Raise e) = Raise e

-- up to the end of the shorter one
unfoldable pub shared_row : {S : Type 0} → Parts S → ℕ → ℕ → ℕ → ℕ → Row S (Got Ordering)
shared_row u a b n m = bind (until_row (turn_row u a b) is_open (Is None) 0 (min n m)) (λ g. Ret (by_lengths n m g))

unfoldable pub listed_from : {S : Type 0} → Parts S → ℕ → ℕ → ℕ → Row S (Got Ordering)
listed_from u a b n = bind (size_row b) (λ m. shared_row u a b n m)

unfoldable pub listed_row : {S : Type 0} → Parts S → ℕ → ℕ → Row S (Got Ordering)
listed_row u a b = bind (size_row a) (λ n. listed_from u a b n)

-- ---- any two records, any two values

unfoldable pub ordered_by : {S : Type 0} → Option (Parts S) → ℕ → ℕ → Pairing → Row S (Got Ordering)
ordered_by under a b Texts = strings_row a b
ordered_by under a b Items = level_row under (λ u. listed_row u a b)
ordered_by under a b _ = Ret (Raise operand_fault)

-- both kinds first
unfoldable pub ranked_row : {S : Type 0} → Option (Parts S) → ℕ → ℕ → Row S (Got Ordering)
ranked_row under a b = bind (kinds_row a b) (ordered_by under a b)

-- given what works on the parts of containers; a value that is no reference costs no look
unfoldable pub order_under : {S : Type 0} → Option (Parts S) → Orders S
order_under under (Ref a) (Ref b) = ranked_row under a.0 b.0
order_under under x y = Ret (order_numbers (number_of x) (number_of y))

-- what works on the parts of containers, where so many levels are left; none, where no level is
unfoldable pub parts_below : {S : Type 0} → ℕ → Option (Parts S)
parts_below zero = None
parts_below (suc d) = Some (record { same = equal_levels d; first = order_under (parts_below d) })

-- with so many levels left
abbrev pub order_levels : {S : Type 0} → ℕ → Orders S
order_levels d = order_under (parts_below d)

abbrev pub parts_at : {S : Type 0} → ℕ → Parts S
parts_at d = record { same = equal_levels d; first = order_levels d }

-- which of two values comes first
unfoldable pub order_row : {S : Type 0} → Orders S
order_row x y = order_levels DEPTH_LIMIT x y
