-- Whether two values are equal: the row, look by look. States `docs/HEAP.md`, "Equality and order".
use Rattle.std.specs.Prelude.{ℕ, ◌+◌, ◌*◌, ◌/◌, ◌==◌, Bool, true, false, cond, ◌&&◌, List, eqb, Option, Some, None}
use Rattle.py_data.specs.declared.value.Value.{Value}
use Rattle.py_data.specs.declared.value.Value.TheVariants.{Ref}
use Rattle.py_data.specs.declared.record.Got.{Got}
use Rattle.py_data.specs.declared.record.Got.TheVariants.{Is}
use Rattle.py_data.specs.Heap.{no_records}
use Rattle.py_data.specs.Shape.{same_bytes, same_key}
use Rattle.py_data.specs.Comparing.{DEPTH_LIMIT, is_same}
use Rattle.py_data.specs.Row.{Row, Ret, Do, Find, bind}
use Rattle.py_data.specs.Looking.{size_row, look_row, bytes_row, until_row}
use Rattle.obj_nest.specs.declared.pairing.Pairing.{Pairing}
use Rattle.obj_nest.specs.declared.pairing.Pairing.TheVariants.{Texts, Items, Pairs, Methods, Others}
use Rattle.obj_nest.specs.Levels.{below, level_row, kinds_row}

-- what compares two values
abbrev pub Compares : Type 0 → Type 0
Compares S = Value → Value → Row S (Got Bool)

-- equal so far
abbrev pub is_equal : Got Bool → Bool
is_equal (Is true) = true
is_equal _ = false

-- ---- strings

unfoldable pub texts_with : {S : Type 0} → List ℕ → ℕ → Row S (Got Bool)
texts_with x b = bind (bytes_row b) (λ y. Ret (Is (same_bytes x y)))

unfoldable pub texts_row : {S : Type 0} → ℕ → ℕ → Row S (Got Bool)
texts_row a b = bind (bytes_row a) (λ x. texts_with x b)

-- ---- lists and tuples

unfoldable pub item_with : {S : Type 0} → Compares S → ℕ → ℕ → Value → Row S (Got Bool)
item_with u b i x = bind (look_row b i) (λ y. u x y)

-- the items at a place
unfoldable pub item_row : {S : Type 0} → Compares S → ℕ → ℕ → ℕ → Row S (Got Bool)
item_row u a b i = bind (look_row a i) (λ x. item_with u b i x)

-- where the lengths are the same, item by item
unfoldable pub sized_row : {S : Type 0} → (ℕ → Row S (Got Bool)) → ℕ → ℕ → Row S (Got Bool)
sized_row f n m = cond (n == m) (until_row f is_equal (Is true) 0 n) (Ret (Is false))

unfoldable pub items_from : {S : Type 0} → Compares S → ℕ → ℕ → ℕ → Row S (Got Bool)
items_from u a b n = bind (size_row b) (λ m. sized_row (item_row u a b) n m)

-- the lengths first
unfoldable pub items_row : {S : Type 0} → Compares S → ℕ → ℕ → Row S (Got Bool)
items_row u a b = bind (size_row a) (λ n. items_from u a b n)

-- ---- dictionaries

-- a value, and that of the other dictionary's pair of this number, if there is one
unfoldable pub found_row : {S : Type 0} → Compares S → ℕ → Value → Option ℕ → Row S (Got Bool)
found_row u b x None = Ret (Is false)
found_row u b x (Some j) = bind (look_row b (2 * j + 1)) (λ y. u x y)

-- a value, and what the other dictionary has for its key
unfoldable pub sought_row : {S : Type 0} → Compares S → ℕ → Value → Value → Row S (Got Bool)
sought_row u b k x = Do (Find b k) (λ o. found_row u b x o)

unfoldable pub pair_with : {S : Type 0} → Compares S → ℕ → ℕ → ℕ → Value → Row S (Got Bool)
pair_with u a b i k = bind (look_row a (2 * i + 1)) (λ x. sought_row u b k x)

-- the pair of this number
unfoldable pub pair_row : {S : Type 0} → Compares S → ℕ → ℕ → ℕ → Row S (Got Bool)
pair_row u a b i = bind (look_row a (2 * i)) (λ k. pair_with u a b i k)

-- where the lengths are the same, pair by pair
unfoldable pub paired_row : {S : Type 0} → (ℕ → Row S (Got Bool)) → ℕ → ℕ → Row S (Got Bool)
paired_row f n m = cond (n == m) (until_row f is_equal (Is true) 0 (n / 2)) (Ret (Is false))

unfoldable pub pairs_from : {S : Type 0} → Compares S → ℕ → ℕ → ℕ → Row S (Got Bool)
pairs_from u a b n = bind (size_row b) (λ m. paired_row (pair_row u a b) n m)

-- the lengths first
unfoldable pub pairs_row : {S : Type 0} → Compares S → ℕ → ℕ → Row S (Got Bool)
pairs_row u a b = bind (size_row a) (λ n. pairs_from u a b n)

-- ---- methods

unfoldable pub owner_with : {S : Type 0} → ℕ → Bool → Value → Row S (Got Bool)
owner_with b same x = bind (look_row b 1) (λ y. Ret (Is (same && is_same x y)))

-- the objects, and what was found of the functions
unfoldable pub owners_row : {S : Type 0} → ℕ → ℕ → Bool → Row S (Got Bool)
owners_row a b same = bind (look_row a 1) (λ x. owner_with b same x)

unfoldable pub methods_with : {S : Type 0} → ℕ → ℕ → Value → Row S (Got Bool)
methods_with a b f = bind (look_row b 0) (λ g. owners_row a b (is_same f g))

-- the functions, and then the objects
unfoldable pub methods_row : {S : Type 0} → ℕ → ℕ → Row S (Got Bool)
methods_row a b = bind (look_row a 0) (λ f. methods_with a b f)

-- ---- any two records, any two values

unfoldable pub by_pairing : {S : Type 0} → Option (Compares S) → ℕ → ℕ → Pairing → Row S (Got Bool)
by_pairing under a b Texts = texts_row a b
by_pairing under a b Items = level_row under (λ u. items_row u a b)
by_pairing under a b Pairs = level_row under (λ u. pairs_row u a b)
by_pairing under a b Methods = methods_row a b
by_pairing under a b Others = Ret (Is (eqb a b))

-- both kinds first
unfoldable pub records_row : {S : Type 0} → Option (Compares S) → ℕ → ℕ → Row S (Got Bool)
records_row under a b = bind (kinds_row a b) (by_pairing under a b)

-- values that aren't both references
abbrev pub plain_same : Value → Value → Bool
plain_same x y = same_key no_records x y

-- given what compares the parts of containers; a value that is no reference costs no look
unfoldable pub equal_under : {S : Type 0} → Option (Compares S) → Compares S
equal_under under (Ref a) (Ref b) = records_row under a.0 b.0
equal_under under x y = Ret (Is (plain_same x y))

-- with so many levels left
abbrev pub equal_levels : {S : Type 0} → ℕ → Compares S
equal_levels d = equal_under (below equal_under d)

-- whether two values are equal
unfoldable pub equal_row : {S : Type 0} → Compares S
equal_row x y = equal_levels DEPTH_LIMIT x y
