-- When a header and its extents fit each other, and to which record each place belongs.
-- What code and proofs say to each other: nothing public rests on it.
use Rattle.std.specs.Prelude.{◌≡◌, ℕ, ◌+◌, ◌*◌, ◌/◌, ◌%◌, ◌^◌, ◌<◌, ◌≤◌, Bool, true, cond, FitsSigned}
use Rattle.std.specs.Int.{w64}
use Rattle.py_base.specs.declared.kind.Kind.{Kind}
use Rattle.py_base.specs.declared.kind.Kind.TheVariants.{Dict}
use Rattle.py_data.specs.declared.value.Value.{Value}
use Rattle.py_data.specs.declared.value.Value.TheVariants.{Int, Ref, Builtin}
use Rattle.py_data.specs.Heap.{has_bytes}
use Rattle.paged_store.specs.Words.{Words, kind_by, count_by, body_by, body_size, class_in, index_class_in, first_in, in_head, in_body, in_index}

-- the words that so many values, or bytes, take
abbrev pub words_for : Bool → ℕ → ℕ
words_for bytes n = cond bytes ((n + 7) / 8) (2 * n)

-- a Dict has an index, of the class below its body's
abbrev pub HasIndex : Kind → ℕ → ℕ → Type 0
HasIndex Dict class index = (class ≡ index + 1) × (1 ≤ index)
HasIndex _ class index = index ≡ 0

-- The header at an address is one, and its body, which is no smaller than the first one was, holds what it counts, and
-- begins at an even place.
pub record Formed (w : Words) (a : ℕ) : Type 0 where
  pub class : class_in (w (2 * a)) ≤ 21
  pub first : first_in (w (2 * a)) ≤ class_in (w (2 * a))
  pub index : HasIndex (kind_by w a) (class_in (w (2 * a))) (index_class_in (w (2 * a)))
  pub holds : words_for (has_bytes (kind_by w a)) (count_by w a) ≤ body_size w a
  pub even : 0 < body_size w a → body_by w a % 2 ≡ 0

-- The places of a record are its own: of each place `own` is the record's address, and `role` the part that it belongs
-- to, which is 0 for a header, twice its class for a body and 1 more than that for an index.
pub record Lays (own role w : Words) (a : ℕ) : Type 0 where
  pub head : (p : ℕ) → in_head a p ≡ true → (own p ≡ a) × (role p ≡ 0)
  pub body : (p : ℕ) → in_body w a p ≡ true → (own p ≡ a) × (role p ≡ 2 * class_in (w (2 * a)))
  pub index : (p : ℕ) → in_index w a p ≡ true → (own p ≡ a) × (role p ≡ 2 * index_class_in (w (2 * a)) + 1)

-- two lists of words agree on the places that a record has in the first
pub record AgreeOn (w v : Words) (a : ℕ) : Type 0 where
  pub head : (p : ℕ) → in_head a p ≡ true → w p ≡ v p
  pub body : (p : ℕ) → in_body w a p ≡ true → w p ≡ v p
  pub index : (p : ℕ) → in_index w a p ≡ true → w p ≡ v p

-- a value as the code has it: its numbers fit their types
abbrev pub FitsValue : Value → Type 0
FitsValue (Int i) = FitsSigned w64 i
FitsValue (Ref a) = a.0 < 2 ^ 32
FitsValue (Builtin n) = n < 2 ^ 8
FitsValue _ = Unit {0}
