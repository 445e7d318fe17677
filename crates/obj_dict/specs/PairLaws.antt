-- What the single changes of a dictionary do to the lists of its keys and values. States `docs/LANGUAGE.md`,
-- "Dictionaries".
use Rattle.std.specs.Prelude.{◌≡◌, ℕ, ◌+◌, ◌*◌, ◌<◌, Bool, true, false, cond, List, [], ◌∷◌, ◌++◌, length, remove, slice_set}
use Rattle.py_data.specs.declared.value.Value.{Value}
use Rattle.py_data.specs.Heap.{Rec, with_value, with_pair, without_pair}
use Rattle.obj_dict.specs.Listing.{half}

-- pairs alone
abbrev pub ArePaired : List Value → Type 0
ArePaired [] = Unit {0}
ArePaired (k ∷ []) = ⊥
ArePaired (k ∷ x ∷ rest) = ArePaired rest

pub record PairLaw : Type 0 where
  -- a key that is set again stays as it was, in its place
  pub keys_stay : (r : Rec) (i : ℕ) (x : Value) → half false (with_value (2 * i + 1) x r).values ≡ half false r.values
  -- and its value is the new one
  pub value_set : (r : Rec) (i : ℕ) (x : Value) → 2 * i + 1 < length r.values →
      half true (with_value (2 * i + 1) x r).values ≡ slice_set (half true r.values) i x
  -- a new key and its value come last
  pub pair_last : (second : Bool) (r : Rec) (key x : Value) → ArePaired r.values →
      half second (with_pair key x r).values ≡ half second r.values ++ cond second x key ∷ []
  -- a pair that goes leaves the others in their order
  pub gap_closed : (second : Bool) (r : Rec) (k : ℕ) → 2 * k + 1 < length r.values →
      half second (without_pair k r).values ≡ remove (half second r.values) k
