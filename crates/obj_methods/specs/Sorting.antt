-- Values in order, and the row that puts them there. States `docs/LANGUAGE.md`, "Sorting".
use Rattle.std.specs.Prelude.{ℕ, ℤ, pos, Bool, true, false, cond, ◌&&◌, List, [], ◌∷◌, ◌++◌, map, is_some, unwrap_or}
use Rattle.std.specs.Ordering.{is_lt, int_cmp}
use Rattle.py_data.specs.declared.value.Value.{Value}
use Rattle.py_data.specs.declared.value.Value.TheVariants.{Ref}
use Rattle.py_data.specs.declared.record.Got.{Got}
use Rattle.py_data.specs.declared.record.Got.TheVariants.{Is, Raise}
use Rattle.py_data.specs.Comparing.{number_of, order_bytes}
use Rattle.py_data.specs.Fault.{operand_fault}
use Rattle.py_data.specs.Looking.{kind_row, bytes_row, got_row}
use Rattle.py_data.specs.Row.{Row, Ret, bind}
use Rattle.obj_seq.specs.Iter.{is_str}
use Rattle.obj_methods.specs.declared.words.Word.{Word}

-- ---- order

-- an element comes before the first that isn't less than it
abbrev pub placed : {X : Type 0} → (X → X → Bool) → X → List X → List X
placed less x [] = x ∷ []
placed less x (y ∷ ys) = cond (less y x) (y ∷ placed less x ys) (x ∷ y ∷ ys)

-- elements in order; those of which neither is less keep the order that they stood in
abbrev pub in_order : {X : Type 0} → (X → X → Bool) → List X → List X
in_order less [] = []
in_order less (x ∷ xs) = placed less x (in_order less xs)

-- ---- numbers

abbrev pub is_number : Value → Bool
is_number x = is_some (number_of x)

abbrev pub are_numbers : List Value → Bool
are_numbers [] = true
are_numbers (x ∷ xs) = is_number x && are_numbers xs

-- the number that a value is, and 0 of any other
abbrev pub number_in : Value → ℤ
number_in x = unwrap_or (number_of x) (pos 0)

-- the lesser number
abbrev pub number_less : Value → Value → Bool
number_less x y = is_lt (int_cmp (number_in x) (number_in y))

-- ---- strings

-- the lesser text, by its bytes
abbrev pub word_less : Word → Word → Bool
word_less x y = is_lt (order_bytes x.text y.text)

abbrev pub value_of : Word → Value
value_of x = x.value

-- the bytes of a record that is a string
unfoldable pub text_by : {S : Type 0} → ℕ → Bool → Row S (Got (List ℕ))
text_by a true = bind (bytes_row a) (λ bs. Ret (Is bs))
text_by a false = Ret (Raise operand_fault)

unfoldable pub text_at : {S : Type 0} → ℕ → Row S (Got (List ℕ))
text_at a = bind (kind_row a) (λ k. text_by a (is_str k))

-- the bytes of a value that is a string
unfoldable pub text_row : {S : Type 0} → Value → Row S (Got (List ℕ))
text_row (Ref a) = text_at a.0
text_row _ = Ret (Raise operand_fault)

-- a value and its text, behind those that were read
unfoldable pub word_row : {S : Type 0} → Value → List Word → Row S (Got (List Word))
word_row x ws = bind (text_row x) (got_row (λ bs. Ret (Is (ws ++ record { text = bs; value = x } ∷ []))))

unfoldable pub words_row : {S : Type 0} → List Value → List Word → Row S (Got (List Word))
words_row [] ws = Ret (Is ws)
words_row (x ∷ xs) ws = bind (word_row x ws) (got_row (words_row xs))

-- strings in the order of their texts
unfoldable pub worded_row : {S : Type 0} → List Value → Row S (Got (List Value))
worded_row vs = bind (words_row vs []) (got_row (λ ws. Ret (Is (map value_of (in_order word_less ws)))))

-- ---- both

-- numbers by their value, strings by their bytes; TypeError for any other values
unfoldable pub sorted_row : {S : Type 0} → List Value → Row S (Got (List Value))
sorted_row vs = cond (are_numbers vs) (Ret (Is (in_order number_less vs))) (worded_row vs)
