-- What equal keys have in common, and the home of a key among the slots of an index. States `docs/HEAP.md`, "The index
-- of a dictionary".
use Rattle.std.specs.Prelude.{ℕ, zero, suc, ℤ, pos, negsuc, ◌+◌, ◌*◌, ◌/◌, ◌%◌, ◌^◌, bit_xor, List, length, Option, Some, None}
use Rattle.py_data.specs.declared.value.Value.{Value}
use Rattle.py_data.specs.declared.value.Value.TheVariants.{Unset, None as NoneValue, Bool as BoolValue, Int, Ref, Builtin}
use Rattle.py_data.specs.Heap.{Heap}
use Rattle.py_data.specs.Shape.{text_in, bit}
use Rattle.dict_index.specs.Packed.{packed}

-- what two keys have in common exactly where they are equal
pub data KeyClass : Type 0 where
  Nothing : KeyClass
  Number : ℤ → KeyClass
  Text : List ℕ → KeyClass
  Named : ℕ → KeyClass
  Built : ℕ → KeyClass
  NoKey : KeyClass

abbrev pub text_or_name : ℕ → Option (List ℕ) → KeyClass
text_or_name a None = Named a
text_or_name a (Some bs) = Text bs

abbrev pub class_of : Heap → Value → KeyClass
class_of h Unset = NoKey
class_of h NoneValue = Nothing
class_of h (BoolValue b) = Number (bit b)
class_of h (Int i) = Number i
class_of h (Ref a) = text_or_name a.0 (text_in (h a.0))
class_of h (Builtin b) = Built b

-- the bytes of a key that is a string
abbrev pub text_at : Heap → Value → Option (List ℕ)
text_at h (Ref a) = text_in (h a.0)
text_at h _ = None

-- ---- a hash of a class: any function would do. What the kinds of keys begin with are far from each other, so that a
-- small number, its negative and an address have other homes.

-- 2^64 divided by the golden ratio: its multiples are spread
abbrev pub golden : ℕ
golden = 11_400_714_819_323_198_485

abbrev pub times_golden : ℕ → ℕ
times_golden x = x * golden % 2 ^ 64

abbrev pub mixed : ℕ → ℕ → ℕ
mixed seed x = let y = times_golden ((seed + x) % 2 ^ 64) in times_golden (bit_xor y (y / 2 ^ 29))

-- the first n words are mixed in, one after another
abbrev pub mixed_words : ℕ → ℕ → (ℕ → ℕ) → ℕ
mixed_words seed zero w = seed
mixed_words seed (suc n) w = mixed (mixed_words seed n w) (w n)

abbrev pub negative_seed : ℕ
negative_seed = 2 ^ 63

abbrev pub text_seed : ℕ
text_seed = 2 ^ 62

abbrev pub name_seed : ℕ
name_seed = 2 ^ 61

abbrev pub built_seed : ℕ
built_seed = 2 ^ 60

abbrev pub hash_number : ℤ → ℕ
hash_number (pos n) = mixed 1 n
hash_number (negsuc n) = mixed negative_seed n

-- the count of a string's bytes, and then its words
abbrev pub hash_text : List ℕ → ℕ
hash_text bs = mixed_words (mixed text_seed (length bs)) ((length bs + 7) / 8) (packed bs)

unfoldable pub hash_of : KeyClass → ℕ
hash_of Nothing = 3
hash_of (Number i) = hash_number i
hash_of (Text bs) = hash_text bs
hash_of (Named a) = mixed name_seed a
hash_of (Built b) = mixed built_seed b
hash_of NoKey = 0

-- the slot, of n slots, from which a key of a class is looked for: the upper half of the hash as a part of n
unfoldable pub home_of : ℕ → KeyClass → ℕ
home_of n c = hash_of c / 2 ^ 32 % 2 ^ 32 * n / 2 ^ 32
