-- Records in words: a header of 4 words, and extents for a body and an index. States `docs/HEAP.md`, "Words".
use Rattle.std.specs.Prelude.{ℕ, zero, suc, ◌+◌, ◌-◌, ◌*◌, ◌/◌, ◌%◌, ◌^◌, Bool, cond, not, ◌&&◌, ◌||◌, eqb, ltb, leb, List, [], ◌∷◌, ◌++◌, get_or, ℤ, pos, negsuc}
use Rattle.py_base.specs.declared.kind.Kind.{Kind}
use Rattle.py_base.specs.declared.kind.Kind.TheVariants.{Str, Tuple, List as ListKind, Dict, Cell, Function, Class, Instance, Method, Iter, Range, Lock, Thread}
use Rattle.py_data.specs.declared.value.Value.{Value}
use Rattle.py_data.specs.declared.value.Value.TheVariants.{Unset, None as NoneValue, Bool as BoolValue, Int, Ref, Builtin}
use Rattle.py_data.specs.Heap.{Rec, has_bytes, has_rooms}

-- the words of a segment, or those that are shared, by place
abbrev pub Words : Type 0
Words = ℕ → ℕ

-- the place is one of n from a place on
abbrev pub in_span : ℕ → ℕ → ℕ → Bool
in_span place n p = leb place p && ltb p (place + n)

-- the values of a function at the first n numbers
abbrev pub listed : {A : Type 0} → ℕ → (ℕ → A) → List A
listed zero f = []
listed (suc n) f = listed n f ++ f n ∷ []

-- ---- kinds and values

-- the kinds, in the order of their numbers from 1 on; 0 is none's
abbrev pub kinds : List Kind
kinds = Str ∷ Str ∷ Tuple ∷ ListKind ∷ Dict ∷ Cell ∷ Function ∷ Class ∷ Instance ∷ Method ∷ Iter ∷ Range ∷ Lock ∷
    Thread ∷ []

unfoldable pub kind_at : ℕ → Kind
kind_at n = get_or kinds n Str

abbrev pub kind_number : Kind → ℕ
kind_number Str = 1
kind_number Tuple = 2
kind_number ListKind = 3
kind_number Dict = 4
kind_number Cell = 5
kind_number Function = 6
kind_number Class = 7
kind_number Instance = 8
kind_number Method = 9
kind_number Iter = 10
kind_number Range = 11
kind_number Lock = 12
kind_number Thread = 13

-- a whole number of 64 bits in two's complement
unfoldable pub signed : ℕ → ℤ
signed n = cond (ltb n (2 ^ 63)) (pos n) (negsuc (2 ^ 64 - 1 - n))

unfoldable pub unsigned : ℤ → ℕ
unsigned (pos n) = n
unsigned (negsuc n) = 2 ^ 64 - 1 - n

-- a value by its two words, a tag and a payload
unfoldable pub value_of : ℕ → ℕ → Value
value_of zero p = Unset
value_of (suc zero) p = NoneValue
value_of (suc (suc zero)) p = BoolValue (not (eqb p 0))
value_of (suc (suc (suc zero))) p = Int (signed p)
value_of (suc (suc (suc (suc zero)))) p = Ref (record { 0 = p % 2 ^ 32 })
value_of (suc (suc (suc (suc (suc zero))))) p = Builtin (p % 2 ^ 8)
value_of (suc (suc (suc (suc (suc (suc n)))))) p = Unset

abbrev pub bit_of : Bool → ℕ
bit_of b = cond b 1 0

abbrev pub tag_of : Value → ℕ
tag_of Unset = 0
tag_of NoneValue = 1
tag_of (BoolValue b) = 2
tag_of (Int i) = 3
tag_of (Ref a) = 4
tag_of (Builtin n) = 5

abbrev pub payload_of : Value → ℕ
payload_of Unset = 0
payload_of NoneValue = 0
payload_of (BoolValue b) = bit_of b
payload_of (Int i) = unsigned i
payload_of (Ref a) = a.0
payload_of (Builtin n) = n

-- ---- classes of extents

-- the words of an extent of a class, where class 0 is none
unfoldable pub size_of : ℕ → ℕ
size_of c = cond (eqb c 0) 0 (2 ^ c)

-- the values that a body of a class has room for
unfoldable pub room_in : ℕ → ℕ
room_in c = cond (eqb c 0) 0 (2 ^ (c - 1))

-- ---- the first word of a header: the kind, and the classes of the body, of the index, and of the first body

unfoldable pub kind_in : ℕ → Kind
kind_in x = kind_at (x % 256)

unfoldable pub class_in : ℕ → ℕ
class_in x = x / 256 % 256

unfoldable pub index_class_in : ℕ → ℕ
index_class_in x = x / 65536 % 256

unfoldable pub first_in : ℕ → ℕ
first_in x = x / 16777216

-- the first word of a header with these parts
abbrev pub head_word : Kind → ℕ → ℕ → ℕ → ℕ
head_word k class index first = kind_number k + 256 * class + 65536 * index + 16777216 * first

-- ---- the record at an address, whose header begins at twice the address

abbrev pub kind_by : Words → ℕ → Kind
kind_by w a = kind_in (w (2 * a))

abbrev pub count_by : Words → ℕ → ℕ
count_by w a = w (2 * a + 1)

abbrev pub body_by : Words → ℕ → ℕ
body_by w a = w (2 * a + 2)

abbrev pub index_by : Words → ℕ → ℕ
index_by w a = w (2 * a + 3)

abbrev pub body_size : Words → ℕ → ℕ
body_size w a = size_of (class_in (w (2 * a)))

abbrev pub index_size : Words → ℕ → ℕ
index_size w a = size_of (index_class_in (w (2 * a)))

-- the words of a body, and 0 behind its extent
unfoldable pub clipped : ℕ → Words → Words
clipped n f j = cond (ltb j n) (f j) 0

unfoldable pub value_in : Words → ℕ → Value
value_in body i = value_of (body (2 * i)) (body (2 * i + 1))

-- a word has 8 bytes, the lowest first
unfoldable pub byte_in : Words → ℕ → ℕ
byte_in body i = body (i / 8) / 256 ^ (i % 8) % 256

-- the record that a header's first word, a count and a body stand for
unfoldable pub record_of : ℕ → ℕ → Words → Rec
record_of head count body = record {
  kind = kind_in head;
  values = cond (has_bytes (kind_in head)) [] (listed count (value_in body));
  bytes = cond (has_bytes (kind_in head)) (listed count (byte_in body)) [];
  room = cond (has_rooms (kind_in head)) (room_in (class_in head)) 0;
  first = cond (has_rooms (kind_in head)) (room_in (first_in head)) 0;
}

-- the words of a record's body, from 0 on
abbrev pub body_words : Words → ℕ → Words
body_words w a = clipped (body_size w a) (λ j. w (body_by w a + j))

unfoldable pub decode : Words → ℕ → Rec
decode w a = record_of (w (2 * a)) (count_by w a) (body_words w a)

-- ---- the places of a record

abbrev pub in_head : ℕ → ℕ → Bool
in_head a p = in_span (2 * a) 4 p

abbrev pub in_body : Words → ℕ → ℕ → Bool
in_body w a p = in_span (body_by w a) (body_size w a) p

abbrev pub in_index : Words → ℕ → ℕ → Bool
in_index w a p = in_span (index_by w a) (index_size w a) p

abbrev pub in_record : Words → ℕ → ℕ → Bool
in_record w a p = in_head a p || (in_body w a p || in_index w a p)
