-- What is read in the words of a record.
use Rattle.std.proofs.Common.{◌≡◌, ℕ, zero, suc, ◌+◌, ◌*◌, ◌/◌, ◌%◌, ◌^◌, ◌<◌, ◌≤◌, Bool, true, false, cond, List, [], length, get_or, refl, ap, ◌∙◌, inl, inr, arith}
use Rattle.std.proofs.Math.Nat.{pow-succ', pow-le-pow_right}
use Rattle.std.proofs.lemmas.Bool.Decides.{eqb_tells, leb_tells}
use Rattle.py_base.specs.declared.kind.Kind.{Kind}
use Rattle.py_data.specs.declared.value.Value.{Value}
use Rattle.py_data.specs.Heap.{Rec, has_bytes, has_rooms}
use Rattle.paged_store.specs.Words.{Words, listed, value_of, clipped, value_in, byte_in, size_of, room_in, kind_in, class_in, first_in, record_of, decode, kind_by, count_by, body_by, body_size, body_words}
use Rattle.paged_store.specs.inner.Formed.{Formed, words_for}
use Rattle.paged_store.proofs.ListedLemmas.{listed_same, length_listed, get_or_listed}

-- ---- classes

pub size_of_next : (c : ℕ) → size_of (suc c) ≡ 2 ^ suc c
unfolding size_of
size_of_next c = elim (eqb_tells (suc c) 0) [ inl e ↦ absurd (omega arith) | inr e ↦ rw e.0 refl ]

pub room_in_next : (c : ℕ) → room_in (suc c) ≡ 2 ^ c
unfolding room_in
room_in_next c = elim (eqb_tells (suc c) 0) [
  | inl e ↦ absurd (omega arith)
  | inr e ↦ rw e.0
      (ap (λ z. 2 ^ z) (omega arith))
]

pub size_of_zero : size_of 0 ≡ 0
unfolding size_of
size_of_zero = refl

pub room_in_zero : room_in 0 ≡ 0
unfolding room_in
room_in_zero = refl

-- a body has two words for each value that it has room for
pub size_is : (c : ℕ) → size_of c ≡ 2 * room_in c
size_is zero = rw (size_of_zero, room_in_zero) refl
size_is (suc c) = rw (size_of_next, room_in_next) (pow-succ' 2 c)

-- ---- clipped words

pub clipped_at : (n j : ℕ) (f : Words) → j < n → clipped n f j ≡ f j
unfolding clipped
clipped_at n j f h = elim (leb_tells (suc j) n) [ inl e ↦ rw e.0 refl | inr e ↦ absurd (omega arith) ]

pub value_same : (f g : Words) (i : ℕ) → f (2 * i) ≡ g (2 * i) → f (2 * i + 1) ≡ g (2 * i + 1) →
    value_in f i ≡ value_in g i
unfolding value_in
value_same f g i x y = λ z. value_of (x z) (y z)

pub byte_same : (f g : Words) (i : ℕ) → f (i / 8) ≡ g (i / 8) → byte_in f i ≡ byte_in g i
unfolding byte_in
byte_same f g i x = ap (λ z. z / 256 ^ (i % 8) % 256) x

-- ---- a record of a kind that has values

-- the words from a record's body on, as far as there are any
abbrev pub body_from : Words → ℕ → Words
body_from w a = λ j. w (body_by w a + j)

-- the record of a kind and values, with bodies of these classes now and first
abbrev pub with_classes : Kind → List Value → ℕ → ℕ → Rec
with_classes kind values class first = record {
  kind = kind;
  values = values;
  bytes = [];
  room = cond (has_rooms kind) (room_in class) 0;
  first = cond (has_rooms kind) (room_in first) 0;
}

-- the record that a header's first word and values stand for
abbrev pub with_head : ℕ → List Value → Rec
with_head head values = with_classes (kind_in head) values (class_in head) (first_in head)

choose_values : (b : Bool) (n : ℕ) (f : ℕ → Value) (g : ℕ → ℕ) → b ≡ false →
    (cond b [] (listed n f) ≡ listed n f) × (cond b (listed n g) [] ≡ [])
choose_values true n f g e = absurd (cc)
choose_values false n f g e = (refl, refl)

values_fit : (b : Bool) (n m : ℕ) → b ≡ false → words_for b n ≤ m → 2 * n ≤ m
values_fit true n m e h = absurd (cc)
values_fit false n m e h = h

pub count_fits : (w : Words) (a : ℕ) → has_bytes (kind_by w a) ≡ false → Formed w a → 2 * count_by w a ≤ body_size w a
count_fits w a k f = values_fit (has_bytes (kind_by w a)) (count_by w a) (body_size w a) k f.holds

pub decode_values : (w : Words) (a : ℕ) → has_bytes (kind_by w a) ≡ false → 2 * count_by w a ≤ body_size w a →
    decode w a ≡ with_head (w (2 * a)) (listed (count_by w a) (value_in (body_from w a)))
unfolding decode record_of
decode_values w a k h =
    let c : (cond (has_bytes (kind_by w a)) [] (listed (count_by w a) (value_in (body_words w a))) ≡ listed
    (count_by w a) (value_in (body_words w a))) × (cond (has_bytes (kind_by w a))
    (listed (count_by w a) (byte_in (body_words w a))) [] ≡ []) =
    choose_values (has_bytes (kind_by w a)) (count_by w a) (value_in (body_words w a)) (byte_in (body_words w a)) k in
    let s : listed (count_by w a) (value_in (body_words w a)) ≡ listed (count_by w a) (value_in (body_from w a)) =
    listed_same (count_by w a) (value_in (body_words w a)) (value_in (body_from w a))
    (λ i l. value_same (body_words w a) (body_from w a) i
    (clipped_at (body_size w a) (2 * i) (body_from w a) (omega arith))
    (clipped_at (body_size w a) (2 * i + 1) (body_from w a) (omega arith))) in
    λ z. record {
      kind = kind_by w a;
      values = (c.0 ∙ s) z;
      bytes = c.1 z;
      room = cond (has_rooms (kind_by w a)) (room_in (class_in (w (2 * a)))) 0;
      first = cond (has_rooms (kind_by w a)) (room_in (first_in (w (2 * a)))) 0;
    }

-- ---- what a record tells

pub kind_is : (w : Words) (a : ℕ) → (decode w a).kind ≡ kind_by w a
unfolding decode record_of
kind_is w a = refl

pub room_is : (w : Words) (a : ℕ) → has_rooms (kind_by w a) ≡ true →
    (decode w a).room ≡ room_in (class_in (w (2 * a)))
unfolding decode record_of
room_is w a k = rw k refl

pub values_length : (w : Words) (a : ℕ) → has_bytes (kind_by w a) ≡ false → length (decode w a).values ≡ count_by w a
unfolding decode record_of
values_length w a k = rw k (length_listed (count_by w a) (value_in (body_words w a)))

pub bytes_length : (w : Words) (a : ℕ) → has_bytes (kind_by w a) ≡ true → length (decode w a).bytes ≡ count_by w a
unfolding decode record_of
bytes_length w a k = rw k (length_listed (count_by w a) (byte_in (body_words w a)))

pub value_read : (w : Words) (a i : ℕ) (d : Value) → has_bytes (kind_by w a) ≡ false → Formed w a → i < count_by w a →
    get_or (decode w a).values i d ≡ value_of (w (body_by w a + 2 * i)) (w (body_by w a + (2 * i + 1)))
unfolding value_in
value_read w a i d k f h =
    ap (λ (r : Rec). get_or r.values i d) (decode_values w a k (count_fits w a k f)) ∙
    get_or_listed (count_by w a) i (value_in (body_from w a)) d h

bytes_fit : (b : Bool) (n m : ℕ) → b ≡ true → words_for b n ≤ m → (n + 7) / 8 ≤ m
bytes_fit true n m e h = h
bytes_fit false n m e h = absurd (cc)

pub text_fits : (w : Words) (a : ℕ) → has_bytes (kind_by w a) ≡ true → Formed w a →
    (count_by w a + 7) / 8 ≤ body_size w a
text_fits w a k f = bytes_fit (has_bytes (kind_by w a)) (count_by w a) (body_size w a) k f.holds

pub byte_read : (w : Words) (a i d : ℕ) → has_bytes (kind_by w a) ≡ true → Formed w a → i < count_by w a →
    get_or (decode w a).bytes i d ≡ w (body_by w a + i / 8) / 256 ^ (i % 8) % 256
unfolding decode record_of byte_in
byte_read w a i d k f h =
    let l : (count_by w a + 7) / 8 ≤ body_size w a = text_fits w a k f in
    rw k (get_or_listed (count_by w a) i (byte_in (body_words w a)) d h ∙
    ap (λ z. z / 256 ^ (i % 8) % 256) (clipped_at (body_size w a) (i / 8) (body_from w a) (omega arith)))

pub no_bytes : (w : Words) (a : ℕ) → has_bytes (kind_by w a) ≡ false → (decode w a).bytes ≡ []
unfolding decode record_of
no_bytes w a k = rw k refl

pub no_values : (w : Words) (a : ℕ) → has_bytes (kind_by w a) ≡ true → (decode w a).values ≡ []
unfolding decode record_of
no_values w a k = rw k refl

pub first_is : (w : Words) (a : ℕ) → has_rooms (kind_by w a) ≡ true →
    (decode w a).first ≡ room_in (first_in (w (2 * a)))
unfolding decode record_of
first_is w a k = rw k refl

-- ---- how much there can be

pub size_most : (c : ℕ) → c ≤ 21 → size_of c ≤ 2 ^ 21
size_most zero h = rw size_of_zero (omega arith)
size_most (suc c) h = rw (size_of_next c) (pow-le-pow_right (omega arith) h)

pub body_most : (w : Words) (a : ℕ) → Formed w a → body_size w a ≤ 2 ^ 21
body_most w a f = size_most (class_in (w (2 * a))) f.class

pub count_most : (w : Words) (a : ℕ) → has_bytes (kind_by w a) ≡ false → Formed w a → count_by w a ≤ 2 ^ 20
count_most w a k f = let l : 2 * count_by w a ≤ body_size w a = count_fits w a k f in
    let m : body_size w a ≤ 2 ^ 21 = body_most w a f in omega arith

pub text_most : (w : Words) (a : ℕ) → has_bytes (kind_by w a) ≡ true → Formed w a → count_by w a ≤ 2 ^ 24
text_most w a k f = let l : (count_by w a + 7) / 8 ≤ body_size w a = text_fits w a k f in
    let m : body_size w a ≤ 2 ^ 21 = body_most w a f in omega arith
