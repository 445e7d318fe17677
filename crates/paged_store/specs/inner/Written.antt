-- What a record's words are once it is written. What code and proofs say to each other: nothing public rests on it.
use Rattle.std.specs.Prelude.{◌≡◌, ◌≢◌, ℕ, ◌+◌, ◌-◌, ◌*◌, ◌/◌, ◌<◌, ◌≤◌, true, false, cond, eqb, List, length, ◌%◌}
use Rattle.py_base.specs.declared.kind.Kind.{Kind}
use Rattle.py_base.specs.declared.kind.Kind.TheVariants.{Dict}
use Rattle.py_data.specs.declared.value.Value.{Value}
use Rattle.py_data.specs.Heap.{Rec, has_bytes, has_rooms, room_of, length_by, value_at}
use Rattle.seg_store.specs.Extents.{class_holding, class_of_room}
use Rattle.dict_index.specs.Packed.{packed}
use Rattle.paged_store.specs.Words.{Words, in_span, tag_of, payload_of, kind_in, class_in, index_class_in, first_in, head_word, decode, count_by, body_by, in_head, in_body, in_index, body_size}
use Rattle.paged_store.specs.inner.Formed.{Formed, Lays, words_for}

-- another word at one place
abbrev pub put_word : ℕ → ℕ → Words → Words
put_word p x w = λ q. cond (eqb q p) x (w q)

-- a value in the two words from a place on
abbrev pub put_value : ℕ → Value → Words → Words
put_value p v w = put_word (p + 1) (payload_of v) (put_word p (tag_of v) w)

-- the words of a record once a value of it is another, once one more is at its end, and once a pair is
abbrev pub set_words : Words → ℕ → ℕ → Value → Words
set_words w a i v = put_value (body_by w a + 2 * i) v w

abbrev pub push_words : Words → ℕ → Value → Words
push_words w a v = put_word (2 * a + 1) (count_by w a + 1) (set_words w a (count_by w a) v)

abbrev pub pair_words : Words → ℕ → Value → Value → Words
pair_words w a key v =
    put_word (2 * a + 1) (count_by w a + 2)
    (put_value (body_by w a + 2 * count_by w a + 2) v (set_words w a (count_by w a) key))

-- so many words from a place on are those that stand so far behind them
abbrev pub slid : ℕ → ℕ → ℕ → Words → Words
slid place n by w = λ q. cond (in_span place n q) (w (q + by)) (w q)

-- so many words from a place on are those from another place on
abbrev pub copied : ℕ → ℕ → ℕ → Words → Words
copied from to n w = λ q. cond (in_span to n q) (w (from + (q - to))) (w q)

-- the words of a record once the pair of a number is gone, and n values are left
abbrev pub drop_words : Words → ℕ → ℕ → ℕ → Words
drop_words w a k n = put_word (2 * a + 1) n (slid (body_by w a + 4 * k) (2 * n - 4 * k) 4 w)

-- ---- changes in place

-- the value is in the two words from a place on
pub record ValueAt (w : Words) (p : ℕ) (v : Value) : Type 0 where
  pub tag : w p ≡ tag_of v
  pub payload : w (p + 1) ≡ payload_of v

-- the record has so many values now, and each word but those of its body and its count is as it was
pub record InPlace (w now : Words) (a n : ℕ) : Type 0 where
  pub count : count_by now a ≡ n
  pub outside : (p : ℕ) → in_body w a p ≡ false → p ≢ 2 * a + 1 → now p ≡ w p

-- the first so many words of the body are as they were
abbrev pub KeepsFirst : Words → Words → ℕ → ℕ → Type 0
KeepsFirst w now a n = (j : ℕ) → j < n → now (body_by w a + j) ≡ w (body_by w a + j)

-- another value in a place
pub record SetsValue (w now : Words) (a i : ℕ) (v : Value) : Type 0 where
  pub place : InPlace w now a (count_by w a)
  pub value : ValueAt now (body_by w a + 2 * i) v
  pub others : (j : ℕ) → j < 2 * count_by w a → j ≢ 2 * i → j ≢ 2 * i + 1 →
      now (body_by w a + j) ≡ w (body_by w a + j)

-- a value more at the end
pub record PushesValue (w now : Words) (a : ℕ) (v : Value) : Type 0 where
  pub place : InPlace w now a (count_by w a + 1)
  pub value : ValueAt now (body_by w a + 2 * count_by w a) v
  pub others : KeepsFirst w now a (2 * count_by w a)

-- a key and its value at the end
pub record PushesPair (w now : Words) (a : ℕ) (key v : Value) : Type 0 where
  pub place : InPlace w now a (count_by w a + 2)
  pub first : ValueAt now (body_by w a + 2 * count_by w a) key
  pub second : ValueAt now (body_by w a + 2 * count_by w a + 2) v
  pub others : KeepsFirst w now a (2 * count_by w a)

-- the first so many values
pub record Cuts (w now : Words) (a n : ℕ) : Type 0 where
  pub place : InPlace w now a n
  pub others : KeepsFirst w now a (2 * n)

-- the pair of a number is gone, and the words behind it have moved down
pub record DropsPair (w now : Words) (a k n : ℕ) : Type 0 where
  pub place : InPlace w now a n
  pub fewer : n + 2 ≡ count_by w a
  pub below : KeepsFirst w now a (4 * k)
  pub behind : (j : ℕ) → 4 * k ≤ j → j < 2 * n → now (body_by w a + j) ≡ w (body_by w a + j + 4)

-- ---- growth

-- the class of the index once the body has grown: a Dict's grows with it, and no other record has one
abbrev pub next_index : Kind → ℕ → ℕ
next_index Dict i = i + 1
next_index _ i = 0

-- the first word of a header once the body has grown by a class
unfoldable pub next_head : ℕ → ℕ
next_head x = head_word (kind_in x) (class_in x + 1) (next_index (kind_in x) (index_class_in x)) (first_in x)

-- the body is in another place, of the next class, and has the words of the values that it had
pub record Grows (w now : Words) (a : ℕ) : Type 0 where
  pub first : now (2 * a) ≡ next_head (w (2 * a))
  pub count : count_by now a ≡ count_by w a
  pub words : (j : ℕ) → j < 2 * count_by w a → now (body_by now a + j) ≡ w (body_by w a + j)
  pub even : body_by now a % 2 ≡ 0

-- The extents of e are those of the body and the index that the record at a has, in places that were nobody's; no
-- place of another record has another word, and none that was nobody's but theirs.
pub record TakesBody (own w now : Words) (a : ℕ) (e part : ℕ → ℕ) : Type 0 where
  pub free : (p : ℕ) → 0 < e p → own p ≡ 0
  pub body : (p : ℕ) → in_body now a p ≡ true → (0 < e p) × (part p ≡ 2 * class_in (now (2 * a)))
  pub index : (p : ℕ) → in_index now a p ≡ true → (0 < e p) × (part p ≡ 2 * index_class_in (now (2 * a)) + 1)
  pub others : (p : ℕ) → own p ≢ a → e p ≡ 0 → now p ≡ w p

-- ---- a new record

-- the class of the body that a record of so many values, or bytes, is made with
unfoldable pub made_class : Kind → ℕ → ℕ
made_class k n = cond (has_rooms k) (class_of_room (room_of k n)) (class_holding (words_for (has_bytes k) n))

-- and that of its index: a Dict's is one below its body's, and no other record has one
abbrev pub made_index : Kind → ℕ → ℕ
made_index Dict class = class - 1
made_index _ class = 0

-- the first word of a header of a record of so many values, or bytes, when it is made
unfoldable pub made_head : Kind → ℕ → ℕ
made_head k n = head_word k (made_class k n) (made_index k (made_class k n)) (made_class k n)

-- the header at an address, and the body that it tells, are those of a new record
pub record Makes (now : Words) (a : ℕ) (kind : Kind) (vs : List Value) (bs : List ℕ) : Type 0 where
  pub first : now (2 * a) ≡ made_head kind (length_by kind vs bs)
  pub count : count_by now a ≡ length_by kind vs bs
  pub values : (i : ℕ) → i < length vs → ValueAt now (body_by now a + 2 * i) (value_at vs i)
  pub bytes : (j : ℕ) → j < (length bs + 7) / 8 → now (body_by now a + j) ≡ packed bs j
  pub even : 0 < body_size now a → body_by now a % 2 ≡ 0

-- The extents of e are those of the record at a; no other place has another word.
pub record TakesRecord (own w now : Words) (a : ℕ) (e part : ℕ → ℕ) : Type 0 where
  pub head : (p : ℕ) → in_head a p ≡ true → (0 < e p) × (part p ≡ 0)
  pub body : (p : ℕ) → in_body now a p ≡ true → (0 < e p) × (part p ≡ 2 * class_in (now (2 * a)))
  pub index : (p : ℕ) → in_index now a p ≡ true → (0 < e p) × (part p ≡ 2 * index_class_in (now (2 * a)) + 1)
  pub others : (p : ℕ) → e p ≡ 0 → now p ≡ w p

-- ---- what a change leaves

-- to whom each place belongs once the record at a has the extents of e, and which part of it that is
abbrev pub owned_by : Words → (ℕ → ℕ) → ℕ → Words
owned_by own e a = λ p. cond (eqb (e p) 0) (own p) a

abbrev pub parted : Words → (ℕ → ℕ) → (ℕ → ℕ) → Words
parted role e part = λ p. cond (eqb (e p) 0) (role p) (part p)

-- Words that stand for the record r at a, with the extents of e, whose places have these roles now; no place of
-- another record has another word.
pub record Changed (own role w now : Words) (a : ℕ) (e part : ℕ → ℕ) (r : Rec) : Type 0 where
  pub means : decode now a ≡ r
  pub formed : Formed now a
  pub lays : Lays (owned_by own e a) (parted role e part) now a
  pub others : (p : ℕ) → own p ≢ a → e p ≡ 0 → now p ≡ w p
