-- A record that grows: its body, and a Dict's index, stand in larger extents. What code and proofs say to each other:
-- nothing public rests on it.
use Rattle.std.specs.Prelude.{◌≡◌, ℕ, ◌+◌, ◌*◌, ◌%◌, ◌<◌, ◌≤◌, true, false, List, [], ◌++◌, length}
use Rattle.page_table.specs.Pages.{Table}
use Rattle.py_data.specs.declared.value.Value.{Value}
use Rattle.paged_store.specs.declared.extent.Extent.{Extent}
use Rattle.paged_store.specs.Words.{Words, in_span, class_in, index_class_in, kind_by, count_by, body_size, in_head, in_body}
use Rattle.paged_store.specs.Paged.{spare_at}
use Rattle.paged_store.specs.inner.Sight.{Stands}
use Rattle.paged_store.specs.inner.Written.{put_word, next_index}
use Rattle.paged_store.specs.inner.Writing.{Desk, Refused, Readied, CanPut, with_words, put_values, next_body_size, next_index_size, grown_words}
use Rattle.paged_store.specs.inner.Claiming.{extent_for}
use Rattle.paged_store.specs.inner.Taking.{Takes}

-- the words of a record with a larger body in another place, and with so many values at its end besides
abbrev pub grown_with : Words → ℕ → ℕ → ℕ → List Value → Words
grown_with w a body index vs =
    put_word (2 * a + 1) (count_by w a + length vs)
    (put_values (body + 2 * count_by w a) vs (grown_words w a body index))

-- the classes of the body and of the index of a record that has grown
abbrev pub grown_class : Words → ℕ → ℕ
grown_class w a = class_in (w (2 * a)) + 1

abbrev pub grown_index : Words → ℕ → ℕ
grown_index w a = next_index (kind_by w a) (index_class_in (w (2 * a)))

-- the extents that it takes
abbrev pub grown_extents : Words → ℕ → ℕ → ℕ → List Extent
grown_extents w a body index = extent_for (grown_class w a) body ++ extent_for (grown_index w a) index

-- the record at a can grow, and its body has room for n values more then
pub record MayGrow (w : Words) (reserved a n : ℕ) : Type 0 where
  pub stands : Stands w reserved a
  pub class : class_in (w (2 * a)) < 21
  pub count : 2 * count_by w a ≤ body_size w a
  pub room : 2 * (count_by w a + n) ≤ next_body_size w a

-- no place of its body is spare
abbrev pub KeepsBody : Table → Words → ℕ → Type 0
KeepsBody t w a = (p : ℕ) → in_body w a p ≡ true → (p < t.reserved) × (spare_at t p ≡ 0)

-- segment k's record at a can grow into these places
pub record CanGrow (k a body index n : ℕ) (t : Table) : Type 0 where
  pub grows : MayGrow (t.word k) t.reserved a n
  pub may_head : CanPut k (2 * a) 4 t
  pub may_body : CanPut k body (next_body_size (t.word k) a) t
  pub may_index : CanPut k index (next_index_size (t.word k) a) t
  pub even : 0 < n → body % 2 ≡ 0
  pub apart : (p : ℕ) → in_span body (next_body_size (t.word k) a) p ≡ true → in_body (t.word k) a p ≡ false

-- Its header is ready and its extents are taken, so that it can grow into these places, and have as many values more
-- as it may.
pub record GrowsInto (k a body index : ℕ) (old new : Desk) : Type 0 where
  pub ready : Desk
  pub readied : Readied k (in_head a) old ready
  pub takes : Takes k (grown_extents (old.table.word k) a body index) ready new
  pub can : (n : ℕ) → MayGrow (old.table.word k) old.table.reserved a n → CanGrow k a body index n new.table

-- the record has grown, with these values at its end
pub record Grew (k a : ℕ) (vs : List Value) (old new : Desk) : Type 0 where
  pub body : ℕ
  pub index : ℕ
  pub ready : Desk
  pub taken : Desk
  pub readied : Readied k (in_head a) old ready
  pub takes : Takes k (grown_extents (old.table.word k) a body index) ready taken
  pub can : CanGrow k a body index (length vs) taken.table
  pub puts : new ≡ record taken { table = with_words k (grown_with (taken.table.word k) a body index vs) taken.table }

-- it has not: no word changed, and no extent was taken
pub record Ungrown (k a : ℕ) (old new : Desk) : Type 0 where
  pub between : Desk
  pub refused : Refused k (in_head a) old between
  pub takes : Takes k [] between new
