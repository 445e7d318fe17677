-- What is written on a segment's desk: its pages and its draft.
-- What code and proofs say to each other: nothing public rests on it.
use Rattle.std.specs.Prelude.{◌≡◌, ◌≢◌, ℕ, ◌+◌, ◌-◌, ◌*◌, ◌/◌, ◌<◌, ◌≤◌, ◌⊎◌, Bool, true, ◌||◌, false, cond, List, [], ◌∷◌, ◌++◌, length, get_or}
use Rattle.page_table.specs.Pages.{Table, put}
use Rattle.page_table.specs.Lists.{Lists, table_of}
use Rattle.py_data.specs.declared.value.Value.{Value}
use Rattle.paged_store.specs.declared.extent.Span.{Span}
use Rattle.paged_store.specs.declared.extent.Note.{Note}
use Rattle.paged_store.specs.declared.draft.Draft.{Draft}
use Rattle.paged_store.specs.Words.{Words, in_span, listed, size_of, class_in, index_class_in, kind_by, count_by, body_by, in_head}
use Rattle.dict_index.specs.Packed.{packed}
use Rattle.paged_store.specs.inner.Written.{put_word, put_value, copied, next_index, next_head}
use Rattle.paged_store.specs.Paged.{Drafted, drafted, in_spans, in_extents, taken_since, word_before}
use Rattle.paged_store.specs.inner.Fine.{FitsTable, noted}

pub record Desk : Type 0 where
  pub table : Table
  pub draft : Drafted

abbrev pub desk : Lists → Draft → Desk
desk p d = record { table = table_of p; draft = drafted d }

-- all but the words of segment k, which of its pages are its own, and spans and notes that were added
pub record SameBut (k : ℕ) (old new : Desk) : Type 0 where
  pub shared : new.table.shared ≡ old.table.shared
  pub others : (j : ℕ) → j ≢ k → new.table.word j ≡ old.table.word j
  pub shelf : new.table.shelf ≡ old.table.shelf
  pub reserved : new.table.reserved ≡ old.table.reserved
  pub pages : new.table.pages ≡ old.table.pages
  pub segments : new.table.segments ≡ old.table.segments
  pub own : (j q : ℕ) → old.table.own j q ≡ true → new.table.own j q ≡ true
  pub changed : new.draft.changed ≡ old.draft.changed
  pub made : new.draft.made ≡ old.draft.made
  pub taken : new.draft.taken ≡ old.draft.taken
  pub taken_before : new.draft.taken_before ≡ old.draft.taken_before
  pub made_before : new.draft.made_before ≡ old.draft.made_before
  pub spans_before : new.draft.spans_before ≡ old.draft.spans_before
  pub more_spans : List Span
  pub spans : new.draft.spans ≡ old.draft.spans ++ more_spans
  pub more_notes : List Note
  pub notes : new.draft.notes ≡ old.draft.notes ++ more_notes

-- Segment k's words are w now, and it may have written the places of t besides; its words as its open step began with
-- them are what they were. The draft fits the table, and the addresses up to n, as before.
pub record Wrote (k : ℕ) (w : Words) (t : ℕ → Bool) (old new : Desk) : Type 0 where
  pub same : SameBut k old new
  pub word : (p : ℕ) → new.table.word k p ≡ w p
  pub before : (p : ℕ) → word_before new.table k new.draft p ≡ word_before old.table k old.draft p
  pub spans : (p : ℕ) → in_spans new.draft.spans p ≡ (t p || in_spans old.draft.spans p)
  pub fits : (n : ℕ) → FitsTable old.table n k old.draft → FitsTable new.table n k new.draft

-- a write was refused: no word changed, and some of the places of t count as written
pub record Refused (k : ℕ) (t : ℕ → Bool) (old new : Desk) : Type 0 where
  pub touched : ℕ → Bool
  pub within : (p : ℕ) → touched p ≡ true → t p ≡ true
  pub wrote : Wrote k (old.table.word k) touched old new

-- segment k may write to a place without more ado: the page is its own, and the word as the step began with it is known
pub record MayWrite (k : ℕ) (at : Desk) (p : ℕ) : Type 0 where
  pub within : p < at.table.reserved
  pub own : at.table.own k (p / 512) ≡ true
  pub known : (noted at.draft.notes p ≡ true) ⊎ (in_extents (taken_since at.draft) p ≡ true)

-- the places of t are ready to be written, and no word changed
pub record Readied (k : ℕ) (t : ℕ → Bool) (old new : Desk) : Type 0 where
  pub wrote : Wrote k (old.table.word k) t old new
  pub may : (p : ℕ) → t p ≡ true → MayWrite k new p

-- ---- the steps of making ready

-- segment k's pages of a span are its own
abbrev pub OwnSpan : ℕ → ℕ → ℕ → Table → Type 0
OwnSpan k place n t = (p : ℕ) → in_span place n p ≡ true → t.own k (p / 512) ≡ true

-- some pages are a segment's own besides, and nothing else changed
pub record Opened (old new : Table) : Type 0 where
  pub same : new ≡ record old { own = new.own }
  pub own : (j q : ℕ) → old.own j q ≡ true → new.own j q ≡ true

-- a span was added, or stood there as the last
pub record Spanned (place n : ℕ) (old new : List Span) : Type 0 where
  pub more : List Span
  pub is : new ≡ old ++ more
  pub places : (p : ℕ) → in_spans new p ≡ (in_span place n p || in_spans old p)
  pub each : (i : ℕ) (x : Span) → i < length more → (get_or more i x).place + (get_or more i x).words ≤ place + n

abbrev pub note_of : Words → ℕ → ℕ → Note
note_of w place j = record { place = place + j; word = w (place + j) }

-- the words of a span from its first place on were noted, m of them
abbrev pub with_notes : Words → ℕ → ℕ → List Note → List Note
with_notes w place m xs = xs ++ listed m (note_of w place)

-- some of the words of a span were noted
pub record NotedSome (w : Words) (place n : ℕ) (old new : List Note) : Type 0 where
  pub count : ℕ
  pub within : count ≤ n
  pub is : new ≡ with_notes w place count old

-- ---- words that are put without more ado

-- segment k may put words into a span: its pages are the segment's own
pub record CanPut (k place n : ℕ) (t : Table) : Type 0 where
  pub within : place + n ≤ t.reserved
  pub own : OwnSpan k place n t

-- segment k has other words, and nothing else changed
abbrev pub with_words : ℕ → Words → Table → Table
with_words k w t = record t { word = put k w t.word }

-- n words from a place on are those of f from 0 on
abbrev pub laid : ℕ → ℕ → Words → Words → Words
laid place n f w = λ q. cond (in_span place n q) (f (q - place)) (w q)

-- n words from a place on are 0
abbrev pub cleared : ℕ → ℕ → Words → Words
cleared place n w = laid place n (λ j. 0) w

-- values stand in the words from a place on, two for each
abbrev pub put_values : ℕ → List Value → Words → Words
put_values p [] w = w
put_values p (v ∷ vs) w = put_values (p + 2) vs (put_value p v w)

-- the header of a record, but for its count
abbrev pub headed : ℕ → ℕ → ℕ → ℕ → Words → Words
headed a first body index w = put_word (2 * a) first (put_word (2 * a + 2) body (put_word (2 * a + 3) index w))

-- ---- records that are changed in place

-- the word of a record's count, and n words from a place on
abbrev pub with_count : ℕ → ℕ → ℕ → ℕ → Bool
with_count a place n p = in_span (2 * a + 1) 1 p || in_span place n p

-- the places that are written where a value is put in another's place, where so many are added, where values are cut
-- off, and where the pair of a number is dropped
abbrev pub set_places : Words → ℕ → ℕ → ℕ → Bool
set_places w a i = in_span (body_by w a + 2 * i) 2

abbrev pub push_places : Words → ℕ → ℕ → ℕ → Bool
push_places w a n = with_count a (body_by w a + 2 * count_by w a) (2 * n)

abbrev pub cut_places : ℕ → ℕ → Bool
cut_places a = in_span (2 * a + 1) 1

abbrev pub drop_places : Words → ℕ → ℕ → ℕ → Bool
drop_places w a k = with_count a (body_by w a + 4 * k) (2 * (count_by w a - 2) - 4 * k)

-- the words of a record with so many values at its end besides
abbrev pub pushed_words : Words → ℕ → List Value → Words
pushed_words w a vs = put_word (2 * a + 1) (count_by w a + length vs) (put_values (body_by w a + 2 * count_by w a) vs w)

-- and those of its first n values
abbrev pub cut_words : Words → ℕ → ℕ → Words
cut_words w a n = put_word (2 * a + 1) n w

-- ---- records that grow

-- the sizes of a record's body and of its index once the record has grown
abbrev pub next_body_size : Words → ℕ → ℕ
next_body_size w a = size_of (class_in (w (2 * a)) + 1)

abbrev pub next_index_size : Words → ℕ → ℕ
next_index_size w a = size_of (next_index (kind_by w a) (index_class_in (w (2 * a))))

-- the words of a record with its body in another place, of the next class, and its index in another, with nothing in it
abbrev pub grown_words : Words → ℕ → ℕ → ℕ → Words
grown_words w a body index =
    headed a (next_head (w (2 * a))) body index
    (cleared index (next_index_size w a) (copied (body_by w a) body (2 * count_by w a) w))

-- ---- new records

-- the words with a new record of these values and bytes at a, whose header's first word is `first`, whose body and
-- index stand at these places, and whose index has so many words, with nothing in them
abbrev pub filled_words : Words → ℕ → ℕ → ℕ → ℕ → ℕ → ℕ → List Value → List ℕ → Words
filled_words w a first n body index size vs bs =
    headed a first body index
    (put_word (2 * a + 1) n
    (cleared index size (laid body ((length bs + 7) / 8) (packed bs) (put_values body vs w))))

-- a header, a body and an index of these sizes have no place in common
pub record PartsApart (a body size index index_size : ℕ) : Type 0 where
  pub body_off_head : (p : ℕ) → in_span body size p ≡ true → in_head a p ≡ false
  pub index_off_head : (p : ℕ) → in_span index index_size p ≡ true → in_head a p ≡ false
  pub body_off_index : (p : ℕ) → in_span body size p ≡ true → in_span index index_size p ≡ false
