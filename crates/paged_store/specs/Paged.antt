-- The fields of a paged store, and the state that they stand for. States `docs/HEAP.md`, "The paged store".
use Rattle.std.specs.Prelude.{ℕ, zero, suc, ◌+◌, ◌^◌, Bool, false, cond, ◌||◌, eqb, List, [], ◌∷◌, take, drop, get_or, slice_get, Option, Some, None}
use Rattle.py_data.specs.Collection.{places}
use Rattle.py_data.specs.Heap.{Marks}
use Rattle.py_data.specs.Sight.{mem}
use Rattle.page_table.specs.Pages.{Table, in_span, limit}
use Rattle.page_table.specs.Lists.{Lists, table_of}
use Rattle.seg_marks.specs.Marks.{Marked, marks_of, holders_of}
use Rattle.paged_store.specs.declared.extent.Span.{Span}
use Rattle.paged_store.specs.declared.extent.Extent.{Extent}
use Rattle.paged_store.specs.declared.extent.Note.{Note}
use Rattle.paged_store.specs.declared.draft.Draft.{Draft}
use Rattle.paged_store.specs.Words.{Words}
use Rattle.paged_store.specs.State.{Hand, State}

-- ---- lists of spans, extents and notes

abbrev pub in_spans : List Span → ℕ → Bool
in_spans [] p = false
in_spans (x ∷ xs) p = in_span x.place x.words p || in_spans xs p

abbrev pub in_extent : Extent → ℕ → Bool
in_extent x p = in_span x.place (2 ^ x.class) p

abbrev pub one_if : Bool → ℕ
one_if b = cond b 1 0

-- how many of these extents have the place
abbrev pub extents_at : List Extent → ℕ → ℕ
extents_at [] p = 0
extents_at (x ∷ xs) p = one_if (in_extent x p) + extents_at xs p

abbrev pub in_extents : List Extent → ℕ → Bool
in_extents [] p = false
in_extents (x ∷ xs) p = in_extent x p || in_extents xs p

-- the words before all writes that the notes tell of: of each place the first note decides
abbrev pub rewound : List Note → Words → Words
rewound [] w = w
rewound (x ∷ xs) w = λ p. cond (eqb p x.place) x.word (rewound xs w p)

-- how many of the extents of n words from these places on have the place
abbrev pub spare_in : ℕ → List ℕ → ℕ → ℕ
spare_in n [] p = 0
spare_in n (x ∷ xs) p = one_if (in_span x n p) + spare_in n xs p

-- of the classes from c on, k of them, how many of the extents that were given back have the place
abbrev pub spare_from : ℕ → ℕ → Table → ℕ → ℕ
spare_from zero c t p = 0
spare_from (suc k) c t p = spare_in (2 ^ c) (t.shelf c).spare p + spare_from k (c + 1) t p

abbrev pub spare_at : Table → ℕ → ℕ
spare_at t p = spare_from 21 1 t p

-- ---- drafts

-- what a segment's transaction has in hand, as lists
pub record Drafted : Type 0 where
  pub changed : List ℕ
  pub made : List ℕ
  pub spans : List Span
  pub taken : List Extent
  pub notes : List Note
  pub spans_before : ℕ
  pub taken_before : ℕ
  pub made_before : ℕ

abbrev pub no_draft : Drafted
no_draft = record {
  changed = [];
  made = [];
  spans = [];
  taken = [];
  notes = [];
  spans_before = 0;
  taken_before = 0;
  made_before = 0;
}

unfoldable pub drafted : Draft → Drafted
drafted d = record {
  changed = places d.changed;
  made = places d.made;
  spans = d.spans.items;
  taken = d.taken.items;
  notes = d.notes.items;
  spans_before = d.spans_before;
  taken_before = d.taken_before;
  made_before = d.made_before;
}

abbrev pub drafted_in : Option Draft → Drafted
drafted_in None = no_draft
drafted_in (Some d) = drafted d

-- ---- a segment's hands

abbrev pub taken_then : Drafted → List Extent
taken_then d = take d.taken_before d.taken

-- the extents that the open step took
abbrev pub taken_since : Drafted → List Extent
taken_since d = drop d.taken_before d.taken

-- a segment's words as its open step began with them
abbrev pub word_before : Table → ℕ → Drafted → Words
word_before t k d p = cond (in_extents (taken_since d) p) (t.shared p) (rewound d.notes (t.word k) p)

abbrev pub hand_now : Table → ℕ → Drafted → Hand
hand_now t k d = record {
  word = t.word k;
  holds = λ a. mem a d.changed || mem a d.made;
  touched = λ p. in_spans d.spans p || in_extents d.taken p;
  taken = extents_at d.taken;
}

abbrev pub hand_before : Table → ℕ → Drafted → Hand
hand_before t k d = record {
  word = word_before t k d;
  holds = λ a. mem a d.changed || mem a (take d.made_before d.made);
  touched = λ p. in_spans (take d.spans_before d.spans) p || in_extents (taken_then d) p;
  taken = extents_at (taken_then d);
}

-- ---- the fields

-- Of each address whether the image has a record there, and the segment that holds it; and of each segment what it
-- looked at, and its draft.
pub record Paged : Type 0 where
  pub table : Table
  pub present : List Bool
  pub holder : ℕ → Option ℕ
  pub looked : ℕ → Marks
  pub drafts : ℕ → Drafted

unfoldable pub state_of : Paged → State
state_of p = record {
  shared = p.table.shared;
  image = λ a. get_or p.present a false;
  now = λ k. hand_now p.table k (p.drafts k);
  before = λ k. hand_before p.table k (p.drafts k);
  changed = λ k. (p.drafts k).changed;
  made = λ k. (p.drafts k).made;
  kept_made = λ k. take (p.drafts k).made_before (p.drafts k).made;
  looked = p.looked;
  spare = spare_at p.table;
  reserved = p.table.reserved;
  segments = p.table.segments;
  limit = limit p.table;
}

-- ---- a store's fields in memory

abbrev pub paged_by : Lists → List Bool → Marked → List Draft → Paged
paged_by pages present marks drafts = record {
  table = table_of pages;
  present = present;
  holder = holders_of marks;
  looked = marks_of marks;
  drafts = λ k. drafted_in (slice_get drafts k);
}
