-- When a store's fields fit each other, and stand for a state that is sound.
-- What code and proofs say to each other: nothing public rests on it.
use Rattle.std.specs.Prelude.{◌≡◌, ℕ, zero, suc, ◌+◌, ◌*◌, ◌/◌, ◌<◌, ◌≤◌, Bool, true, false, ◌||◌, eqb, List, [], ◌∷◌, length, take, drop, get_or, Option, Some, None}
use Rattle.py_data.specs.Sight.{mem}
use Rattle.seg_store.specs.Store.{IsStore}
use Rattle.page_table.specs.Pages.{Table, limit, Lies}
use Rattle.page_table.specs.Lists.{Lists, table_of}
use Rattle.seg_marks.specs.Marks.{Marked, segments, granules}
use Rattle.paged_store.specs.declared.extent.Span.{Span}
use Rattle.paged_store.specs.declared.extent.Extent.{Extent}
use Rattle.paged_store.specs.declared.extent.Note.{Note}
use Rattle.paged_store.specs.declared.draft.Draft.{Draft}
use Rattle.paged_store.specs.Words.{Words}
use Rattle.paged_store.specs.State.{meaning_in}
use Rattle.paged_store.specs.Paged.{one_if, in_spans, in_extents, Drafted, taken_then, Paged, state_of, paged_by}
use Rattle.paged_store.specs.inner.Counted.{Counts, IsCounted}
use Rattle.paged_store.specs.inner.Indexed.{HasIndexes}
use Rattle.paged_store.specs.inner.Keyed.{IsKeyed}
use Rattle.paged_store.specs.inner.Sound.{Sound}

-- how many of these extents are of a class
abbrev pub of_class : ℕ → List Extent → ℕ
of_class c [] = 0
of_class c (x ∷ xs) = one_if (eqb c x.class) + of_class c xs

-- one of these notes tells of the place
abbrev pub noted : List Note → ℕ → Bool
noted [] p = false
noted (x ∷ xs) p = eqb p x.place || noted xs p

-- the records that a segment with that draft holds
abbrev pub held_by : Drafted → ℕ → Bool
held_by d a = mem a d.changed || mem a d.made

-- where it may have written
abbrev pub touched_by : Drafted → ℕ → Bool
touched_by d p = in_spans d.spans p || in_extents d.taken p

-- a draft of segment k fits the table, and the addresses up to n
pub record FitsTable (t : Table) (n k : ℕ) (d : Drafted) : Type 0 where
  pub spans : (i : ℕ) (x : Span) → i < length d.spans
      → (get_or d.spans i x).place + (get_or d.spans i x).words ≤ t.reserved
  pub taken : (i : ℕ) (x : Extent) → i < length d.taken → Lies (get_or d.taken i x).class (get_or d.taken i x).place
      t.reserved
  pub classes : (i : ℕ) (x : Extent) → i < length d.taken →
      (1 ≤ (get_or d.taken i x).class) × ((get_or d.taken i x).class ≤ 21)
  pub notes : (p : ℕ) → noted d.notes p ≡ true → (p < t.reserved) × (t.own k (p / 512) ≡ true)
  pub noted_touched : (p : ℕ) → noted d.notes p ≡ true → (in_spans d.spans p || in_extents d.taken p) ≡ true
  pub holds : (a : ℕ) → (mem a d.changed || mem a d.made) ≡ true → a < n
  pub spans_before : d.spans_before ≤ length d.spans
  pub taken_before : d.taken_before ≤ length d.taken
  pub made_before : d.made_before ≤ length d.made
  -- no record was made twice, before the open step began and since
  pub once : (a : ℕ) → mem a (take d.made_before d.made) ≡ true → mem a (drop d.made_before d.made) ≡ false

-- the sum of f at the numbers below n
abbrev pub sum_to : ℕ → (ℕ → ℕ) → ℕ
sum_to zero f = 0
sum_to (suc n) f = sum_to n f + f n

-- it is that segment
abbrev pub names : Option ℕ → ℕ → Bool
names None k = false
names (Some j) k = eqb j k

pub record Fits (p : Paged) : Type 0 where
  pub drafts : (k : ℕ) → FitsTable p.table (length p.present) k (p.drafts k)
  pub holders : (k a : ℕ) → names (p.holder a) k ≡ (mem a (p.drafts k).changed || mem a (p.drafts k).made)
  -- of each class no more extents are in hand and given back than there are
  pub counted : (c : ℕ) → sum_to p.table.segments (λ k. of_class c (p.drafts k).taken) + length (p.table.shelf c).spare
      ≤ (p.table.shelf c).total

-- how many extents a table and drafts count
abbrev pub counted_by : Table → (ℕ → Drafted) → Counts
counted_by t drafts = record {
  spare = λ c. length (t.shelf c).spare;
  total = λ c. (t.shelf c).total;
  now = λ k c. of_class c (drafts k).taken;
  before = λ k c. of_class c (taken_then (drafts k));
}

abbrev pub counts_of : Paged → Counts
counts_of p = counted_by p.table p.drafts

pub record Fine (p : Paged) : Type 0 where
  pub fits : Fits p
  pub counted : IsCounted (meaning_in (state_of p)) (counts_of p)
  pub keyed : ∥ IsKeyed (meaning_in (state_of p)) ∥₁
  pub indexed : HasIndexes (state_of p)
  pub sound : ∥ ((own : Words) × ((role : Words) × Sound own role (state_of p))) ∥₁
  pub known : ∥ IsStore p.table.reserved (meaning_in (state_of p)) ∥₁

-- there is a draft, and a row of marks, for each segment, and a granule for each address below half of the limit
pub record IsPaged (pages : Lists) (present : List Bool) (marks : Marked) (drafts : List Draft) : Type 0 where
  pub count : length drafts ≡ (table_of pages).segments
  pub rows : segments marks ≡ (table_of pages).segments
  pub addresses : granules marks ≡ length present
  pub bound : limit (table_of pages) ≡ 2 * granules marks
  pub fine : Fine (paged_by pages present marks drafts)
