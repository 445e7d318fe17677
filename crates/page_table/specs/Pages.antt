-- A table of pages: words that segments share, each segment's own words over them, and extents by class; and what each
-- call that changes words leaves.
-- States `docs/HEAP.md`, "Pages".
use Rattle.std.specs.Prelude.{◌≡◌, ℕ, ◌+◌, ◌*◌, ◌/◌, ◌%◌, ◌^◌, ◌<◌, ◌≤◌, Bool, true, false, cond, ◌&&◌, eqb, ltb, leb, List, [], length, get_or}
use Rattle.seg_store.specs.Extents.{words_in}

-- f, but x at n
abbrev pub put : {A : Type 0} → ℕ → A → (ℕ → A) → ℕ → A
put n x f m = cond (eqb m n) x (f m)

-- a place is one of the n from `place` on
abbrev pub in_span : ℕ → ℕ → ℕ → Bool
in_span place n p = leb place p && ltb p (place + n)

-- g, but f at the n places from `place` on
abbrev pub over : ℕ → ℕ → (ℕ → ℕ) → (ℕ → ℕ) → ℕ → ℕ
over place n f g p = cond (in_span place n p) (f p) (g p)

-- the extents of one class: the places of those that were given back and not taken again, and how many were ever new
pub record Shelf : Type 0 where
  pub spare : List ℕ
  pub total : ℕ

pub record Table : Type 0 where
  -- the shared word at a place
  pub shared : ℕ → ℕ
  -- the word of a segment at a place
  pub word : ℕ → ℕ → ℕ
  -- a segment has a page of its own
  pub own : ℕ → ℕ → Bool
  -- the extents by class
  pub shelf : ℕ → Shelf
  -- the end of the words that were taken
  pub reserved : ℕ
  pub pages : ℕ
  pub segments : ℕ

-- a page has 512 words
abbrev pub limit : Table → ℕ
limit t = 512 * t.pages

abbrev pub no_shelf : Shelf
no_shelf = record { spare = []; total = 0 }

-- all words are 0, and the first two are taken
abbrev pub new_table : ℕ → ℕ → Table
new_table segments pages = record {
  shared = λ p. 0;
  word = λ k p. 0;
  own = λ k q. false;
  shelf = λ c. no_shelf;
  reserved = 2;
  pages = pages;
  segments = segments;
}

-- segment k has the page as its own
abbrev pub after_open : ℕ → ℕ → Table → Table
after_open k page t = record t { own = put k (put page true (t.own k)) t.own }

-- segment k has the word w at a place
abbrev pub after_write : ℕ → ℕ → ℕ → Table → Table
after_write k place w t = record t { word = put k (put place w (t.word k)) t.word }

-- the words of segment k in a span are the shared ones, and every segment's
abbrev pub after_push : ℕ → ℕ → ℕ → Table → Table
after_push k place n t =
    record t { shared = over place n (t.word k) t.shared; word = λ j. over place n (t.word k) (t.word j) }

-- the shared words of a span are segment k's
abbrev pub after_restore : ℕ → ℕ → ℕ → Table → Table
after_restore k place n t = record t { word = put k (over place n t.shared (t.word k)) t.word }

-- an extent of class c may stand at p: behind the first two words, at an even place, and before the end
pub record Lies (c p end : ℕ) : Type 0 where
  pub first : 2 ≤ p
  pub even : p % 2 ≡ 0
  pub within : p + 2 ^ c ≤ end

-- What always holds of a table.
pub record IsTable (t : Table) : Type 0 where
  pub some_segments : 1 ≤ t.segments
  pub most_segments : t.segments ≤ 8
  pub some_pages : 1 ≤ t.pages
  pub most_pages : t.pages ≤ 65536
  pub first : 2 ≤ t.reserved
  pub even : t.reserved % 2 ≡ 0
  pub within : t.reserved ≤ limit t
  -- a segment has the shared word where the page isn't its own
  pub shared : (k p : ℕ) → t.own k (p / 512) ≡ false → t.word k p ≡ t.shared p
  -- the words that were not taken yet are 0
  pub blank_shared : (p : ℕ) → t.reserved ≤ p → t.shared p ≡ 0
  pub blank_word : (k p : ℕ) → t.reserved ≤ p → t.word k p ≡ 0
  -- each word but the first two was taken with an extent that was new then
  pub filled : t.reserved ≡ 2 + words_in (λ c. (t.shelf c).total)
  pub back : (c : ℕ) → length (t.shelf c).spare ≤ (t.shelf c).total
  -- what was given back lies in the words that were taken
  pub spare : (c i : ℕ) → i < length (t.shelf c).spare → Lies c (get_or (t.shelf c).spare i 0) t.reserved
