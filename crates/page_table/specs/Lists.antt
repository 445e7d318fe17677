-- Pages as they lie in memory, and the table that they mean. States `docs/HEAP.md`, "Pages".
use Rattle.std.specs.Prelude.{◌≡◌, ℕ, ◌+◌, ◌<◌, ◌/◌, ◌%◌, Bool, List, [], length, get_or, Option, Some, None, is_some}
use Rattle.page_table.specs.Pages.{Table, Shelf, no_shelf}

-- the pages of a segment's own: by number, the words of a page, or none
abbrev pub Sheet : Type 0
Sheet = ℕ → Option (List ℕ)

pub record Lists : Type 0 where
  pub shared : List ℕ
  -- by segment and by number, the words of a page, or none
  pub sheets : List (List (Option (List ℕ)))
  -- by class
  pub shelves : List Shelf
  pub pages : ℕ

abbrev pub lists : List ℕ → List (List (Option (List ℕ))) → List Shelf → ℕ → Lists
lists shared sheets shelves pages = record { shared = shared; sheets = sheets; shelves = shelves; pages = pages }

-- the word at a place of a list, 0 past its end
unfoldable pub word_at : List ℕ → ℕ → ℕ
word_at ws p = get_or ws p 0

-- a list of pages as a sheet
unfoldable pub sheet_in : List (Option (List ℕ)) → Sheet
sheet_in pages q = get_or pages q None

-- a word of a page, or the word below where there is none
abbrev pub word_in : Option (List ℕ) → ℕ → ℕ → ℕ
word_in None i below = below
word_in (Some ws) i below = word_at ws i

-- the word at a place over the words below
unfoldable pub word_over : Sheet → (ℕ → ℕ) → ℕ → ℕ
word_over sheet below p = word_in (sheet (p / 512)) (p % 512) (below p)

-- a list has the n words from a place on
pub record IsRun (f : ℕ → ℕ) (place n : ℕ) (ws : List ℕ) : Type 0 where
  pub count : length ws ≡ n
  pub each : (i : ℕ) → i < n → word_at ws i ≡ f (place + i)

unfoldable pub has_page : Sheet → ℕ → Bool
has_page sheet q = is_some (sheet q)

abbrev pub sheet_at : List (List (Option (List ℕ))) → ℕ → Sheet
sheet_at sheets k = sheet_in (get_or sheets k [])

abbrev pub shelf_at : List Shelf → ℕ → Shelf
shelf_at shelves c = get_or shelves c no_shelf

-- the table that pages mean
abbrev pub table_of : Lists → Table
table_of s = record {
  shared = word_at s.shared;
  word = λ k. word_over (sheet_at s.sheets k) (word_at s.shared);
  own = λ k. has_page (sheet_at s.sheets k);
  shelf = shelf_at s.shelves;
  reserved = length s.shared;
  pages = s.pages;
  segments = length s.sheets;
}
