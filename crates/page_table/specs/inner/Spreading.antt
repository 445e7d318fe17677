-- How the pages of several segments take words from below. What code and proofs say to each other; nothing public rests
-- on it.
use Rattle.std.specs.Prelude.{◌≡◌, ◌≢◌, ℕ, ◌<◌, ◌≤◌, List, length, Option}
use Rattle.page_table.specs.Pages.{over}
use Rattle.page_table.specs.Lists.{sheet_at, word_over, has_page}

-- a segment has the words of a span over the words f already
pub record HasWords (k place n : ℕ) (f : ℕ → ℕ) (sheets : List (List (Option (List ℕ)))) : Type 0 where
  pub words : over place n f (word_over (sheet_at sheets k) f) ≡ word_over (sheet_at sheets k) f

-- segment i has the words of a span
pub record Restored (i place n : ℕ) (f : ℕ → ℕ) (old new : List (List (Option (List ℕ)))) : Type 0 where
  pub count : length new ≡ length old
  pub here : word_over (sheet_at new i) f ≡ over place n f (word_over (sheet_at old i) f)
  pub others : (k : ℕ) → k ≢ i → sheet_at new k ≡ sheet_at old k
  pub own : (k : ℕ) → has_page (sheet_at new k) ≡ has_page (sheet_at old k)

-- the first i segments have the words of a span
pub record Spread (i place n : ℕ) (f : ℕ → ℕ) (old new : List (List (Option (List ℕ)))) : Type 0 where
  pub count : length new ≡ length old
  pub below : (k : ℕ) → k < i → word_over (sheet_at new k) f ≡ over place n f (word_over (sheet_at old k) f)
  pub above : (k : ℕ) → i ≤ k → sheet_at new k ≡ sheet_at old k
  pub own : (k : ℕ) → has_page (sheet_at new k) ≡ has_page (sheet_at old k)
