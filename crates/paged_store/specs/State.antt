-- What the fields of a paged store say, as functions of a place, an address or a segment, and the records that they
-- stand for. States `docs/HEAP.md`, "The paged store".
use Rattle.std.specs.Prelude.{ℕ, Bool, cond, List, Some, None}
use Rattle.py_data.specs.Heap.{Heap, Marks}
use Rattle.seg_store.specs.Meaning.{Part, Meaning}
use Rattle.paged_store.specs.Words.{Words, decode}

-- A segment's words, with the records that it holds. The places that it may have written are touched; all others have
-- the shared words. Of each place, how many of the extents that it took since its transaction began have it.
pub record Hand : Type 0 where
  pub word : Words
  pub holds : ℕ → Bool
  pub touched : ℕ → Bool
  pub taken : ℕ → ℕ

pub record State : Type 0 where
  pub shared : Words
  pub image : ℕ → Bool  -- the addresses of the image's records
  pub now : ℕ → Hand  -- of each segment, its hand
  pub before : ℕ → Hand  -- and its hand as its open step began with it
  pub changed : ℕ → List ℕ
  pub made : ℕ → List ℕ
  pub kept_made : ℕ → List ℕ
  pub looked : ℕ → Marks
  pub spare : ℕ → ℕ  -- of each place, how many of the extents that were given back have it
  pub reserved : ℕ
  pub segments : ℕ
  pub limit : ℕ

-- ---- what a state means

abbrev pub heap_of : (ℕ → Bool) → Words → Heap
heap_of there w = λ a. cond (there a) (Some (decode w a)) None

abbrev pub part_in : State → ℕ → Part
part_in s k = record {
  changes = heap_of (s.now k).holds (s.now k).word;
  changed = s.changed k;
  made = s.made k;
  looked = s.looked k;
  kept = heap_of (s.before k).holds (s.before k).word;
  kept_made = s.kept_made k;
}

unfoldable pub meaning_in : State → Meaning
meaning_in s = record { image = heap_of s.image s.shared; part = part_in s; segments = s.segments; limit = s.limit }
