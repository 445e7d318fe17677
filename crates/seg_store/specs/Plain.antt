-- What the store of maps means. States `docs/HEAP.md`, "The store of maps".
use Rattle.std.specs.Prelude.{ℕ, length, slice_get}
use Rattle.py_data.specs.Heap.{no_records}
use Rattle.seg_store.specs.declared.plain.PlainStore.{PlainStore}
use Rattle.seg_store.specs.Meaning.{Meaning, no_part}
use Rattle.seg_store.specs.inner.Tables.{meaning_in}

abbrev pub plain_meaning : PlainStore → Meaning
plain_meaning s = meaning_in (slice_get s.image.items) (slice_get s.hands.items) (length s.hands.items)

-- a new store of maps: no record, and nothing in any segment's hand
abbrev pub empty_meaning : ℕ → Meaning
empty_meaning n = record { image = no_records; part = λ k. no_part; segments = n; limit = 18_446_744_073_709_551_615 }
