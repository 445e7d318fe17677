-- What a piece view keeps of its loan and of its changes. States `docs/HEAP.md`, "The piece view".
use Rattle.std.specs.Prelude.{ℕ, List, take, Option}
use Rattle.std.specs.Ordering.{nat_cmp}
use Rattle.std.specs.BTreeMap as tree
use Rattle.py_data.specs.declared.value.Addr.{Addr}
use Rattle.py_data.specs.declared.change.Change.{Change}
use Rattle.py_data.specs.Heap.{Heap, Marks}
use Rattle.lock_run.specs.Space.{space_heap, space_base}
use Rattle.stm_pieces.specs.declared.lent.OnTerms.{OnTerms}
use Rattle.stm_pieces.specs.declared.lent.Lent.{Lent}
use Rattle.stm_pieces.specs.declared.noted.Noted.{Noted}
use Rattle.stm_pieces.specs.Terms.{loaned_in, most_in, locked_in, laid_over}

-- the records and their terms
abbrev pub terms_of : Lent → ℕ → Option OnTerms
terms_of l = tree.get nat_cmp l.loaned

-- the records as they were loaned
abbrev pub lent_loaned : Lent → Heap
lent_loaned l = λ a. loaned_in (terms_of l a)

-- the records as they stand
abbrev pub lent_heap : Lent → Heap
lent_heap l = laid_over (space_heap l.changed) (lent_loaned l)

-- the records as they stood when the step was opened
abbrev pub lent_base : Lent → Heap
lent_base l = laid_over (space_base l.changed) (lent_loaned l)

-- how many values each may have
abbrev pub lent_most : Lent → ℕ → ℕ
lent_most l = λ a. most_in (terms_of l a)

-- which may be changed
abbrev pub lent_locked : Lent → Marks
lent_locked l = λ a. locked_in (terms_of l a)

-- the changes that were made
abbrev pub all_edits : Noted → List (Addr × Change)
all_edits n = n.all.items

-- the changes that had been made when the step was opened
abbrev pub kept_edits : Noted → List (Addr × Change)
kept_edits n = take n.kept n.all.items
