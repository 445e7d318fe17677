-- What code and proofs say to each other: nothing public rests on it.
-- What comes of a transaction that was taken out of its hand, where the changes of a piece are made again in the store.
-- States `docs/HEAP.md`, "Pieces".
use Rattle.std.specs.Prelude.{◌≡◌, ℕ, ◌+◌, true, false, List, length, Option, Some}
use Rattle.py_data.specs.declared.value.Addr.{Addr}
use Rattle.py_data.specs.declared.change.Change.{Change}
use Rattle.seg_store.specs.Meaning.{Meaning}
use Rattle.seg_store.specs.Calls.{after_open}
use Rattle.stm_pieces.specs.Ends.{last_of}
use Rattle.stm_segment.specs.declared.cause.Cause.TheVariants.{OutOfMemory}
use Rattle.stm_segment.specs.declared.books.Work.{Work}
use Rattle.stm_segment.specs.declared.books.Books.{Books}
use Rattle.stm_segment.specs.CoreState.{first_cause}
use Rattle.stm_core.specs.Advanced.{with_cause}
use Rattle.stm_core.specs.Solo.{up_to_whole}
use Rattle.stm_segment.specs.Books.{Worlds, transaction, core_of}
use Rattle.stm_core.specs.inner.Trying.{core_with}
use Rattle.stm_core.specs.inner.Replayed.{replayed}

-- the same work, n steps further; if there is a last state, they led to it
abbrev pub further : {S : Type 0} → ℕ → Option S → Work S → Work S
further n last x = record x { steps = x.steps + n; state = last_of x.state last }

-- The changes were made in a step of the store, and the transaction was put back, n steps further.
pub record HasPutIn {S : Type 0} (k : ℕ) (edits : List (Addr × Change)) (n : ℕ) (last : Option S) (m : Meaning)
    (b : Books S) (x : Work S) (m1 : Meaning) (b1 : Books S) : Type 0 where
  pub cause : b1.cause ≡ b.cause
  pub broken : b1.broken ≡ b.broken
  pub store : m1 ≡ replayed k edits (after_open k m)
  pub core : (w : Worlds) → core_of w m1 b1 ≡ core_with w k m1 b (further n last x)

-- There was no memory, and that cause is kept: the transaction is dropped, or, where it is solo, committed up to its
-- last whole step.
pub record HasFailed {S : Type 0} (k : ℕ) (m : Meaning) (b : Books S) (x : Work S) (m1 : Meaning)
    (b1 : Books S) : Type 0 where
  pub cause : b1.cause ≡ first_cause b.cause OutOfMemory
  pub mortal : x.solo ≡ false → (b1.broken ≡ b.broken) ×
      ((w : Worlds) → core_of w m1 b1 ≡ with_cause OutOfMemory (core_of w m b))
  pub solo : x.solo ≡ true → (b1.broken ≡ Some (record { thread = x.thread; turns = length b1.history.entries })) ×
      ((w : Worlds) → (w1 : Worlds) × (core_of w1 m1 b1 ≡ with_cause OutOfMemory
      (up_to_whole k m.segments (transaction w.own (m.part k) x) x.steps (core_with w k m b x))))
