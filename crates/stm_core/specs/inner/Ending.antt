-- What code and proofs say to each other: nothing public rests on it.
-- A core from which a transaction was taken out of its hand to be put back, committed or dropped, and what a call
-- leaves in which it was.
-- States `docs/HEAP.md`, "The transactional core".
use Rattle.std.specs.Prelude.{◌≡◌, ℕ, ◌<◌, Option, Some, length, slice_get}
use Rattle.seg_store.specs.Meaning.{Meaning}
use Rattle.stm_segment.specs.declared.books.Hand.TheVariants.{Idle}
use Rattle.stm_segment.specs.declared.books.Work.{Work}
use Rattle.stm_core.specs.declared.transactions.Core.{Core}
use Rattle.stm_core.specs.Begun.{CountsSteps}
use Rattle.stm_segment.specs.Books.{Fit}
use Rattle.stm_core.specs.inner.Whole.{Whole, SameShape}

-- steps change store, books and devices alone
abbrev pub StepsLeave : {C S I O E T : Type 0} → Core C S I O E T → Core C S I O E T → Type 0
StepsLeave c c1 = c1 ≡ record c { store = c1.store; books = c1.books; devices = c1.devices }

module _ {C S I O E T : Type 0} (meaning : S → Meaning) where
  -- The transaction x is out of the hand of segment k, its thread is one of the books', and the steps of the turns are
  -- counted.
  pub record MayEnd (k : ℕ) (x : Work T) (c : Core C S I O E T) : Type 0 where
    pub fit : Fit k (meaning c.store) c.books x.progress
    pub idle : slice_get c.books.hands.items k ≡ Some Idle
    pub thread : x.thread < length c.books.threads.entries
    pub count : CountsSteps c.spent c.books.history.entries

  -- The transaction is in its hand again, or was committed or dropped: the job and the devices stay, and what of the
  -- store callers are told, and store and books fit together.
  pub record HasEnded (taken : S → ℕ) (told : S → Option (ℕ → ℕ)) (c c1 : Core C S I O E T) : Type 0 where
    pub rest : c1 ≡ record c { store = c1.store; books = c1.books; spent = c1.spent }
    pub whole : Whole (meaning c1.store) c1.books
    pub count : CountsSteps c1.spent c1.books.history.entries
    pub shape : SameShape (meaning c.store) (meaning c1.store)
    pub reserved : taken c1.store ≡ taken c.store
    pub peaks : told c1.store ≡ told c.store
