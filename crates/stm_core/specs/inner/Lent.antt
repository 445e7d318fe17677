-- What code and proofs say to each other: nothing public rests on it.
-- What is loaned of what a segment of a store sees. States `docs/HEAP.md`, "Pieces".
use Rattle.std.specs.Prelude.{◌≡◌, ℕ, ◌+◌, ◌≤◌, true, List, Some, slice_get}
use Rattle.py_data.specs.Heap.{Rec, Heap, Has, at, Marks, is_tracked}
use Rattle.py_data.specs.Sense.{IsPart}
use Rattle.seg_store.specs.Meaning.{Meaning, sees, holds}
use Rattle.stm_pieces.specs.declared.loan.Loan.{Loan}
use Rattle.stm_pieces.specs.PieceOf.{piece_state}
use Rattle.stm_segment.specs.declared.books.Work.{Work}
use Rattle.stm_segment.specs.declared.books.Hand.{Hand}
use Rattle.stm_segment.specs.declared.books.Hand.TheVariants.{Runs}

-- Records of what segment k sees: each tracked one was looked at, and those that are said to be locked are held.
pub record AreLent (m : Meaning) (k : ℕ) (g : Heap) (locked : Marks) : Type 0 where
  pub part : IsPart g (sees m k)
  pub looked : (a : ℕ) (r : Rec) → g a ≡ Some r → is_tracked r.kind ≡ true → (m.part k).looked a ≡ true
  pub held : (a : ℕ) → locked a ≡ true → holds (m.part k) a ≡ true

-- what is loaned at one address is such a record, if one is loaned there
pub record IsLentAt (m : Meaning) (k : ℕ) (g : Heap) (locked : Marks) (a : ℕ) : Type 0 where
  pub part : (r : Rec) → g a ≡ Some r → sees m k a ≡ Some r
  pub looked : (r : Rec) → g a ≡ Some r → is_tracked r.kind ≡ true → (m.part k).looked a ≡ true
  pub held : locked a ≡ true → holds (m.part k) a ≡ true

-- a record that may be loaned: it is there, and it is fixed or was looked at
pub record MayLend (m : Meaning) (k a : ℕ) : Type 0 where
  pub there : Has (sees m k) a
  pub looked : is_tracked (at (sees m k) a).kind ≡ true → (m.part k).looked a ≡ true

-- from the loan l to the loan l1 only records came to it
pub record Lends {S : Type 0} (m : Meaning) (k : ℕ) (l l1 : Loan S) : Type 0 where
  pub lent : AreLent m k (piece_state l1.view).loaned (piece_state l1.view).locked
  pub thread : l1.thread ≡ l.thread
  pub state : l1.state ≡ l.state
  pub most : l1.most ≡ l.most

-- a loan of this work in hand, for the steps that it still has
pub record IsLoanOf {S : Type 0} (m : Meaning) (k length : ℕ) (x : Work S) (l : Loan S) : Type 0 where
  pub lent : AreLent m k (piece_state l.view).loaned (piece_state l.view).locked
  pub thread : l.thread ≡ x.thread
  pub state : l.state ≡ x.state
  pub most : l.most + x.steps ≡ length

-- a loan of the work that is in hand there
pub record IsLoanFrom {S : Type 0} (m : Meaning) (k length : ℕ) (hands : List (Hand S)) (l : Loan S) : Type 0 where
  pub work : Work S
  pub is : slice_get hands k ≡ Some (Runs work)
  pub loan : IsLoanOf m k length work l

-- a piece of n steps that begins with the state q and the records g fits this work
pub record FitsWork {S : Type 0} (m : Meaning) (k length : ℕ) (x : Work S) (q : S) (g : Heap) (locked : Marks)
    (n : ℕ) : Type 0 where
  pub state : x.state ≡ q
  pub lent : AreLent m k g locked
  pub short : x.steps + n ≤ length
