-- What a core loans, which piece fits a segment, and what installing it leaves. States `docs/HEAP.md`, "Pieces".
use Rattle.std.specs.Prelude.{◌≡◌, ℕ, ◌+◌, ◌<◌, ◌≤◌, true, List, length, Some, None, Result, Ok, Err, All}
use Rattle.std.specs.declared.alloc.AllocError.{AllocError}
use Rattle.py_data.specs.Heap.{Rec, Heap, Marks, is_tracked}
use Rattle.py_data.specs.Sense.{IsPart}
use Rattle.lock_run.specs.declared.client.Life.TheVariants.{Lives}
use Rattle.lock_run.specs.Prog.{Prog}
use Rattle.seg_store.specs.Meaning.{overlay}
use Rattle.stm_pieces.specs.declared.loan.Loan.{Loan}
use Rattle.stm_pieces.specs.PieceOf.{piece_state}
use Rattle.stm_core.specs.declared.answers.LoanError.{LoanError}
use Rattle.stm_core.specs.declared.answers.LoanError.TheVariants.{Lost, OutOfMemory}
use Rattle.stm_segment.specs.declared.cause.Cause.TheVariants.{OutOfMemory as NoMemoryLeft}
use Rattle.stm_segment.specs.CoreState.{Transaction, Segment, Idle, Doomed, Running, owned, with_segment}
use Rattle.stm_core.specs.Moves.{Move, Goes, Follows}
use Rattle.stm_core.specs.Outside.{Outer}
use Rattle.stm_core.specs.Advanced.{Fails}

-- ---- loans

-- Records of what a transaction sees: each tracked one was looked at, and those that are said to be locked are held.
pub record IsLoan {S : Type 0} (image : Heap) (x : Transaction S) (g : Heap) (locked : Marks) : Type 0 where
  pub part : IsPart g (overlay image x.changes)
  pub looked : (a : ℕ) (r : Rec) → g a ≡ Some r → is_tracked r.kind ≡ true → x.looked a ≡ true
  pub held : (a : ℕ) → locked a ≡ true → owned x a ≡ true

-- A segment may be asked for a loan: it is doomed, or its transaction has done fewer steps than the length and its
-- thread lives.
abbrev pub MayLoan : {S : Type 0} → Prog S → ℕ → Segment S → Type 0
MayLoan p length Idle = ⊥
MayLoan p length (Doomed f) = Unit {0}
MayLoan p length (Running x) = (x.steps < length) × (p.life x.state ≡ Lives)

-- The loan l of the transaction of segment k, whose steps may be at most so many: the rest of these are the loan's, and
-- its thread, its state and its records are those of the transaction. Nothing changes.
pub record IsLent {S : Type 0} (p : Prog S) (length k : ℕ) (l : Loan S) (o o1 : Outer S) : Type 0 where
  pub x : Transaction S
  pub runs : o.core.segments k ≡ Running x
  pub same : o1 ≡ o
  pub thread : l.thread ≡ x.thread
  pub state : l.state ≡ x.state
  pub most : l.most + x.steps ≡ length
  pub loan : IsLoan o.core.image x (piece_state l.view).loaned (piece_state l.view).locked

-- what a call answers that asks segment k for a loan, and what it leaves: a doomed segment is told its conflict, and
-- has nothing in hand then; want of memory is one of a transaction that runs, and leaves all as it is
abbrev pub IsLoaned : {S : Type 0} → Prog S → ℕ → ℕ → Result (Loan S) LoanError → Outer S → Outer S → Type 0
IsLoaned p length k (Ok l) o o1 = IsLent p length k l o o1
IsLoaned p length k (Err (Lost f)) o o1 =
    (o.core.segments k ≡ Doomed f) × (o1 ≡ record o { core = with_segment k Idle o.core })
IsLoaned {S} p length k (Err OutOfMemory) o o1 =
    (x : Transaction S) × (o.core.segments k ≡ Running x) × (o1 ≡ o)

-- ---- which piece fits

-- A piece of n steps fits the transaction x: it begins with the state of x and with records of what x sees, and its
-- steps are within the length.
pub record Fits {S : Type 0} (most : ℕ) (image : Heap) (x : Transaction S) (q : S) (g : Heap) (locked : Marks)
    (n : ℕ) : Type 0 where
  pub state : x.state ≡ q
  pub loan : IsLoan image x g locked
  pub short : x.steps + n ≤ most

-- it fits a segment: its transaction runs, and the piece fits that
abbrev pub FitsSegment : {S : Type 0} → ℕ → Heap → Segment S → S → Heap → Marks → ℕ → Type 0
FitsSegment most image Idle q g locked n = ⊥
FitsSegment most image (Doomed f) q g locked n = ⊥
FitsSegment most image (Running x) q g locked n = Fits most image x q g locked n

-- ---- what installing it leaves

-- a step of segment k
abbrev pub IsOwnStep : {S : Type 0} → ℕ → Move S → Type 0
IsOwnStep k (Goes i x x1) = i ≡ k
IsOwnStep k _ = ⊥

-- The transaction x with n steps more, which led to the state q1 and, of the loaned records g, to g1. Other records are
-- as x sees them, and nothing else changed.
pub record Installed {S : Type 0} (image : Heap) (x : Transaction S) (g g1 : Heap) (n : ℕ) (q1 : S)
    (x1 : Transaction S) : Type 0 where
  pub thread : x1.thread ≡ x.thread
  pub steps : x1.steps ≡ x.steps + n
  pub state : x1.state ≡ q1
  pub changed : x1.changed ≡ x.changed
  pub made : x1.made ≡ x.made
  pub started : x1.started ≡ x.started
  pub looked : x1.looked ≡ x.looked
  pub begun : x1.begun ≡ x.begun
  pub solo : x1.solo ≡ x.solo
  pub world : x1.world ≡ x.world
  pub records : IsPart g1 (overlay image x1.changes)
  pub others : (a : ℕ) → g a ≡ None → overlay image x1.changes a ≡ overlay image x.changes a

-- A piece of n steps was installed: so many moves of the segment k lead to the core in which its transaction has the
-- piece's steps, state and records, and of what lies outside of the core nothing changed.
pub record HasInstalled {S : Type 0} (p : Prog S) (most k : ℕ) (g g1 : Heap) (n : ℕ) (q1 : S)
    (o o1 : Outer S) : Type 0 where
  pub x : Transaction S
  pub after : Transaction S
  pub runs : o.core.segments k ≡ Running x
  pub moves : List (Move S)
  pub follows : Follows p most o.core moves o1.core
  pub own : All (IsOwnStep k) moves
  pub count : length moves ≡ n
  pub installed : Installed o.core.image x g g1 n q1 after
  pub is : o1 ≡ record o { core = with_segment k (Running after) o.core }

-- there was no memory: the transaction of segment k of n failed for that cause
pub record IsGivenUp {S : Type 0} (p : Prog S) (k n reserved limit : ℕ) (o o1 : Outer S) : Type 0 where
  pub x : Transaction S
  pub runs : o.core.segments k ≡ Running x
  pub fails : Fails x.solo p k n reserved limit NoMemoryLeft o x o1

-- what a call answers that installs a piece of m steps in segment k of n, and what it leaves
abbrev pub IsInstalled : {S : Type 0} → Prog S → ℕ → ℕ → ℕ → ℕ → ℕ → Heap → Heap → ℕ → S → Result ℕ AllocError →
    Outer S → Outer S → Type 0
IsInstalled p most k n reserved limit g g1 m q1 (Ok i) o o1 = (i ≡ m) × HasInstalled p most k g g1 m q1 o o1
IsInstalled p most k n reserved limit g g1 m q1 (Err e) o o1 = IsGivenUp p k n reserved limit o o1
