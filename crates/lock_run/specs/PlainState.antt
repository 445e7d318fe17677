-- What a plain view holds, as values, and what each of its calls does to it. States `docs/HEAP.md`, "The plain view".
use Rattle.std.specs.Prelude.{◌≡◌, ◌⊎◌, ℕ, ◌≤◌, List, [], ◌∷◌, ◌++◌, Option, Some, None, Bool, true, false, length, take, is_some}
use Rattle.py_data.specs.declared.stop.Out.TheVariants.{Output, ErrorOutput}
use Rattle.py_data.specs.declared.stop.Stop.{Stop}
use Rattle.py_data.specs.declared.stop.Stop.TheVariants.{ReadFault, WriteFault, ErrFault, OutOfMemory}
use Rattle.py_data.specs.declared.change.Change.{Change}
use Rattle.py_data.specs.Changes.{after, Allows}
use Rattle.py_data.specs.Heap.{Heap, Rec, put_at}
use Rattle.py_data.specs.Shape.{Fits, find}
use Rattle.py_data.specs.Row.{Call, Read, Find, Edit, Make, Start, Put, Take, MidLine, SetMidLine, Reply}
use Rattle.py_data.specs.World.{IsLine, ends_after, shrunk, grown}
use Rattle.stm_io.specs.Outside.{Rose}

-- the records and the base of the step, the names, the started states, the flag, and the devices
pub record PlainState (S : Type 0) : Type 0 where
  pub heap : Heap
  pub base : Heap  -- the heap when the step began
  pub made : List ℕ  -- the names given in this turn
  pub kept : List ℕ  -- those given when the step began
  pub left : List ℕ  -- the names that are left
  pub was_left : List ℕ  -- those left when the step began
  pub free : Bool  -- made records get fresh names
  pub bad : Bool  -- a call lacked a name
  pub started : List S
  pub stopped : Option Stop
  pub mid : Bool
  pub was_mid : Bool  -- the flag when the step began
  pub input : Option (List ℕ)
  pub ends : ℕ  -- how often the input came to its end
  pub out : Option (List ℕ)
  pub err : Option (List ℕ)
  pub reads : ℕ  -- the counts of faults
  pub writes : ℕ
  pub errs : ℕ

-- a record is there that allows the change, and was changed
abbrev pub Changes : {S : Type 0} → ℕ → Change → PlainState S → PlainState S → Type 0
Changes a c d e = (q : Rec) × (d.heap a ≡ Some q) × Allows c q × (e ≡ record d { heap = put_at d.heap a (after c q) })

-- the names from which the next one is taken, where they are given
abbrev pub Named : Bool → ℕ → List ℕ → List ℕ → Type 0
Named true n left left1 = left1 ≡ left
Named false n left left1 = left ≡ n ∷ left1

-- what each call answers and leaves
abbrev pub PlainDoes : {S : Type 0} (c : Call S) → PlainState S → Reply c → PlainState S → Type 0
PlainDoes (Read a) d r e = (d.heap a ≡ Some r) × (e ≡ d)
PlainDoes (Find a key) d o e = (q : Rec) × (d.heap a ≡ Some q) × Fits d.heap q key × (o ≡ find d.heap q.values key) ×
    (e ≡ d)
PlainDoes (Edit a c) d r e = Changes a c d e
PlainDoes (Make q) d n e = Named d.free n d.left e.left × (d.heap n ≡ None) ×
    (e ≡ record d { heap = put_at d.heap n q; made = d.made ++ n ∷ []; left = e.left })
PlainDoes (Start s) d r e = e ≡ record d { started = d.started ++ s ∷ [] }
PlainDoes (Put Output b) d r e = (e ≡ record d { out = grown d.out b; writes = e.writes }) × (d.writes ≤ e.writes)
PlainDoes (Put ErrorOutput b) d r e = (e ≡ record d { err = grown d.err b; errs = e.errs }) × (d.errs ≤ e.errs)
PlainDoes (Take most) d l e =
    IsLine d.input most l × (length l ≤ most) ×
    (e ≡ record d { input = shrunk d.input (length l); ends = ends_after l d.ends; reads = e.reads }) ×
    (d.reads ≤ e.reads)
PlainDoes MidLine d b e = (b ≡ d.mid) × (e ≡ d)
PlainDoes (SetMidLine b) d r e = e ≡ record d { mid = b }

-- there is no name that could be given
abbrev pub NoName : Heap → List ℕ → Type 0
NoName h [] = Unit {0}
NoName h (n ∷ ns) = is_some (h n) ≡ true

-- what a Stop leaves of the rest
pub record Steady {S : Type 0} (d e : PlainState S) (s : Stop) : Type 0 where
  pub base : e.base ≡ d.base
  pub kept : e.kept ≡ d.kept
  pub was_left : e.was_left ≡ d.was_left
  pub free : e.free ≡ d.free
  pub was_mid : e.was_mid ≡ d.was_mid
  pub reads : d.reads ≤ e.reads
  pub writes : d.writes ≤ e.writes
  pub errs : d.errs ≤ e.errs
  pub stopped : e.stopped ≡ Some s

-- the input was left alone
pub record SameIn {S : Type 0} (d e : PlainState S) : Type 0 where
  pub same : e.input ≡ d.input
  pub ends : e.ends ≡ d.ends

-- the output was left alone
pub record SameOut {S : Type 0} (d e : PlainState S) : Type 0 where
  pub same : e.out ≡ d.out

-- the error output was left alone
pub record SameErr {S : Type 0} (d e : PlainState S) : Type 0 where
  pub same : e.err ≡ d.err

-- it is known as before whether a name was wanting
pub record SameBad {S : Type 0} (d e : PlainState S) : Type 0 where
  pub same : e.bad ≡ d.bad

-- a failed input: some bytes may be gone, no end was counted, and its count of faults rose
abbrev pub ReadStops : {S : Type 0} → Call S → PlainState S → PlainState S → Type 0
ReadStops (Take most) d e = ((k : ℕ) × (e.input ≡ shrunk d.input k)) × Rose d.reads e.reads × (e.ends ≡ d.ends)
ReadStops _ d e = ⊥

-- a failed output: a front of the bytes may be written, and its count of faults rose
abbrev pub WriteStops : {S : Type 0} → Call S → PlainState S → PlainState S → Type 0
WriteStops (Put Output b) d e = ((k : ℕ) × (e.out ≡ grown d.out (take k b))) × Rose d.writes e.writes
WriteStops _ d e = ⊥

-- the same of the error output
abbrev pub ErrStops : {S : Type 0} → Call S → PlainState S → PlainState S → Type 0
ErrStops (Put ErrorOutput b) d e = ((k : ℕ) × (e.err ≡ grown d.err (take k b))) × Rose d.errs e.errs
ErrStops _ d e = ⊥

-- want of memory at each call that takes some; making a record tells a wanting name in this way too
abbrev pub MemoryStops : {S : Type 0} → Call S → PlainState S → PlainState S → Type 0
MemoryStops (Make q) d e = (e.bad ≡ d.bad) ⊎ ((e.bad ≡ true) × (d.free ≡ false) × NoName d.heap d.left)
MemoryStops (Read a) d e = ⊥
MemoryStops (Find a key) d e = ⊥
MemoryStops MidLine d e = ⊥
MemoryStops (SetMidLine b) d e = ⊥
MemoryStops _ d e = e.bad ≡ d.bad

-- the Stops of a plain view, with what each of them tells and leaves
abbrev pub Why : {S : Type 0} → Stop → Call S → PlainState S → PlainState S → Type 0
Why ReadFault c d e = ReadStops c d e × SameOut d e × SameErr d e × SameBad d e
Why WriteFault c d e = WriteStops c d e × SameIn d e × SameErr d e × SameBad d e
Why ErrFault c d e = ErrStops c d e × SameIn d e × SameOut d e × SameBad d e
Why OutOfMemory c d e = MemoryStops c d e × SameIn d e × SameOut d e × SameErr d e
Why _ c d e = ⊥

-- a call that was refused
abbrev pub PlainRefuses : {S : Type 0} → Call S → PlainState S → Stop → PlainState S → Type 0
PlainRefuses c d s e = Steady d e s × Why s c d e

-- a step is opened: what stands now is its base
abbrev pub PlainOpens : {S : Type 0} → PlainState S → PlainState S → Type 0
PlainOpens d e = e ≡ record d {
  base = d.heap;
  kept = d.made;
  was_left = d.left;
  was_mid = d.mid;
  bad = false;
  started = [];
  stopped = None;
}

-- a step is taken back: records, names, flag and started states as when it was opened
abbrev pub PlainUndoes : {S : Type 0} → PlainState S → PlainState S → Type 0
PlainUndoes d e = e ≡ record d {
  heap = d.base;
  made = d.kept;
  left = d.was_left;
  mid = d.was_mid;
  started = [];
  stopped = None;
}

-- a look changes nothing at all
abbrev pub Still : {S X : Type 0} → Call S → X → X → Type 0
Still (Read a) v w = w ≡ v
Still (Find a key) v w = w ≡ v
Still _ v w = Unit {0}
