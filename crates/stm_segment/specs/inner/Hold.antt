-- What code and proofs say to each other: nothing public rests on it.
-- What a segment's view holds, as values, and what each of its calls does. States `docs/HEAP.md`, "The view of a
-- segment".
use Rattle.std.specs.Prelude.{◌≡◌, ◌≢◌, ℕ, ◌+◌, ◌<◌, ◌≤◌, ◌⊎◌, Bool, true, false, cond, not, ◌||◌, List, [], ◌∷◌, Option, Some, None, Result, Ok, Err, length, take, slice_get, All}
use Rattle.py_data.specs.declared.stop.Side.{Side}
use Rattle.py_data.specs.declared.stop.Conflict.{Conflict}
use Rattle.py_data.specs.declared.stop.Stop.{Stop}
use Rattle.py_data.specs.declared.stop.Out.TheVariants.{Output, ErrorOutput}
use Rattle.py_data.specs.Heap.{Rec, Heap, is_tracked}
use Rattle.py_data.specs.Sense.{touches}
use Rattle.py_data.specs.Row.{Call, Reply, Read, Find, Edit, Make, Start, Put, Take, MidLine, SetMidLine}
use Rattle.py_data.specs.Sight.{Sight, Act, mem, with_mark}
use Rattle.seg_store.specs.declared.store.StoreFault.{StoreFault}
use Rattle.seg_store.specs.declared.store.StoreFault.TheVariants.{Full as FullStore, OutOfMemory as NoMemoryLeft}
use Rattle.seg_store.specs.Meaning.{Meaning, sees, saw, holds}
use Rattle.seg_store.specs.Calls.{after_open, after_undo, after_mark}
use Rattle.stm_segment.specs.declared.books.Progress.{Progress}
use Rattle.stm_segment.specs.declared.books.Books.{Books}
use Rattle.stm_segment.specs.declared.halt.Halt.{Halt}
use Rattle.stm_segment.specs.declared.halt.Halt.TheVariants.{Lost, NeedSolo, Full, ReadFault, WriteFault, ErrFault, OutOfMemory}
use Rattle.stm_segment.specs.declared.halt.LastStop.{LastStop}
use Rattle.stm_segment.specs.inner.Halts.{stop_of, gave, goes_on}
use Rattle.stm_segment.specs.Asking.{Changes, IsOuter, CallWants}
use Rattle.stm_segment.specs.CoreState.{Transaction, Doomed, Running, CoreState, no_world, with_segment, with_conflict}
use Rattle.stm_segment.specs.Conflict.{side, wins}
use Rattle.stm_segment.specs.Books.{Worlds, core_of}

-- the store, the books and the progress of the segment's transaction, and what the view gave last
pub record Hold (S : Type 0) : Type 0 where
  pub meaning : Meaning
  pub reserved : ℕ
  pub books : Books S
  pub progress : Progress S
  pub last : LastStop

-- what the thread sees and has done
abbrev pub sight : {S : Type 0} → ℕ → Hold S → Sight S
sight k d = record {
  heap = sees d.meaning k;
  looked = (d.meaning.part k).looked;
  touched = holds (d.meaning.part k);
  made = (d.meaning.part k).made;
  started = d.progress.started;
  world = no_world;
  used = false;
}

-- ---- what a call may do to other segments

-- The conflict of the side `me` of segment k, whose transaction is out of its hand and asks to change the record, with
-- the transaction of another segment that has locked it.
pub record MeetsLock {S : Type 0} (k : ℕ) (me : Side) (f : Conflict) (c : CoreState S) : Type 0 where
  pub writer : Transaction S
  pub writes : c.segments f.writer.segment ≡ Running writer
  pub writer_is : f.writer ≡ side f.writer.segment writer
  pub other : f.other ≡ me
  pub differ : f.writer.segment ≢ k
  pub held : mem f.at.0 writer.changed ≡ true
  pub asks : f.asks ≡ true

-- it wins: the writer's segment is doomed
pub record DoomsOne {S : Type 0} (k : ℕ) (me : Side) (f : Conflict) (c c1 : CoreState S) : Type 0 where
  pub meets : MeetsLock k me f c
  pub lost : f.lost ≡ 0
  pub winning : wins me f.writer ≡ true
  pub gives : c1 ≡ with_conflict f (with_segment f.writer.segment (Doomed f) c)

-- these conflicts, one after another
abbrev pub Dooms : {S : Type 0} → ℕ → Side → List Conflict → CoreState S → CoreState S → Type 0
Dooms k me [] c c1 = c1 ≡ c
Dooms {S} k me (f ∷ fs) c c1 = (u : CoreState S) × DoomsOne k me f c u × Dooms k me fs u c1

-- the first n of a list, where it has so many, are the first of another one
abbrev pub KeepsFront : {X : Type 0} → ℕ → List X → ℕ → List X → Type 0
KeepsFront n xs n1 ys = n ≤ length xs → (n1 ≤ length ys) × (take n1 ys ≡ take n xs)

-- What calls of segment k, which acts for the side `me`, leave beside its own sight: other segments are only doomed,
-- each for a record that the calls ask to change.
pub record Beside {S : Type 0} (k : ℕ) (me : Side) (asks : ℕ → Type 0) (d e : Hold S) : Type 0 where
  pub saw : saw e.meaning k ≡ saw d.meaning k
  pub image : e.meaning.image ≡ d.meaning.image
  pub segments : e.meaning.segments ≡ d.meaning.segments
  pub limit : e.meaning.limit ≡ d.meaning.limit
  pub reserved : d.reserved ≤ e.reserved
  pub hand : slice_get e.books.hands.items k ≡ slice_get d.books.hands.items k
  pub broken : e.books.broken ≡ d.books.broken
  pub dooms : List Conflict
  pub others : (w : Worlds) → Dooms k me dooms (core_of w d.meaning d.books) (core_of w e.meaning e.books)
  pub asked : All (λ (f : Conflict). asks f.at.0) dooms
  pub kept_names : e.progress.kept_names ≡ d.progress.kept_names
  pub kept_started : e.progress.kept_started ≡ d.progress.kept_started
  pub names : KeepsFront d.progress.kept_names d.progress.names e.progress.kept_names e.progress.names
  pub started : KeepsFront d.progress.kept_started d.progress.started e.progress.kept_started e.progress.started
  pub made : (e.meaning.part k).kept_made ≡ (d.meaning.part k).kept_made
  pub looked : (a : ℕ) → (d.meaning.part k).looked a ≡ true → (e.meaning.part k).looked a ≡ true
  pub locks : (a : ℕ) → mem a (d.meaning.part k).changed ≡ true → mem a (e.meaning.part k).changed ≡ true

-- ---- calls that are done

abbrev pub Inside : {S : Type 0} → ℕ → Side → (c : Call S) → Hold S → Reply c → Hold S → Type 0
Inside k me c d r e = Act c (sight k d) r (sight k e) × Beside k me (λ a. Changes a c) d e × (e.last.stopped ≡ None)

-- a call to the outside leaves all that the view holds
abbrev pub LeavesHold : {S : Type 0} → Hold S → Hold S → Type 0
LeavesHold d e = (e ≡ d) × (e.last.stopped ≡ None)

-- what each call does to what the view holds
abbrev pub SegDoes : {S : Type 0} → ℕ → Side → (c : Call S) → Hold S → Reply c → Hold S → Type 0
SegDoes k me (Put on bytes) d r e = LeavesHold d e
SegDoes k me (Take most) d r e = LeavesHold d e
SegDoes k me MidLine d r e = LeavesHold d e
SegDoes k me (SetMidLine b) d r e = LeavesHold d e
SegDoes k me (Read a) d r e = Inside k me (Read a) d r e
SegDoes k me (Find a v) d r e = Inside k me (Find a v) d r e
SegDoes k me (Edit a x) d r e = Inside k me (Edit a x) d r e
SegDoes k me (Make q) d r e = Inside k me (Make q) d r e
SegDoes k me (Start s) d r e = Inside k me (Start s) d r e

-- ---- calls that are refused

-- a call that takes memory
abbrev pub IsHeld : {S : Type 0} → Call S → Type 0
IsHeld MidLine = ⊥
IsHeld (SetMidLine b) = ⊥
IsHeld _ = Unit {0}

-- a call to the device whose fault the Halt tells
abbrev pub IsFaultOf : {S : Type 0} → Halt → Call S → Type 0
IsFaultOf ReadFault (Take most) = Unit {0}
IsFaultOf WriteFault (Put Output bytes) = Unit {0}
IsFaultOf ErrFault (Put ErrorOutput bytes) = Unit {0}
IsFaultOf _ _ = ⊥

-- it doesn't win
pub record LosesTo {S : Type 0} (k : ℕ) (me : Side) (f : Conflict) (c : CoreState S) : Type 0 where
  pub meets : MeetsLock k me f c
  pub lost : f.lost ≡ 1
  pub loses : wins me f.writer ≡ false

-- Why each Halt comes, where the call was asked for over the heap h: only one that isn't solo wants to be, and only a
-- solo one meets a fault of a device.
abbrev pub SegWhy : {S : Type 0} → ℕ → Side → Halt → Call S → Heap → Hold S → Type 0
SegWhy k me (Lost f) c h e = Changes f.at.0 c × ((w : Worlds) → LosesTo k me f (core_of w e.meaning e.books))
SegWhy k me NeedSolo c h e = (me.solo ≡ false) × IsOuter c
SegWhy k me (Full r n l) c h e = CallWants c h n × (r ≡ e.reserved) × (l ≡ e.meaning.limit) × (l < r + n)
SegWhy k me OutOfMemory c h e = IsHeld c
SegWhy k me s c h e = (me.solo ≡ true) × IsFaultOf s c

-- A call that was refused: at most one record more was looked at, the one that the call asks for, and at most one more
-- locked, the one that it changes.
pub record SegRefuses {S : Type 0} (k : ℕ) (me : Side) (c : Call S) (d : Hold S) (s : Halt) (e : Hold S) : Type 0 where
  pub last : e.last ≡ gave s
  pub beside : Beside k me (λ a. Changes a c) d e
  pub why : SegWhy k me s c (sees d.meaning k) e
  pub looked : (a : ℕ) → (e.meaning.part k).looked a ≡ true →
      ((d.meaning.part k).looked a ≡ true) ⊎ (touches c ≡ Some a)
  pub locks : (a : ℕ) → mem a (e.meaning.part k).changed ≡ true → (mem a (d.meaning.part k).changed ≡ true) ⊎ Changes a
      c

-- ---- how a step is opened and taken back

abbrev pub SegOpens : {S : Type 0} → ℕ → Hold S → Hold S → Type 0
SegOpens k d e = e ≡ record d {
  meaning = after_open k d.meaning;
  progress = record d.progress { kept_names = length d.progress.names; kept_started = length d.progress.started };
  last = goes_on d.last;
}

abbrev pub SegUndoes : {S : Type 0} → ℕ → Hold S → Hold S → Type 0
SegUndoes k d e = e ≡ record d {
  meaning = after_undo k d.meaning;
  books = record d.books { pending = e.books.pending };
  progress = record d.progress {
    names = take d.progress.kept_names d.progress.names;
    started =
        take d.progress.kept_started d.progress.started;
  };
  last = goes_on d.last;
}

-- ---- parts of calls

-- a look at this record changes nothing: looks at it aren't noted, or it was seen
abbrev pub is_noted : Option Rec → Bool → Bool
is_noted None marked = false
is_noted (Some r) marked = not (is_tracked r.kind) || marked

-- a look at a record is noted
abbrev pub Looks : ℕ → ℕ → Meaning → Meaning → Type 0
Looks a k m m1 = m1 ≡ cond (is_noted (sees m k a) ((m.part k).looked a)) m (after_mark k a m)

-- a store's fault as a Halt
abbrev pub halt_of : StoreFault → Halt
halt_of (FullStore r n l) = Full r n l
halt_of NoMemoryLeft = OutOfMemory

-- what a view holds, put together
abbrev pub holding : {S : Type 0} → Meaning → ℕ → Books S → Progress S → LastStop → Hold S
holding m r b p o = record { meaning = m; reserved = r; books = b; progress = p; last = o }

-- what a view holds, of its store, books and progress, and what it gave last
abbrev pub hold_of : {S T : Type 0} → (S → Meaning) → (S → ℕ) → S → Books T → Progress T → LastStop → Hold T
hold_of meaning reserved s b p o = holding (meaning s) (reserved s) b p o

-- the segment holds the record, and sees what it saw
pub record Holds {S : Type 0} (k : ℕ) (me : Side) (a : ℕ) (d e : Hold S) : Type 0 where
  pub shown : sees e.meaning k ≡ sees d.meaning k
  pub touched : holds (e.meaning.part k) ≡ with_mark a (holds (d.meaning.part k))
  pub looked : (e.meaning.part k).looked ≡ with_mark a (d.meaning.part k).looked
  pub made : (e.meaning.part k).made ≡ (d.meaning.part k).made
  pub progress : e.progress ≡ d.progress
  pub last : e.last ≡ d.last
  pub beside : Beside k me (λ b. b ≡ a) d e
  pub locks : (b : ℕ) → mem b (e.meaning.part k).changed ≡ true → (mem b (d.meaning.part k).changed ≡ true) ⊎ (b ≡ a)

-- why the record a can't be held
abbrev pub FailWhy : {S : Type 0} → ℕ → Side → ℕ → Halt → Hold S → Type 0
FailWhy k me a (Lost f) e = (f.at.0 ≡ a) × ((w : Worlds) → LosesTo k me f (core_of w e.meaning e.books))
FailWhy k me a OutOfMemory e = Unit {0}
FailWhy k me a _ e = ⊥

-- the record a can't be held: at most that record more was looked at or locked
pub record Fails {S : Type 0} (k : ℕ) (me : Side) (a : ℕ) (d : Hold S) (s : Halt) (e : Hold S) : Type 0 where
  pub last : e.last ≡ gave s
  pub beside : Beside k me (λ b. b ≡ a) d e
  pub why : FailWhy k me a s e
  pub looked : (b : ℕ) → (e.meaning.part k).looked b ≡ true → ((d.meaning.part k).looked b ≡ true) ⊎ (b ≡ a)
  pub locks : (b : ℕ) → mem b (e.meaning.part k).changed ≡ true → (mem b (d.meaning.part k).changed ≡ true) ⊎ (b ≡ a)

-- A call that is to hold the record a: the segment holds it, or the call failed for the Halt that the view gave last,
-- which its answer says in a word.
abbrev pub HoldsOrFails : {S A : Type 0} → ℕ → Side → ℕ → Result A Stop → Hold S → Hold S → Type 0
HoldsOrFails k me a (Ok u) d e = Holds k me a d e
HoldsOrFails k me a (Err s) d e = (s ≡ stop_of e.last.halt) × Fails k me a d e.last.halt e

-- why a store refuses a call that may want so many words
abbrev pub FaultWhy : (ℕ → Type 0) → ℕ → ℕ → StoreFault → Type 0
FaultWhy grows reserved limit NoMemoryLeft = Unit {0}
FaultWhy grows reserved limit (FullStore r n l) = grows n × (r ≡ reserved) × (l ≡ limit) × (l < r + n)
