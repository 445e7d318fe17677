-- What a view says of itself, which of its calls may be made and refused, and when code over a view has done what a row
-- means.
-- States `docs/HEAP.md`, "Views", "Rows" and "Stops".
use Rattle.std.specs.Prelude.{◌≡◌, ◌⊎◌, ℕ, ◌≤◌, Bool, true, false, List, length, Option, Some, None, Result, Ok, Err, MatchOption}
use Rattle.py_data.specs.declared.value.Value.{Value}
use Rattle.py_data.specs.declared.stop.Out.TheVariants.{Output, ErrorOutput}
use Rattle.py_data.specs.declared.stop.Stop.{Stop}
use Rattle.py_data.specs.declared.stop.Stop.TheVariants.{Lost, NeedSolo, NeedHeap, Full, ReadFault, WriteFault, ErrFault, OutOfMemory}
use Rattle.py_data.specs.declared.record.TheConstants.{LENGTH_LIMIT}
use Rattle.py_data.specs.Heap.{Heap, Rec, Has, at, put_at}
use Rattle.py_data.specs.Shape.{IsKey, ArePairs, find, IsShaped}
use Rattle.py_data.specs.Changes.{after, Allows, AsksKey, Suits, Outgrows}
use Rattle.py_data.specs.Row.{Call, Reply, Row, Ret, Do, Read, Find, Edit, Make, Start, Put, Take, MidLine, SetMidLine}

-- X is the type of the view.
pub record Sense (S X : Type 0) : Type 1 where
  pub heap : X → Heap  -- the records that it shows
  pub partial : Bool  -- it may be asked for a record that it doesn't show
  pub stopped : X → Option Stop  -- the Stop that it gave since `open_step`
  pub can_stop : Stop → Bool  -- the Stops that it can give
  pub does : (c : Call S) → X → Reply c → X → Type 0  -- what a call answers and leaves
  pub refuses : Call S → X → Stop → X → Type 0  -- with which Stop a call may be refused, and what that leaves
  pub seen : ℕ → X → Type 0  -- the record was looked at, or a look at it isn't tracked

-- another record in the place of one
abbrev pub Edits : ℕ → (Rec → Rec) → Heap → Heap → Type 0
Edits a f h h1 = Has h a × (h1 ≡ put_at h a (f (at h a)))

-- each record of the one heap is in the other
abbrev pub IsPart : Heap → Heap → Type 0
IsPart g h = (a : ℕ) (r : Rec) → g a ≡ Some r → h a ≡ Some r

-- a heap of which a view shows g: all of it, or, where the view is partial, a part of it
abbrev pub ShownOf : Bool → Heap → Heap → Type 0
ShownOf true g h = IsPart g h
ShownOf false g h = g ≡ h

-- What a partial view must know to answer a search: the key and the keys of the dictionary, so that the answer is the
-- same in each heap of which it shows a part.
abbrev pub Knows : Bool → Heap → Value → Rec → Type 0
Knows true h key r = IsKey h key × ArePairs h r.values
Knows false h key r = Unit {0}

-- What each call answers over a heap, and what it leaves of it. A partial view makes no record, since it can't tell
-- which addresses are free.
abbrev pub Effect : {S : Type 0} → Bool → (c : Call S) → Heap → Reply c → Heap → Type 0
Effect p (Read a) h r h1 = (h a ≡ Some r) × (h1 ≡ h)
Effect p (Find d key) h o h1 = Has h d × (o ≡ find h (at h d).values key) × (h1 ≡ h) × Knows p h key (at h d)
Effect p (Edit a c) h u h1 = Edits a (after c) h h1
Effect p (Make r) h a h1 = (h a ≡ None) × (h1 ≡ put_at h a r) × (p ≡ false)
Effect p (Start s) h u h1 = h1 ≡ h
Effect p (Put on bytes) h u h1 = h1 ≡ h
Effect p (Take most) h l h1 = (length l ≤ most) × (h1 ≡ h)
Effect p MidLine h mid h1 = h1 ≡ h
Effect p (SetMidLine mid) h u h1 = h1 ≡ h

-- a condition on a record, as far as the heap reaches
abbrev pub IfThere : Bool → Option Rec → (Rec → Type 0) → Type 0
IfThere partial o p = MatchOption o (partial ≡ true) p

-- the condition of each call
unfoldable pub Asks : {S : Type 0} → Bool → Call S → Heap → Type 0
Asks p (Read a) h = IfThere p (h a) (λ r. Unit {0})
Asks p (Find d key) h = IfThere p (h d) (AsksKey p h key)
Asks p (Edit a c) h = IfThere p (h a) (λ r. Allows c r × Suits p h c r)
Asks true (Make r) h = (length r.values ≤ LENGTH_LIMIT) × (length r.bytes ≤ LENGTH_LIMIT)
Asks false (Make r) h = IsShaped h r × (length r.values ≤ LENGTH_LIMIT) × (length r.bytes ≤ LENGTH_LIMIT)
Asks p (Take most) h = 1 ≤ most
Asks p (Start s) h = Unit {0}
Asks p (Put on bytes) h = Unit {0}
Asks p MidLine h = Unit {0}
Asks p (SetMidLine mid) h = Unit {0}

-- the conditions of a row's calls hold, whatever the calls before them answer
unfoldable pub Safe : {S A : Type 0} → Bool → Row S A → Heap → Type 0
Safe p (Ret a) h = Unit {0}
Safe p (Do c k) h = Asks p c h × ((r : Reply c) (h1 : Heap) → Effect p c h r h1 → Safe p (k r) h1)

-- a change: any Stop but the faults of devices and the need to be solo
abbrev pub can_refuse_change : Stop → Bool
can_refuse_change ReadFault = false
can_refuse_change WriteFault = false
can_refuse_change ErrFault = false
can_refuse_change NeedSolo = false
can_refuse_change _ = true

-- making a record: as a change, but it loses no conflict, since no other transaction sees a new record
abbrev pub can_refuse_make : Stop → Bool
can_refuse_make Lost = false
can_refuse_make e = can_refuse_change e

-- a look, and a thread to be started: a record that is not among those given, or no memory
abbrev pub can_refuse_look : Stop → Bool
can_refuse_look NeedHeap = true
can_refuse_look OutOfMemory = true
can_refuse_look _ = false

-- printing and taking input: the step isn't solo, there is no memory, or the device's own fault
abbrev pub can_refuse_put : Stop → Stop → Bool
can_refuse_put fault NeedSolo = true
can_refuse_put fault OutOfMemory = true
can_refuse_put WriteFault WriteFault = true
can_refuse_put ErrFault ErrFault = true
can_refuse_put ReadFault ReadFault = true
can_refuse_put fault e = false

-- which Stop each call can meet, over any view
abbrev pub can_refuse : {S : Type 0} → Call S → Stop → Bool
can_refuse (Read a) e = can_refuse_look e
can_refuse (Find d key) e = can_refuse_look e
can_refuse (Edit a c) e = can_refuse_change e
can_refuse (Make r) e = can_refuse_make e
can_refuse (Start s) e = can_refuse_look e
can_refuse (Put Output bytes) e = can_refuse_put WriteFault e
can_refuse (Put ErrorOutput bytes) e = can_refuse_put ErrFault e
can_refuse (Take most) e = can_refuse_put ReadFault e
can_refuse MidLine e = false
can_refuse (SetMidLine mid) e = false

module _ {S X : Type 0} (u : Sense S X) where
  -- From v the row was done, with the answer b, which left w.
  unfoldable pub Run : {A : Type 0} → Row S A → X → A → X → Type 0
  Run (Ret a) v b w = (b ≡ a) × (w ≡ v)
  Run (Do c k) v b w = (r : Reply c) × (m : X) × u.does c v r m × Run (k r) m b w

  -- From v the row was stopped by e, which left w: its calls were done up to some place, and there the view refused
  -- the next one, or the code found no memory of its own.
  unfoldable pub Stopped : {A : Type 0} → Row S A → X → Stop → X → Type 0
  Stopped (Ret a) v e w = (e ≡ OutOfMemory) × (w ≡ v)
  Stopped (Do c k) v e w =
      ((e ≡ OutOfMemory) × (w ≡ v)) ⊎ (u.refuses c v e w ⊎
      ((r : Reply c) × (m : X) × u.does c v r m × Stopped (k r) m e w))

  -- what code with the row's meaning ensures
  unfoldable pub Meets : {A : Type 0} → Row S A → X → X → Result A Stop → Type 0
  Meets row v w (Ok b) = Run row v b w
  Meets row v w (Err e) = Stopped row v e w

  -- from v the row was begun, which left w, and q is left to be done
  unfoldable pub Upto : {A : Type 0} → Row S A → X → Row S A → X → Type 0
  Upto (Ret a) v q w = (q ≡ Ret a) × (w ≡ v)
  Upto (Do c k) v q w = ((q ≡ Do c k) × (w ≡ v)) ⊎ ((r : Reply c) × (m : X) × u.does c v r m × Upto (k r) m q w)

  -- no Stop was given since the step was opened
  abbrev pub IsLive : X → Type 0
  IsLive v = u.stopped v ≡ None

  -- the clause of a method that looks at a record, and shows f of it
  abbrev pub Shows : {A : Type 0} → ℕ → (Rec → A) → X → X → Result A Stop → Type 0
  Shows a f v w (Ok x) = u.does (Read a) v (at (u.heap v) a) w × (x ≡ f (at (u.heap v) a))
  Shows a f v w (Err e) = u.refuses (Read a) v e w

  -- the clause of a method that does a call: f makes the call's reply of the method's answer
  abbrev pub Answers : (c : Call S) {A : Type 0} → (A → Reply c) → X → X → Result A Stop → Type 0
  Answers c f v w (Ok x) = u.does c v (f x) w
  Answers c f v w (Err e) = u.refuses c v e w

-- the record that a call looks at or changes
abbrev pub touches : {S : Type 0} → Call S → Option ℕ
touches (Read a) = Some a
touches (Find d key) = Some d
touches (Edit a c) = Some a
touches _ = None

-- a call for which there may be no room: it makes a record, or changes one that has no room for what the change adds
abbrev pub WantsRoom : {S : Type 0} → Call S → Heap → Type 0
WantsRoom (Make r) h = Unit {0}
WantsRoom (Edit a c) h = IfThere false (h a) (Outgrows c)
WantsRoom _ h = ⊥

-- this holds if the Stop is that the heap has no room
abbrev pub IfFull : Stop → Type 0 → Type 0
IfFull Full P = P
IfFull _ P = Unit {0}

-- what holds of each view
pub record Lawful {S X : Type 0} (u : Sense S X) : Type 0 where
  pub effect : (c : Call S) (v : X) (r : Reply c) (w : X) → u.does c v r w → Effect u.partial c (u.heap v) r (u.heap w)
  pub live : (c : Call S) (v : X) (r : Reply c) (w : X) → u.does c v r w → IsLive u w
  pub seen : (c : Call S) (v : X) (r : Reply c) (w : X) (a : ℕ) → u.does c v r w → touches c ≡ Some a → u.seen a w
  pub stays : (c : Call S) (v : X) (r : Reply c) (w : X) (a : ℕ) → u.does c v r w → u.seen a v → u.seen a w
  pub same : (a : ℕ) (v : X) (r : Rec) (w : X) → u.seen a v → u.does (Read a) v r w → w ≡ v
  pub sure : (a : ℕ) (v : X) (e : Stop) (w : X) → u.seen a v → u.refuses (Read a) v e w → ⊥
  pub halts : (c : Call S) (v : X) (e : Stop) (w : X) → u.refuses c v e w → u.stopped w ≡ Some e
  pub cause : (c : Call S) (v : X) (e : Stop) (w : X) → u.refuses c v e w →
      (can_refuse c e ≡ true) × (u.can_stop e ≡ true) × IfFull e (WantsRoom c (u.heap v))

-- How a view brackets a step.
pub record Bracket (S X : Type 0) : Type 1 where
  pub base : X → Heap  -- the records as they were when the step was opened
  pub solo : X → Bool  -- it may print, and set the flag
  pub opens : X → X → Type 0
  pub undoes : X → X → Type 0

-- what holds of the brackets of each view: calls keep the base, a step opens over it, and taking the step back gives it
-- again
pub record IsBracket {S X : Type 0} (u : Sense S X) (b : Bracket S X) : Type 0 where
  pub keeps : (c : Call S) (v : X) (r : Reply c) (w : X) → u.does c v r w →
      (b.base w ≡ b.base v) × (b.solo w ≡ b.solo v)
  pub keeps_refused : (c : Call S) (v : X) (e : Stop) (w : X) → u.refuses c v e w →
      (b.base w ≡ b.base v) × (b.solo w ≡ b.solo v)
  pub opened : (v w : X) → b.opens v w → (u.heap w ≡ u.heap v) × (b.base w ≡ u.heap v) × IsLive u w
  pub undone : (v w : X) → b.undoes v w → (u.heap w ≡ b.base v) × IsLive u w
  pub put : (v w : X) (bytes : List ℕ) → u.does (Put Output bytes) v tt w → b.solo v ≡ true
