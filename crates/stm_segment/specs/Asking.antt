-- The calls that a step comes to, and what it looks at, locks and dooms on its way.
-- States `docs/HEAP.md`, "What a step asks for".
use Rattle.std.specs.Prelude.{◌≡◌, ◌⊎◌, ℕ, true, false, List, Some, None, All}
use Rattle.py_data.specs.declared.stop.Conflict.{Conflict}
use Rattle.py_data.specs.Heap.{Heap, Marks}
use Rattle.py_data.specs.declared.change.Change.{Change}
use Rattle.py_data.specs.Changes.{after, Outgrows}
use Rattle.py_data.specs.Row.{Call, Reply, Row, Ret, Do, Edit, Make, Put, Take}
use Rattle.py_data.specs.Sense.{Upto, touches, IfThere}
use Rattle.py_data.specs.Sight.{Sight, Does, mem, pure}
use Rattle.py_data.specs.World.{World}
use Rattle.lock_run.specs.declared.client.Outcome.TheVariants.{Waits as WaitsNow}
use Rattle.lock_run.specs.Client.{Waiting}
use Rattle.lock_run.specs.Prog.{Prog}
use Rattle.seg_store.specs.Meaning.{overlay}
use Rattle.seg_store.specs.Extents.{Wants}
use Rattle.stm_segment.specs.CoreState.{Transaction, sight_of}

-- ---- kinds of calls

-- a call that changes this record
abbrev pub Changes : {S : Type 0} → ℕ → Call S → Type 0
Changes a (Edit b x) = a ≡ b
Changes a _ = ⊥

-- a call that prints or reads
abbrev pub IsOuter : {S : Type 0} → Call S → Type 0
IsOuter (Put on bytes) = Unit {0}
IsOuter (Take most) = Unit {0}
IsOuter _ = ⊥

-- a change of the record a that wants so many words: it has no room for what the change adds, and these are the words
-- of an extent that it has more with the change done
abbrev pub ChangeWants : Change → Heap → ℕ → ℕ → Type 0
ChangeWants c h a n = IfThere false (h a) (λ r. Outgrows c r × Wants (Some r) (after c r) n)

-- a call that wants so many words over this heap: it makes a record, which has such an extent, or is such a change
abbrev pub CallWants : {S : Type 0} → Call S → Heap → ℕ → Type 0
CallWants (Make r) h n = Wants None r n
CallWants (Edit a c) h n = ChangeWants c h a n
CallWants _ h n = ⊥

-- ---- the way of a row

-- From the sight s the row comes to a call of this kind, by what is seen there: the calls before it can be done.
pub record Reaches {S A : Type 0} (row : Row S A) (s : Sight S) (kind : Call S → Sight S → Type 0) : Type 0 where
  pub call : Call S
  pub next : Reply call → Row S A
  pub place : Sight S
  pub upto : Upto pure row s (Do call next) place
  pub is : kind call place

-- the next call changes the record
abbrev pub AsksToChange : {S : Type 0} → ℕ → Call S → Sight S → Type 0
AsksToChange a c s = Changes a c

-- the next call prints or reads
abbrev pub AsksOutside : {S : Type 0} → Call S → Sight S → Type 0
AsksOutside c s = IsOuter c

-- the next call wants so many words
abbrev pub AsksRoom : {S : Type 0} → ℕ → Call S → Sight S → Type 0
AsksRoom n c s = CallWants c s.heap n

-- On its way from the sight s to a place, at which `left` is left of it, the row asked to change the record.
pub record AskedFor {S A : Type 0} (row : Row S A) (s : Sight S) (left : Row S A) (place : Sight S) (a : ℕ) : Type 0
  where
    pub call : Call S
    pub next : Reply call → Row S A
    pub at : Sight S
    pub upto : Upto pure row s (Do call next) at
    pub on : Upto pure (Do call next) at left place
    pub changes : Changes a call

-- the next call of a row looks at the record, or changes it
abbrev pub LooksNext : {S A : Type 0} → Row S A → ℕ → Type 0
LooksNext (Ret y) a = ⊥
LooksNext (Do c f) a = touches c ≡ Some a

-- the next call of a row changes the record
abbrev pub ChangesNext : {S A : Type 0} → Row S A → ℕ → Type 0
ChangesNext (Ret y) a = ⊥
ChangesNext (Do c f) a = Changes a c

-- How far a step went: its row's calls, from the sight s on, were done up to a place, at which `left` is left of it.
-- Whatever is looked at now was so there, or is what the next call looks at; whatever is locked now was changed there,
-- or is what the next call changes; and each doom of another segment was for a record that the row asked to change on
-- this way.
pub record Went {S A : Type 0} (row : Row S A) (s : Sight S) (left : Row S A) (looked : Marks) (locked : List ℕ)
    (dooms : List Conflict) : Type 0 where
  pub place : Sight S
  pub upto : Upto pure row s left place
  pub looks : (a : ℕ) → looked a ≡ true → (place.looked a ≡ true) ⊎ LooksNext left a
  pub locks : (a : ℕ) → mem a locked ≡ true → (place.touched a ≡ true) ⊎ ChangesNext left a
  pub asked : All (λ (f : Conflict). AskedFor row s left place f.at.0) dooms

-- ---- a step that waits

-- The next step of the transaction waits over what it sees: that of a solo one in its world, and that of another one in
-- any world.
pub record WaitsThere {S : Type 0} (p : Prog S) (image : Heap) (w : World) (x : Transaction S) : Type 0 where
  pub mortal : x.solo ≡ false → Waiting (p.row x.state) (overlay image x.changes)
  pub solo : x.solo ≡ true → (q : S) × (z : Sight S) × Does (p.row x.state) (sight_of image w x) (WaitsNow, q) z
