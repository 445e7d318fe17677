-- What a call of `advance` answers, and what it leaves. States `docs/HEAP.md`, "Advance".
use Rattle.std.specs.Prelude.{◌≡◌, ◌≢◌, ℕ, suc, ◌+◌, ◌<◌, ◌≤◌, Bool, true, false, cond, List, ◌++◌, Result, Ok, Err, All, ◌⊎◌, Contains}
use Rattle.py_data.specs.declared.stop.Conflict.{Conflict}
use Rattle.py_data.specs.Row.{Call}
use Rattle.py_data.specs.Sight.{Sight}
use Rattle.lock_run.specs.declared.client.Life.TheVariants.{Lives}
use Rattle.lock_run.specs.Prog.{Prog}
use Rattle.stm_core.specs.declared.answers.Advance.{Advance}
use Rattle.stm_core.specs.declared.answers.Advance.TheVariants.{Ran, Waits, Ended, NeedSolo}
use Rattle.stm_core.specs.declared.answers.AdvanceError.{AdvanceError}
use Rattle.stm_core.specs.declared.answers.AdvanceError.TheVariants.{Lost, Failed}
use Rattle.stm_segment.specs.declared.cause.Cause.{Cause}
use Rattle.stm_segment.specs.declared.cause.Cause.TheVariants.{Full, ReadFault, WriteFault, ErrFault, OutOfMemory}
use Rattle.stm_segment.specs.CoreState.{IsShort, Transaction, Segment, Idle, Doomed, Running, CoreState, sight_of, with_segment, with_conflict, first_cause}
use Rattle.stm_segment.specs.Asking.{WaitsThere, Reaches, AsksOutside, AsksRoom}
use Rattle.stm_segment.specs.Conflict.{loser, IsStanding, AsksFrom}
use Rattle.stm_core.specs.Moves.{published, Move, Drops, Dooms, Loses, Goes, Rests, Keeps, Follows}
use Rattle.stm_core.specs.Outside.{Outer}
use Rattle.stm_core.specs.Solo.{SoloFailed}
use Rattle.stm_core.specs.Advance.{Gone}

-- how many steps each answer says were done, where so many were asked for
abbrev pub CountsDone : ℕ → ℕ → Result Advance AdvanceError → Type 0
CountsDone most n (Ok (Ran i)) = (i ≡ n) × (n ≡ most)
CountsDone most n (Ok (Waits i)) = (i ≡ n) × (n < most)
CountsDone most n (Ok (Ended i)) = (i ≡ n) × (1 ≤ n) × (n ≤ most)
CountsDone most n (Ok (NeedSolo i)) = (i ≡ n) × (n < most)
CountsDone most n (Err e) = n < most

-- how many steps were tried after those that were done: none where all were done, or the thread ended; otherwise the
-- next one
abbrev pub tried_after : Result Advance AdvanceError → ℕ
tried_after (Ok (Ran i)) = 0
tried_after (Ok (Ended i)) = 0
tried_after _ = 1

-- the next step of the transaction comes to a call of this kind
abbrev pub StepReaches : {S : Type 0} → Prog S → CoreState S → Transaction S → (Call S → Sight S → Type 0) → Type 0
StepReaches p u x kind = Reaches (p.row x.state) (sight_of u.image u.world x) kind

-- A cause that the next step of the transaction can meet: it comes to a call that wants so many words, which by the
-- store's numbers aren't there; or there was no memory.
abbrev pub IsStepCause : {S : Type 0} → Prog S → CoreState S → Transaction S → ℕ → ℕ → Cause → Type 0
IsStepCause p u x reserved limit (Full r n l) = StepReaches p u x (AsksRoom n) × (r ≡ reserved) × (l ≡ limit) ×
    (l < r + n)
IsStepCause p u x reserved limit OutOfMemory = Unit {0}
IsStepCause p u x reserved limit _ = ⊥

-- the core with a cause kept
abbrev pub with_cause : {S : Type 0} → Cause → CoreState S → CoreState S
with_cause e c = record c { cause = first_cause c.cause e }

-- why the next step of a solo transaction was cut for this cause: by a fault of a device, which is one of the call in
-- which it was cut, or as that of another transaction
abbrev pub IsSoloCause : {S : Type 0} → Prog S → CoreState S → Transaction S → ℕ → ℕ → Cause → Type 0
IsSoloCause p u x reserved limit ReadFault = Unit {0}
IsSoloCause p u x reserved limit WriteFault = Unit {0}
IsSoloCause p u x reserved limit ErrFault = Unit {0}
IsSoloCause p u x reserved limit e = IsStepCause p u x reserved limit e

-- What a cause makes of the core, which is kept: a transaction that isn't solo is dropped, and a solo one is committed
-- up to its last whole step.
abbrev pub Fails : {S : Type 0} → Bool → Prog S → ℕ → ℕ → ℕ → ℕ → Cause → Outer S → Transaction S → Outer S → Type 0
Fails false p k n reserved limit e u x o1 =
    IsStepCause p u.core x reserved limit e × (o1 ≡ record u { core = with_cause e (with_segment k Idle u.core) })
Fails true p k n reserved limit e u x o1 = IsSoloCause p u.core x reserved limit e × SoloFailed p k n e u x o1

-- What comes after the steps, which led to u, where the transaction x runs on segment k of n: nothing more, since all
-- were done, or the next one waits, or the thread ended, or the next one comes to a call that prints or reads and x
-- isn't solo; or x, which isn't solo, loses a conflict that stands, since its next step asks to change the record that
-- it names; or a cause is kept.
abbrev pub Ends : {S : Type 0} → Prog S → ℕ → ℕ → ℕ → ℕ → Outer S → Transaction S → Result Advance AdvanceError →
    Outer S → Type 0
Ends p k n reserved limit u x (Ok (Ran i)) o1 = (p.life x.state ≡ Lives) × (o1 ≡ u)
Ends p k n reserved limit u x (Ok (Waits i)) o1 = (p.life x.state ≡ Lives) × WaitsThere p u.core.image u.core.world x ×
    (o1 ≡ u)
Ends p k n reserved limit u x (Ok (Ended i)) o1 = (p.life x.state ≢ Lives) × (o1 ≡ u)
Ends p k n reserved limit u x (Ok (NeedSolo i)) o1 = (p.life x.state ≡ Lives) × (x.solo ≡ false) × StepReaches p u.core
    x AsksOutside × (o1 ≡ u)
Ends p k n reserved limit u x (Err (Lost f)) o1 = (p.life x.state ≡ Lives) × (x.solo ≡ false) × IsStanding p u.core f ×
    AsksFrom k 1 f × (o1 ≡ record u { core = with_conflict f (with_segment k Idle u.core) })
Ends p k n reserved limit u x (Err (Failed e)) o1 = (p.life x.state ≡ Lives) × Fails x.solo p k n reserved limit e u x
    o1

-- Steps of segment k, each done before the next one was tried, and what came after them. A solo transaction told the
-- devices what its steps did.
pub record StepsTaken {S : Type 0} (p : Prog S) (length k n most reserved limit : ℕ) (o : Outer S)
    (result : Result Advance AdvanceError) (o1 : Outer S) : Type 0 where
  pub steps : ℕ
  pub before : CoreState S
  pub last : Transaction S
  pub gone : Gone p length k steps (tried_after result) o.core before
  pub runs : before.segments k ≡ Running last
  pub room : steps < most → IsShort length (suc last.steps)
  pub count : CountsDone most steps result
  pub ends : Ends p k n reserved limit (record o { core = before; told = cond last.solo last.world o.told }) last
      result o1

-- The answer, by what the segment has in hand: a doomed one is told its conflict and is idle then; where the thread of
-- one that runs has ended, nothing changes; and otherwise steps are taken.
abbrev pub AdvancedFrom : {S : Type 0} → Segment S → Prog S → ℕ → ℕ → ℕ → ℕ → ℕ → ℕ → Outer S →
    Result Advance AdvanceError → Outer S → Type 0
AdvancedFrom Idle p length k n most reserved limit o result o1 = ⊥
AdvancedFrom (Doomed f) p length k n most reserved limit o result o1 =
    (result ≡ Err (Lost f)) × (o1 ≡ record o { core = with_segment k Idle o.core })
AdvancedFrom (Running x) p length k n most reserved limit o result o1 =
    (p.life x.state ≢ Lives → (result ≡ Ok (Ended 0)) × (o1 ≡ o)) ×
    (p.life x.state ≡ Lives → StepsTaken p length k n most reserved limit o result o1)

-- at most so many steps of segment k of n
abbrev pub Advanced : {S : Type 0} → Prog S → ℕ → ℕ → ℕ → ℕ → ℕ → ℕ → Outer S → Result Advance AdvanceError → Outer S →
    Type 0
Advanced p length k n most reserved limit o result o1 = AdvancedFrom (o.core.segments k) p length k n most reserved
    limit o result o1

-- ---- what it leaves alone

-- a doom of another segment, a move of segment k that commits nothing, or a cause that is kept
abbrev pub IsOwn : {S : Type 0} → ℕ → Move S → Type 0
IsOwn k (Dooms f) = Unit {0}
IsOwn k (Loses f) = (loser f).segment ≡ k
IsOwn k (Goes i x x1) = i ≡ k
IsOwn k (Rests i x x1) = i ≡ k
IsOwn k (Drops i) = i ≡ k
IsOwn k (Keeps e) = Unit {0}
IsOwn k _ = ⊥

-- how an advance ends after such moves: as it is; or with a cause kept; or, where its transaction is solo, with that
-- committed, and a cause kept
abbrev pub EndsSo : {S : Type 0} → ℕ → CoreState S → CoreState S → Type 0
EndsSo {S} k u c1 =
    (c1 ≡ u) ⊎ ((e : Cause) × ((c1 ≡ with_cause e u) ⊎
    ((x : Transaction S) × (u.segments k ≡ Running x) × (x.solo ≡ true) × (1 ≤ x.steps) ×
    (c1 ≡ with_cause e (published k x u)))))

-- such moves lead from one state of the core to the next
pub record Led {S : Type 0} (p : Prog S) (length k : ℕ) (c c1 : CoreState S) : Type 0 where
  pub moves : List (Move S)
  pub follows : Follows p length c moves c1
  pub own : All (IsOwn k) moves

-- what a segment other than k has in hand: what it had, or one of these conflicts
abbrev pub IsLeft : {S : Type 0} → List Conflict → Segment S → Segment S → Type 0
IsLeft fs s s1 = (s1 ≡ s) ⊎ ((f : Conflict) × Contains fs f × (s1 ≡ Doomed f))

-- a conflict stood on the way: in a state to which such moves lead, and from which they lead on
pub record StoodBetween {S : Type 0} (p : Prog S) (length k : ℕ) (c c1 : CoreState S) (f : Conflict) : Type 0 where
  pub state : CoreState S
  pub before : Led p length k c state
  pub after : Led p length k state c1
  pub stands : IsStanding p state f

-- Only segment k went on: the committed state stays, the new conflicts are at the list's end, each of them stood on the
-- way, and another segment has what it had, or is doomed by a new conflict.
pub record OnlyOwn {S : Type 0} (p : Prog S) (length k : ℕ) (c c1 : CoreState S) : Type 0 where
  pub image : c1.image ≡ c.image
  pub threads : c1.threads ≡ c.threads
  pub world : c1.world ≡ c.world
  pub history : c1.history ≡ c.history
  pub begun : c1.begun ≡ c.begun
  pub last : c1.last ≡ c.last
  pub new : List Conflict
  pub conflicts : c1.conflicts ≡ c.conflicts ++ new
  pub stood : All (StoodBetween p length k c c1) new
  pub others : (j : ℕ) → j ≢ k → IsLeft new (c.segments j) (c1.segments j)
