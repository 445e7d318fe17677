-- Events: calls of a core, one after another, and what each is replied. States `docs/HEAP.md`, "Events".
use Rattle.std.specs.Prelude.{◌≡◌, ◌≢◌, ℕ, ◌+◌, ◌≤◌, Bool, true, false, ◌&&◌, nat_lt, List, [], ◌∷◌, Result, Ok, Err}
use Rattle.std.specs.declared.alloc.AllocError.{AllocError}
use Rattle.py_data.specs.declared.stop.Conflict.{Conflict}
use Rattle.py_data.specs.Heap.{Heap}
use Rattle.lock_run.specs.declared.client.Life.TheVariants.{Lives}
use Rattle.lock_run.specs.Prog.{Prog}
use Rattle.stm_core.specs.declared.begin.BeginError.{BeginError}
use Rattle.stm_core.specs.declared.answers.Advance.{Advance}
use Rattle.stm_core.specs.declared.answers.AdvanceError.{AdvanceError}
use Rattle.stm_core.specs.declared.answers.AdvanceError.TheVariants as advance
use Rattle.stm_core.specs.declared.answers.LoanError.{LoanError}
use Rattle.stm_core.specs.declared.answers.LoanError.TheVariants as loan
use Rattle.stm_segment.specs.declared.cause.Cause.TheVariants.{OutOfMemory as NoMemoryLeft}
use Rattle.stm_core.specs.declared.solo.SoloError.{SoloError}
use Rattle.stm_core.specs.declared.commit.Commit.{Commit}
use Rattle.stm_core.specs.declared.commit.Commit.TheVariants as commit
use Rattle.stm_core.specs.declared.events.Event.{Event}
use Rattle.stm_core.specs.declared.events.Event.TheVariants as event
use Rattle.stm_core.specs.declared.events.Reply.{Reply}
use Rattle.stm_core.specs.declared.events.Reply.TheVariants.{Skipped, Begun as HasBegun, Refused, Advanced as HasAdvanced, Solo as IsSolo, Unsolo, Committed as HasCommitted, Nothing, Lost, Failed, Installed, OutOfMemory}
use Rattle.stm_core.specs.declared.standing.Slot.{Slot}
use Rattle.stm_core.specs.declared.standing.Slot.TheVariants as slot
use Rattle.stm_segment.specs.CoreState.{is_short, Segment, Idle, Doomed, Running, CoreState, with_segment}
use Rattle.stm_core.specs.Standing.{slot_of}
use Rattle.stm_core.specs.Outside.{Outer, InCore}
use Rattle.stm_core.specs.Solo.{Soloed}
use Rattle.stm_core.specs.Begun.{Begun}
use Rattle.stm_core.specs.Advanced.{Advanced}
use Rattle.stm_core.specs.Committed.{Committed}
use Rattle.stm_core.specs.Pieces.{HasInstalled, IsGivenUp}

-- ---- what a call's answer is replied as

abbrev pub begin_reply : Result (Unit {0}) BeginError → Reply
begin_reply (Ok u) = HasBegun
begin_reply (Err e) = Refused e

abbrev pub advance_reply : Result Advance AdvanceError → Reply
advance_reply (Ok a) = HasAdvanced a
advance_reply (Err (advance.Lost f)) = Lost f
advance_reply (Err (advance.Failed e)) = Failed e

abbrev pub solo_reply : Result (Unit {0}) SoloError → Reply
solo_reply (Ok u) = IsSolo
solo_reply (Err e) = Unsolo e

abbrev pub commit_reply : Result Commit Conflict → Reply
commit_reply (Ok (commit.Committed n)) = HasCommitted n
commit_reply (Ok commit.Nothing) = Nothing
commit_reply (Err f) = Lost f

-- where there is no loan
abbrev pub loan_reply : LoanError → Reply
loan_reply (loan.Lost f) = Lost f
loan_reply loan.OutOfMemory = OutOfMemory

-- of an install
abbrev pub piece_reply : Result ℕ AllocError → Reply
piece_reply (Ok n) = Installed n
piece_reply (Err e) = Failed NoMemoryLeft

-- ---- whether a call's condition holds

-- something is in hand
abbrev pub is_busy : Slot → Bool
is_busy slot.Idle = false
is_busy _ = true

-- so many steps more are within the length
abbrev pub is_within : ℕ → ℕ → Slot → Bool
is_within length m (slot.Running t n solo) = is_short length (n + m)
is_within length m _ = true

-- what stays the same in all events: the most steps of a transaction, the steps of the history at which none begins any
-- more, how many segments there are, and the store's limit of words
pub record Limits : Type 0 where
  pub length : ℕ
  pub budget : ℕ
  pub segments : ℕ
  pub words : ℕ

-- the condition of an event
abbrev pub may_make : {S : Type 0} → Limits → CoreState S → Event → Bool
may_make l c (event.Begin k t) = nat_lt k l.segments
may_make l c (event.Advance k m) = nat_lt k l.segments &&
    (is_busy (slot_of (c.segments k)) && (nat_lt 0 m && is_within l.length m (slot_of (c.segments k))))
may_make l c (event.Solo k) = nat_lt k l.segments && is_busy (slot_of (c.segments k))
may_make l c (event.Commit k) = nat_lt k l.segments && is_busy (slot_of (c.segments k))
may_make l c (event.Piece k m) = nat_lt k l.segments &&
    (is_busy (slot_of (c.segments k)) && (nat_lt 0 m && is_within l.length 1 (slot_of (c.segments k))))

-- ---- pieces

-- What a piece of at most m steps of a transaction that runs on segment k is replied, and what it leaves: it was
-- installed; there was no memory for its install, and the transaction failed for that; or there was none for its loan,
-- and nothing changed. One that is installed at once fits.
abbrev pub PieceRan : {S : Type 0} → Prog S → Limits → ℕ → ℕ → Reply → Outer S → Outer S → Type 0
PieceRan {S} p l k m (Installed n) o o1 =
    (n ≤ m) × (g : Heap) × (g1 : Heap) × (q1 : S) × HasInstalled p l.length k g g1 n q1 o o1
PieceRan p l k m (Failed e) o o1 =
    (e ≡ NoMemoryLeft) × (reserved : ℕ) × IsGivenUp p k l.segments reserved l.words o o1
PieceRan p l k m OutOfMemory o o1 = o1 ≡ o
PieceRan p l k m _ o o1 = ⊥

-- by what the segment has in hand: a doomed one is told its conflict and is idle then; and where the thread of one that
-- runs has ended, nothing changes
abbrev pub PieceFrom : {S : Type 0} → Segment S → Prog S → Limits → ℕ → ℕ → Reply → Outer S → Outer S → Type 0
PieceFrom Idle p l k m r o o1 = ⊥
PieceFrom (Doomed f) p l k m r o o1 = (r ≡ Lost f) × (o1 ≡ record o { core = with_segment k Idle o.core })
PieceFrom (Running x) p l k m r o o1 =
    (p.life x.state ≢ Lives → (r ≡ Skipped) × (o1 ≡ o)) × (p.life x.state ≡ Lives → PieceRan p l k m r o o1)

-- ---- events

-- an event whose condition holds
abbrev pub Made : {S : Type 0} → Prog S → Limits → Event → Reply → Outer S → Outer S → Type 0
Made p l (event.Begin k t) r o o1 = (result : Result (Unit {0}) BeginError) × (r ≡ begin_reply result) × InCore
    (Begun p k t l.budget result) o o1
Made p l (event.Advance k m) r o o1 = (result : Result Advance AdvanceError) × (reserved : ℕ) ×
    (r ≡ advance_reply result) × Advanced p l.length k l.segments m reserved l.words o result o1
Made p l (event.Solo k) r o o1 = (result : Result (Unit {0}) SoloError) × (r ≡ solo_reply result) × Soloed k result o o1
Made p l (event.Commit k) r o o1 = (result : Result Commit Conflict) × (r ≡ commit_reply result) × InCore
    (Committed p k l.segments result) o o1
Made p l (event.Piece k m) r o o1 = PieceFrom (o.core.segments k) p l k m r o o1

-- it is made where its condition holds, and skipped otherwise
abbrev pub MadeIf : {S : Type 0} → Prog S → Limits → Event → Bool → Reply → Outer S → Outer S → Type 0
MadeIf p l e true r o o1 = Made p l e r o o1
MadeIf p l e false r o o1 = (r ≡ Skipped) × (o1 ≡ o)

abbrev pub EventMade : {S : Type 0} → Prog S → Limits → Event → Reply → Outer S → Outer S → Type 0
EventMade p l e r o o1 = MadeIf p l e (may_make l o.core e) r o o1

-- events one after another, each with its reply
abbrev pub EventsMade : {S : Type 0} → Prog S → Limits → List Event → List Reply → Outer S → Outer S → Type 0
EventsMade p l [] [] o o1 = o1 ≡ o
EventsMade {S} p l (e ∷ es) (r ∷ rs) o o1 = (u : Outer S) × EventMade p l e r o u × EventsMade p l es rs u o1
EventsMade p l _ _ o o1 = ⊥
