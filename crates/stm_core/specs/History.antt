-- What events leave of the committed state, the history, the conflicts and other segments, for every list of events.
-- States `docs/HEAP.md`, "Events".
use Rattle.std.specs.Prelude.{◌≡◌, ◌≢◌, ◌⊎◌, ℕ, ◌+◌, ◌<◌, ◌≤◌, Bool, true, false, List, [], ◌∷◌, ◌++◌, length, All, AllPairs, Contains, count_by}
use Rattle.std.specs.List.{sum_by}
use Rattle.py_data.specs.declared.stop.Conflict.{Conflict}
use Rattle.py_data.specs.Sight.{mem}
use Rattle.lock_run.specs.declared.turn.Turn.{Turn}
use Rattle.lock_run.specs.Prog.{Prog}
use Rattle.seg_store.specs.Meaning.{overlay}
use Rattle.stm_core.specs.declared.events.Event.{Event}
use Rattle.stm_core.specs.declared.events.Event.TheVariants as event
use Rattle.stm_core.specs.declared.events.Reply.{Reply}
use Rattle.stm_core.specs.declared.events.Reply.TheVariants.{Unsolo, Committed as HasCommitted, Lost, Failed}
use Rattle.stm_core.specs.declared.solo.SoloError.TheVariants as solo
use Rattle.stm_segment.specs.CoreState.{Transaction, Segment, Idle, Doomed, Running, CoreState, turn_of, world_after, threads_after}
use Rattle.stm_segment.specs.Conflict.{side, loser}
use Rattle.stm_core.specs.Moves.{Move, Goes, published}
use Rattle.stm_core.specs.Advanced.{Led, EndsSo, StoodBetween}
use Rattle.stm_core.specs.Events.{Limits}

-- the segment whose call an event is
abbrev pub event_segment : Event → ℕ
event_segment (event.Begin k t) = k
event_segment (event.Advance k m) = k
event_segment (event.Solo k) = k
event_segment (event.Commit k) = k
event_segment (event.Piece k m) = k

-- ---- the committed state and the history

-- both stay as they are
pub record IsQuiet {S : Type 0} (c c1 : CoreState S) : Type 0 where
  pub image : c1.image ≡ c.image
  pub threads : c1.threads ≡ c.threads
  pub world : c1.world ≡ c.world
  pub history : c1.history ≡ c.history

-- A turn is added: the transaction x of segment k, of some steps, becomes the last of the history, and the image what
-- it saw. The segment has nothing in hand then, and no transaction that goes on has looked at a record that x changed.
pub record AddsTurn {S : Type 0} (l : Limits) (k : ℕ) (x : Transaction S) (c c1 : CoreState S) : Type 0 where
  pub some : 1 ≤ x.steps
  pub history : c1.history ≡ c.history ++ turn_of x ∷ []
  pub image : c1.image ≡ overlay c.image x.changes
  pub threads : c1.threads ≡ threads_after c.threads x
  pub world : c1.world ≡ world_after c.world x
  pub idle : c1.segments k ≡ Idle
  pub unread : (j : ℕ) (y : Transaction S) → j < l.segments → c1.segments j ≡ Running y → (a : ℕ) →
      mem a x.changed ≡ true → y.looked a ≡ false

-- The event commits: its segment's transaction becomes the turn of this number.
pub record IsCommit {S : Type 0} (l : Limits) (e : Event) (n : ℕ) (c c1 : CoreState S) : Type 0 where
  pub call : e ≡ event.Commit (event_segment e)
  pub x : Transaction S
  pub runs : c.segments (event_segment e) ≡ Running x
  pub number : n ≡ length c.history
  pub turn : AddsTurn l (event_segment e) x c c1

-- how many steps a move does
abbrev pub steps_of : {S : Type 0} → Move S → ℕ
steps_of (Goes i x x1) = 1
steps_of _ = 0

-- the event asks for at most so many steps of its segment: it is an advance, or a piece
abbrev pub AsksSteps : Event → ℕ → Type 0
AsksSteps (event.Advance k m) n = n ≡ m
AsksSteps (event.Piece k m) n = n ≡ m
AsksSteps _ n = ⊥

-- The event is an advance that fails, or a piece, and its segment's transaction y is solo: moves of the segment, and
-- dooms of others, do fewer steps of it than were asked for, and what it is then, x, becomes a turn.
pub record IsCutOff {S : Type 0} (p : Prog S) (l : Limits) (e : Event) (c c1 : CoreState S) : Type 0 where
  pub most : ℕ
  pub call : AsksSteps e most
  pub y : Transaction S
  pub runs : c.segments (event_segment e) ≡ Running y
  pub left : CoreState S
  pub way : Led p l.length (event_segment e) c left
  pub early : sum_by steps_of way.moves < most
  pub x : Transaction S
  pub ran : left.segments (event_segment e) ≡ Running x
  pub same : side (event_segment e) x ≡ side (event_segment e) y
  pub steps : x.steps ≡ y.steps + sum_by steps_of way.moves
  pub solo : x.solo ≡ true
  pub turn : AddsTurn l (event_segment e) x c c1

-- Image, threads, world and history change by commits alone, each of which adds a turn: of an event that is replied the
-- number of the turn, or of an advance or a piece that fails, whose solo transaction is committed. Any other event
-- leaves them.
abbrev pub Publishes : {S : Type 0} → Prog S → Limits → Event → Reply → CoreState S → CoreState S → Type 0
Publishes p l e (HasCommitted n) c c1 = IsCommit l e n c c1
Publishes p l e (Failed y) c c1 = IsQuiet c c1 ⊎ IsCutOff p l e c c1
Publishes p l e _ c c1 = IsQuiet c c1

-- ---- conflicts, and other segments

-- the segment asks to change what another one has locked
abbrev pub IsAsked : ℕ → Conflict → Type 0
IsAsked k f = (f.other.segment ≡ k) × (f.asks ≡ true)

-- another one has looked at what the segment has locked
abbrev pub IsLookedAt : ℕ → Conflict → Type 0
IsLookedAt k f = (f.writer.segment ≡ k) × (f.asks ≡ false)

-- The conflicts that an event can make: a begin and a call of `solo` make none; an advance those in which its segment
-- asks, and where it adds a turn, that of its solo transaction, those of a commit; a piece only the latter; a commit
-- those in which another one has looked.
abbrev pub IsMadeBy : {S : Type 0} → Event → CoreState S → CoreState S → Conflict → Type 0
IsMadeBy (event.Begin k t) c c1 f = ⊥
IsMadeBy (event.Advance k m) c c1 f = IsAsked k f ⊎
    (IsLookedAt k f × (f.writer.solo ≡ true) × (length c.history < length c1.history))
IsMadeBy (event.Solo k) c c1 f = ⊥
IsMadeBy (event.Commit k) c c1 f = IsLookedAt k f
IsMadeBy (event.Piece k m) c c1 f = IsLookedAt k f × (f.writer.solo ≡ true) × (length c.history < length c1.history)

-- how many steps an event's segment has done in it where a conflict stands: fewer than were asked for, since one more
-- was tried; a commit does none
abbrev pub IsEarly : Event → ℕ → Type 0
IsEarly (event.Advance k m) n = n < m
IsEarly (event.Commit k) n = n ≡ 0
IsEarly (event.Piece k m) n = n < m
IsEarly _ n = ⊥

-- How an event ends after moves of its segment: as it is; or as an advance and a piece do, with a cause kept; or, for a
-- commit, with its transaction committed.
abbrev pub ComesToEnd : {S : Type 0} → Event → CoreState S → CoreState S → Type 0
ComesToEnd (event.Advance k m) u c1 = EndsSo k u c1
ComesToEnd {S} (event.Commit k) u c1 = (c1 ≡ u) ⊎
    ((x : Transaction S) × (u.segments k ≡ Running x) × (c1 ≡ published k x u))
ComesToEnd (event.Piece k m) u c1 = EndsSo k u c1
ComesToEnd _ u c1 = c1 ≡ u

-- The conflict stood in a state that the event came through: moves of its segment, and dooms of others, lead to it from
-- the first state, and from it to the event's end.
pub record HasStood {S : Type 0} (p : Prog S) (most : ℕ) (e : Event) (c c1 : CoreState S) (f : Conflict) : Type 0 where
  pub left : CoreState S
  pub stood : StoodBetween p most (event_segment e) c left f
  pub early : IsEarly e (sum_by steps_of stood.before.moves)
  pub end : ComesToEnd e left c1

-- the transaction that segment j ran lost one of these conflicts
pub record IsDoomed {S : Type 0} (j : ℕ) (fs : List Conflict) (s s1 : Segment S) : Type 0 where
  pub conflict : Conflict
  pub new : Contains fs conflict
  pub y : Transaction S
  pub ran : s ≡ Running y
  pub lost : loser conflict ≡ side j y
  pub now : s1 ≡ Doomed conflict

-- What an event does beside: new conflicts stand at the end of the list, each of them stood, and another segment has in
-- hand what it had, or is doomed by one of them.
pub record LeavesOthers {S : Type 0} (p : Prog S) (most : ℕ) (e : Event) (c c1 : CoreState S) : Type 0 where
  pub new : List Conflict
  pub conflicts : c1.conflicts ≡ c.conflicts ++ new
  pub made : All (IsMadeBy e c c1) new
  pub stood : All (HasStood p most e c c1) new
  pub others : (j : ℕ) → j ≢ event_segment e → (c1.segments j ≡ c.segments j) ⊎ IsDoomed j new (c.segments j)
      (c1.segments j)

-- Where an event is replied a conflict, its segment has nothing in hand any more. It was doomed by that conflict
-- before, or, in an advance or a commit, lost it in this event.
abbrev pub IsToldLost : {S : Type 0} → ℕ → Reply → List Conflict → CoreState S → CoreState S → Type 0
IsToldLost k (Lost f) new c c1 = (c1.segments k ≡ Idle) ×
    ((c.segments k ≡ Doomed f) ⊎ (Contains new f × ((loser f).segment ≡ k)))
IsToldLost k (Unsolo (solo.Lost f)) new c c1 = (c1.segments k ≡ Idle) × (c.segments k ≡ Doomed f)
IsToldLost k _ new c c1 = Unit {0}

-- ---- events

pub record Leaves {S : Type 0} (p : Prog S) (l : Limits) (e : Event) (r : Reply) (c c1 : CoreState S) : Type 0 where
  pub publishes : Publishes p l e r c c1
  pub beside : LeavesOthers p l.length e c c1
  pub told : IsToldLost (event_segment e) r beside.new c c1

-- one after another
abbrev pub AllLeave : {S : Type 0} → Prog S → Limits → List Event → List Reply → CoreState S → CoreState S → Type 0
AllLeave p l [] [] c c1 = c1 ≡ c
AllLeave {S} p l (e ∷ es) (r ∷ rs) c c1 = (u : CoreState S) × Leaves p l e r c u × AllLeave p l es rs u c1
AllLeave p l _ _ c c1 = ⊥

-- the numbers of turns among replies
abbrev pub numbers_of : List Reply → List ℕ
numbers_of [] = []
numbers_of (HasCommitted n ∷ rs) = n ∷ numbers_of rs
numbers_of (r ∷ rs) = numbers_of rs

-- the event failed, for a cause that is kept
abbrev pub has_failed : Reply → Bool
has_failed (Failed y) = true
has_failed _ = false

-- From the first event to the last the history grows by turns, and the conflicts grow. The numbers that were replied
-- ascend, and each is the place of a new turn; every other new turn is one of an event that failed. Where no turn was
-- added the committed state stays.
pub record IsGrown {S : Type 0} (rs : List Reply) (c c1 : CoreState S) : Type 0 where
  pub turns : List Turn
  pub history : c1.history ≡ c.history ++ turns
  pub ascend : AllPairs (λ (m n : ℕ). m < n) (numbers_of rs)
  pub places : All (λ (n : ℕ). (length c.history ≤ n) × (n < length c1.history)) (numbers_of rs)
  pub others : length turns ≤ length (numbers_of rs) + count_by has_failed rs
  pub new : List Conflict
  pub conflicts : c1.conflicts ≡ c.conflicts ++ new
  pub quiet : turns ≡ [] → IsQuiet c c1
