-- What events leave, worked by hand: a commit, a conflict, a solo transaction that fails after a step, and a piece.
-- States `docs/HEAP.md`, "Events".
use Rattle.std.specs.Prelude.{◌≡◌, ℕ, ◌≤◌, ◌<◌, true, false, cond, eqb, [], ◌∷◌, Some, None, Ok, Err, refl}
use Rattle.std.proofs.Common.{ap, subst, sym, arith, inl, inr}
use Rattle.std.proofs.lemmas.List.Elements.{All-nil, All-cons, Contains-push}
use Rattle.py_data.specs.declared.stop.Conflict.{Conflict}
use Rattle.py_base.specs.declared.kind.Kind.TheVariants.{Cell}
use Rattle.py_data.specs.Heap.{Rec, new_rec, put_at, no_records}
use Rattle.py_data.specs.World.{World}
use Rattle.py_data.specs.Sight.{no_marks, with_mark}
use Rattle.lock_run.specs.Prog.{Prog}
use Rattle.seg_store.specs.Meaning.{overlay}
use Rattle.stm_core.specs.declared.answers.Advance.TheVariants.{Ran, Waits, Ended}
use Rattle.stm_core.specs.declared.answers.AdvanceError.TheVariants as advance
use Rattle.stm_segment.specs.declared.cause.Cause.{Cause}
use Rattle.stm_segment.specs.declared.cause.Cause.TheVariants.{WriteFault, OutOfMemory}
use Rattle.stm_core.specs.declared.events.Event.{Event}
use Rattle.stm_core.specs.declared.events.Event.TheVariants.{Begin, Advance, Solo, Commit, Piece}
use Rattle.stm_core.specs.declared.events.Reply.TheVariants.{Skipped, Begun, Unsolo, Committed, Nothing, Lost, Failed, Installed}
use Rattle.stm_core.specs.declared.solo.SoloError.TheVariants as solo
use Rattle.stm_segment.specs.CoreState.{Transaction, Idle, Doomed, Running, CoreState, no_world, turn_of, with_segment}
use Rattle.stm_segment.specs.Conflict.{conflict}
use Rattle.stm_core.specs.Moves.{published}
use Rattle.stm_core.specs.Advanced.{with_cause, tried_after, IsOwn}
use Rattle.stm_core.specs.Events.{Limits}
use Rattle.stm_core.specs.History.{event_segment, AddsTurn, AsksSteps, IsCutOff, Publishes, IsMadeBy, IsEarly, ComesToEnd, IsDoomed, IsToldLost, numbers_of, IsGrown}

abbrev limits : Limits
limits = record { length = 10; budget = 100; segments = 2; words = 0 }

-- ---- numbers

segment_row : event_segment (Advance 1 5) ≡ 1
segment_row = refl

solo_segment_row : event_segment (Solo 1) ≡ 1
solo_segment_row = refl

piece_segment_row : event_segment (Piece 1 5) ≡ 1
piece_segment_row = refl

-- of five steps that are asked for the last one can meet a conflict, after four
early_row : IsEarly (Advance 1 5) 4
early_row = omega arith

late_row : IsEarly (Advance 1 5) 5 → ⊥
late_row h = omega (arith, h)

commit_early_row : IsEarly (Commit 1) 0
commit_early_row = refl

-- a piece that fails has done no step of it
piece_early_row : IsEarly (Piece 1 5) 0
piece_early_row = omega arith

no_piece_row : IsEarly (Piece 1 0) 0 → ⊥
no_piece_row h = omega (arith, h)

-- an advance and a piece ask for steps, and no other event
advance_asks : AsksSteps (Advance 1 5) 5
advance_asks = refl

piece_asks : AsksSteps (Piece 1 5) 5
piece_asks = refl

commit_asks_none : AsksSteps (Commit 1) 0 → ⊥
commit_asks_none h = h

-- ---- a transaction that has done a step and changed the record 3, and one that has looked at it

abbrev a_cell : Rec
a_cell = new_rec Cell [] []

abbrev writer : Transaction ℕ
writer = record {
  thread = 0;
  steps = 1;
  state = 7;
  changes = put_at no_records 3 a_cell;
  changed = 3 ∷ [];
  looked = with_mark 3 no_marks;
  made = [];
  started = [];
  begun = 0;
  solo = false;
  world = no_world;
}

abbrev reader : Transaction ℕ
reader = record writer { thread = 1; changes = no_records; changed = []; begun = 1 }

-- it loses to the writer's commit, or asks to change what the writer has locked
abbrev read_by : Conflict
read_by = conflict 0 writer 1 reader 3 false 1

abbrev asked_by : Conflict
asked_by = conflict 0 writer 1 reader 3 true 1

abbrev won_by : Conflict
won_by = conflict 0 writer 1 reader 3 false 0

reader_doomed : IsDoomed 1 (read_by ∷ []) (Running reader) (Doomed read_by)
reader_doomed = record {
  conflict = read_by;
  new = Contains-push [] read_by;
  y = reader;
  ran = refl;
  lost = refl;
  now = refl;
}

-- ---- the core before and after the writer's commit

abbrev before : CoreState ℕ
before = record {
  image = no_records;
  threads = 5 ∷ 5 ∷ [];
  world = no_world;
  history = [];
  conflicts = [];
  begun = 1;
  last = Some 0;
  cause = None;
  segments = λ i. cond (eqb i 0) (Running writer) Idle;
}

abbrev after : CoreState ℕ
after = record before {
  image = overlay no_records writer.changes;
  threads = 7 ∷ 5 ∷ [];
  history = turn_of writer ∷ [];
  segments = λ i. Idle;
}

writer_turn : AddsTurn limits 0 writer before after
writer_turn = record {
  some = omega arith;
  history = refl;
  image = refl;
  threads = refl;
  world = refl;
  idle = refl;
  unread = λ j y below runs a locked. absurd cc;
}

commit_publishes : (p : Prog ℕ) → Publishes p limits (Commit 0) (Committed 0) before after
commit_publishes p = record { call = refl; x = writer; runs = refl; number = refl; turn = writer_turn }

-- a commit that is told its conflict commits nothing
lost_publishes : (p : Prog ℕ) → Publishes p limits (Commit 0) (Lost read_by) before (with_segment 0 Idle before)
lost_publishes p = record { image = refl; threads = refl; world = refl; history = refl }

-- who makes which conflicts: an advance where it asks, and a commit where another one has looked
commit_makes : IsMadeBy (Commit 0) before after read_by
commit_makes = (refl, refl)

advance_makes : IsMadeBy (Advance 1 5) before before asked_by
advance_makes = inl (refl, refl)

advance_makes_none : IsMadeBy (Advance 0 5) before after read_by → ⊥
advance_makes_none (inl h) = let e = h.1 in absurd cc
advance_makes_none (inr h) = let e = h.1 in absurd cc

-- a piece makes none in which its segment asks
piece_makes_none : IsMadeBy (Piece 1 5) before before asked_by → ⊥
piece_makes_none h = let e = h.0.1 in absurd cc

begin_makes_none : IsMadeBy (Begin 1 1) before before asked_by → ⊥
begin_makes_none h = h

-- a commit that loses a conflict, and one that was doomed by it before
lost_told : IsToldLost 0 (Lost won_by) (won_by ∷ []) before (with_segment 0 Idle before)
lost_told = (refl, inr (Contains-push [] won_by, refl))

doomed_told : IsToldLost 1 (Lost read_by) [] (with_segment 1 (Doomed read_by) before) (with_segment 1 Idle before)
doomed_told = (refl, inl refl)

unsolo_told : IsToldLost 1 (Unsolo (solo.Lost read_by)) [] (with_segment 1 (Doomed read_by) before)
    (with_segment 1 Idle before)
unsolo_told = (refl, refl)

-- the commit ends with its transaction committed, and an advance that dropped its own with a cause
commit_ends : ComesToEnd (Commit 0) before (published 0 writer before)
commit_ends = inr (writer, refl, refl)

advance_ends : ComesToEnd (Advance 0 5) (with_segment 0 Idle before)
    (with_cause OutOfMemory (with_segment 0 Idle before))
advance_ends = inr (OutOfMemory, inl refl)

-- ---- a solo transaction that has done a step and printed, and whose next step is cut in an advance by at most five

abbrev printed : World
printed = record no_world { out = 104 ∷ [] }

abbrev soloist : Transaction ℕ
soloist = record writer { solo = true; world = printed }

abbrev solo_before : CoreState ℕ
solo_before = record before { segments = λ i. cond (eqb i 0) (Running soloist) Idle }

-- the step that it did is committed, and the cause kept
abbrev cut_after : Cause → CoreState ℕ
cut_after e = record after { world = printed; cause = Some e }

abbrev solo_after : CoreState ℕ
solo_after = cut_after WriteFault

soloist_turn : (e : Cause) → AddsTurn limits 0 soloist solo_before (cut_after e)
soloist_turn e = record {
  some = omega arith;
  history = refl;
  image = refl;
  threads = refl;
  world = refl;
  idle = refl;
  unread = λ j y below runs a locked. absurd cc;
}

cut_off : (p : Prog ℕ) (e : Event) (y : Cause) → AsksSteps e 5 → event_segment e ≡ 0 →
    IsCutOff p limits e solo_before (cut_after y)
cut_off p e y asks here = record {
  most = 5;
  call = asks;
  y = soloist;
  runs = ap solo_before.segments here;
  left = solo_before;
  way = record { moves = []; follows = refl; own = All-nil (IsOwn (event_segment e)) };
  early = omega arith;
  x = soloist;
  ran = ap solo_before.segments here;
  same = refl;
  steps = refl;
  solo = refl;
  turn = subst (λ k. AddsTurn limits k soloist solo_before (cut_after y)) (sym here) (soloist_turn y);
}

failed_publishes : (p : Prog ℕ) → Publishes p limits (Advance 0 5) (Failed WriteFault) solo_before solo_after
failed_publishes p = inr (cut_off p (Advance 0 5) WriteFault refl refl)

failed_ends : ComesToEnd (Advance 0 5) solo_before (with_cause WriteFault (published 0 soloist solo_before))
failed_ends = inr (WriteFault, inr (soloist, refl, refl, omega arith, refl))

-- it dooms who has looked
failed_makes : IsMadeBy (Advance 0 5) solo_before solo_after (conflict 0 soloist 1 reader 3 false 1)
failed_makes = inr ((refl, refl), refl, omega arith)

-- ---- the same where there was no memory for a piece of at most five steps

abbrev piece_after : CoreState ℕ
piece_after = cut_after OutOfMemory

piece_publishes : (p : Prog ℕ) → Publishes p limits (Piece 0 5) (Failed OutOfMemory) solo_before piece_after
piece_publishes p = inr (cut_off p (Piece 0 5) OutOfMemory refl refl)

piece_ends : ComesToEnd (Piece 0 5) solo_before (with_cause OutOfMemory (published 0 soloist solo_before))
piece_ends = inr (OutOfMemory, inr (soloist, refl, refl, omega arith, refl))

piece_makes : IsMadeBy (Piece 0 5) solo_before piece_after (conflict 0 soloist 1 reader 3 false 1)
piece_makes = ((refl, refl), refl, omega arith)

-- one that is installed commits nothing
installed_publishes : (p : Prog ℕ) → Publishes p limits (Piece 0 5) (Installed 2) before before
installed_publishes p = record { image = refl; threads = refl; world = refl; history = refl }

-- ---- nothing is committed

-- an advance that fails may commit nothing
dropped_publishes : (p : Prog ℕ) → Publishes p limits (Advance 0 5) (Failed OutOfMemory) before
    (with_cause OutOfMemory (with_segment 0 Idle before))
dropped_publishes p = inl (record { image = refl; threads = refl; world = refl; history = refl })

-- ---- steps that were tried after those that were done

ran_tried : tried_after (Ok (Ran 5)) ≡ 0
ran_tried = refl

ended_tried : tried_after (Ok (Ended 2)) ≡ 0
ended_tried = refl

waits_tried : tried_after (Ok (Waits 2)) ≡ 1
waits_tried = refl

lost_tried : tried_after (Err (advance.Lost asked_by)) ≡ 1
lost_tried = refl

-- ---- replies

numbers_row : numbers_of (Begun ∷ Committed 0 ∷ Skipped ∷ Lost read_by ∷ Nothing ∷ Committed 1 ∷ []) ≡ 0 ∷ 1 ∷ []
numbers_row = refl

no_numbers_row : numbers_of (Begun ∷ Lost read_by ∷ Installed 2 ∷ []) ≡ []
no_numbers_row = refl

history_grown : IsGrown (Committed 0 ∷ []) before after
history_grown = record {
  turns = turn_of writer ∷ [];
  history = refl;
  ascend = λ i j d lt below. absurd (omega (arith, lt, below));
  places = All-cons (λ (n : ℕ). (0 ≤ n) × (n < 1)) 0 [] (omega arith, omega arith)
      (All-nil (λ (n : ℕ). (0 ≤ n) × (n < 1)));
  others = omega arith;
  new = [];
  conflicts = refl;
  quiet = λ e. absurd cc;
}

-- the turn of an event that failed has no number
failed_grown : IsGrown (Failed WriteFault ∷ []) solo_before solo_after
failed_grown = record {
  turns = turn_of soloist ∷ [];
  history = refl;
  ascend = λ i j d lt below. absurd (omega (arith, below));
  places = All-nil (λ (n : ℕ). (0 ≤ n) × (n < 1));
  others = omega arith;
  new = [];
  conflicts = refl;
  quiet = λ e. absurd cc;
}
