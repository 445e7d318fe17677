-- The words of a run, what a core has in use, and how far peaks may rise, worked by hand.
-- States `docs/HEAP.md`, "The bound on a full heap".
use Rattle.std.specs.Prelude.{◌≡◌, ℕ, ◌+◌, ◌*◌, false, cond, eqb, List, [], ◌∷◌, refl, Some, None}
use Rattle.std.proofs.Common.{inl, inr, arith}
use Rattle.py_base.specs.declared.kind.Kind.TheVariants.{Str, Tuple, Dict, Cell, Class}
use Rattle.py_data.specs.declared.value.Value.TheVariants.{None as NoneValue}
use Rattle.py_data.specs.declared.change.Change.TheVariants.{Push}
use Rattle.py_data.specs.declared.value.Addr.{Addr}
use Rattle.py_data.specs.Sight.{no_marks}
use Rattle.py_data.specs.Heap.{Rec, Heap, at, new_rec, no_records, put_at, room_of}
use Rattle.py_data.specs.Row.{Row, Ret, Do, Edit, Make, Read}
use Rattle.seg_store.specs.Extents.{class_holding, extents, words_in, words_at}
use Rattle.seg_store.specs.Sums.{sum_below}
use Rattle.seg_store.specs.Worked.{nones, a_list}
use Rattle.stm_segment.specs.CoreState.{Transaction, Idle, Running, CoreState, no_world, fresh, core_new, with_segment}
use Rattle.lock_run.specs.declared.client.Life.{Life}
use Rattle.lock_run.specs.declared.client.Life.TheVariants.{Lives, Ended as HasEnded}
use Rattle.lock_run.specs.declared.client.Outcome.{Outcome}
use Rattle.lock_run.specs.declared.client.Outcome.TheVariants.{Done, Ended}
use Rattle.lock_run.specs.declared.turn.Turn.{Turn}
use Rattle.lock_run.specs.Machine.{Machine, begin_with}
use Rattle.lock_run.specs.Prog.{Prog}
use Rattle.heap_bound.specs.Growth.{words_of, names_in}
use Rattle.stm_segment.specs.InUse.{core_use, wants_more, RisesUpTo}

-- ---- words of names

abbrev pub a_cell : Rec
a_cell = new_rec Cell (nones 1) []

-- a Cell, and a List of 256 values with room for no more
abbrev two_records : Heap
two_records = put_at (put_at no_records 1 a_cell) 4 (a_list 256 256 0)

both_words : words_of two_records (1 ∷ 4 ∷ []) ≡ 1_032
unfolding class_holding extents words_in room_of
both_words = refl

-- a name of which no record is there has no words
no_words : words_of two_records (2 ∷ []) ≡ 0
unfolding words_in
no_words = refl

-- a small program's heap: a count of threads, 18 short names and two longer ones, 20 Dicts and 20 Classes, two short
-- texts, a Cell, 24 roots, and a List grown to room 256
pub small_heap : 2 + words_at (Some a_cell) + 18 * words_at (Some (new_rec Str [] (65 ∷ []))) + 2 * 8 +
    20 * words_at (Some (new_rec Dict [] [])) + 20 * words_at (Some (new_rec Class (nones 3) [])) + 2 * 6 +
    words_at (Some a_cell) + words_at (Some (new_rec Tuple (nones 24) [])) + words_at (Some (a_list 256 256 0)) ≡ 1_684
unfolding class_holding extents words_in room_of
small_heap = refl

-- ---- the names of a run

abbrev a_name : ℕ → Addr
a_name a = record { 0 = a }

abbrev a_turn : ℕ → List Addr → Turn
a_turn t names = record { thread = t; steps = 1; names = names }

names_of_turns : names_in (a_turn 0 (a_name 1 ∷ a_name 4 ∷ []) ∷ a_turn 1 [] ∷ a_turn 0 (a_name 6 ∷ []) ∷ []) ≡
    1 ∷ 4 ∷ 6 ∷ []
names_of_turns = refl

-- ---- what a core has in use

-- a segment made a second Cell, and another one sees the image
abbrev maker : (S : Type 0) → S → Transaction S
maker S q = record {
  thread = 0;
  steps = 1;
  state = q;
  changes = put_at no_records 6 a_cell;
  changed = [];
  looked = no_marks;
  made = a_name 6 ∷ [];
  started = [];
  begun = 0;
  solo = false;
  world = no_world;
}

abbrev a_core : (S : Type 0) → S → CoreState S
a_core S q = record {
  image = two_records;
  threads = q ∷ [];
  world = no_world;
  history = [];
  conflicts = [];
  begun = 1;
  last = Some 0;
  cause = None;
  segments = λ i. cond (eqb i 0) (Running (maker S q)) Idle;
}

-- two headers and a body of the List in the image, and a header of the first segment
headers_in_use : (S : Type 0) (q : S) → core_use 8 2 1 two_records (a_core S q) 2 ≡ 4
unfolding sum_below class_holding extents room_of
headers_in_use S q = refl

-- the second segment has the List with its next body: one more, of class 10
bodies_in_use : (S : Type 0) (q : S) → core_use 8 2 1 (put_at two_records 4 (a_list 257 512 0)) (a_core S q) 10 ≡ 1
unfolding sum_below class_holding extents room_of
bodies_in_use S q = refl

-- ---- by how much a call enlarges a heap

push_wants : (S : Type 0) → wants_more {S = S} (Edit 4 (Push NoneValue)) two_records 10 ≡ 1
unfolding class_holding extents at
push_wants S = refl

push_wants_no_more : (S : Type 0) → wants_more {S = S} (Edit 4 (Push NoneValue)) two_records 9 ≡ 0
unfolding class_holding extents at
push_wants_no_more S = refl

make_wants : (S : Type 0) → wants_more {S = S} (Make a_cell) two_records 2 ≡ 1
unfolding class_holding extents room_of
make_wants S = refl

look_wants : (S : Type 0) → wants_more {S = S} (Read 4) two_records 2 ≡ 0
look_wants S = refl

-- ---- how far peaks may rise

to_use : RisesUpTo (λ c. 3) (λ c. 4) (λ c. 4)
to_use c l = inr (omega arith)

beyond_use : RisesUpTo (λ c. 3) (λ c. 5) (λ c. 4) → ⊥
beyond_use h = elim (h 1 (omega arith)) [ inl l ↦ absurd (omega arith) | inr l ↦ absurd (omega arith) ]

-- ---- a thread that makes a Cell in its first step, and ends in its second

pub data Stage : Type 0 where
  Making : Stage
  Ending : Stage
  Over : Stage

abbrev pub stage_row : Stage → Row Stage (Outcome × Stage)
stage_row Making = Do (Make a_cell) (λ a. Ret (Done, Ending))
stage_row Ending = Ret (Ended, Over)
stage_row Over = Ret (Ended, Over)

abbrev pub stage_life : Stage → Life
stage_life Making = Lives
stage_life Ending = Lives
stage_life Over = HasEnded

abbrev pub one_cell : Prog Stage
one_cell = record { row = stage_row; life = stage_life; first = Making }

-- its machine before and after both steps, which are one turn
abbrev pub cell_begins : Machine Stage
cell_begins = begin_with one_cell no_world

abbrev pub cell_turn : Turn
cell_turn = record { thread = 0; steps = 2; names = a_name 1 ∷ [] }

abbrev pub cell_ends : Machine Stage
cell_ends = record { heap = put_at no_records 1 a_cell; threads = Over ∷ []; world = no_world }

pub cell_words : words_at (Some a_cell) ≡ 6
unfolding class_holding extents words_in room_of
cell_words = refl

-- with 6 as the bound, what the bound on a full heap says of two segments
pub cell_room : 2 + words_of cell_ends.heap (names_in (cell_turn ∷ [])) + (21 * 2 + 1) * 6 ≡ 266
unfolding class_holding extents words_in room_of
cell_room = refl

-- a core whose first segment runs that thread, which has done no step
abbrev pub cell_maker : Transaction Stage
cell_maker = fresh (core_new one_cell no_world) 0 Making

abbrev pub cell_core : CoreState Stage
cell_core = with_segment 0 (Running cell_maker) (core_new one_cell no_world)
