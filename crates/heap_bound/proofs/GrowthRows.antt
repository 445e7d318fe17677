-- Worked rows that don't compute: what bounds the growths of the program of `specs/Worked`, that its history is a run,
-- and how far peaks rise in its first step. States `docs/HEAP.md`, "The bound on a full heap".
use Rattle.std.proofs.Common.{◌≡◌, ◌≢◌, ◌⊎◌, inl, inr, ℕ, zero, suc, ◌+◌, ◌≤◌, Bool, false, true, cond, ◌||◌, eqb, List, [], ◌∷◌, ◌++◌, Some, None, slice_get, refl, sym, ap, subst, subst₂, ◌∙◌, arith}
use Rattle.std.proofs.lemmas.Bool.{eq-eqb, ne_eqb, cond-true, cond-false}
use Rattle.std.proofs.lemmas.List.{append-nil}
use Rattle.std.proofs.lemmas.List.Sums.{sum_by-cons}
use Rattle.std.proofs.lemmas.List.Elements.{All-nil, All-cons}
use Rattle.py_data.specs.Heap.{Heap, put_at, no_records, room_of}
use Rattle.py_data.specs.Sense.{Run, Upto}
use Rattle.py_data.specs.Sight.{Sight, opened, made_new}
use Rattle.py_data.specs.World.{World}
use Rattle.lock_run.specs.declared.client.Life.TheVariants.{Lives, Ended as HasEnded}
use Rattle.lock_run.specs.declared.client.Outcome.{Outcome}
use Rattle.lock_run.specs.declared.client.Outcome.TheVariants.{Done, Ended}
use Rattle.lock_run.specs.declared.turn.Turn.{Turn}
use Rattle.lock_run.specs.Machine.{Machine, Step, Steps, DoesTurn, Runs}
use Rattle.seg_store.specs.Extents.{class_holding, extents, words_at}
use Rattle.seg_store.specs.Sums.{sum_below}
use Rattle.seg_store.specs.Meaning.{over}
use Rattle.stm_segment.specs.CoreState.{Transaction, Idle, Running, CoreState, sight_of, with_segment}
use Rattle.stm_core.specs.Moves.{Goes, Next}
use Rattle.stm_core.specs.Advanced.{IsOwn}
use Rattle.stm_core.specs.PeakRises.{Moment, used_then, RisesWithin}
use Rattle.heap_bound.specs.Growth.{words_of, names_in, IsGrowth, BoundsGrowth}
use Rattle.heap_bound.specs.Worked.{a_cell, Stage, Making, Ending, Over, stage_row, one_cell, cell_begins, cell_turn, cell_ends, cell_maker, cell_core, cell_words}

-- ---- what steps of the program leave

-- nothing was made
abbrev Nothing : Heap → Sight Stage → Type 0
Nothing h s = (s.heap ≡ h) × (s.made ≡ []) × (s.started ≡ [])

-- one Cell was made
abbrev OneCell : Heap → Sight Stage → Type 0
OneCell h s = (a : ℕ) × (s.heap ≡ put_at h a a_cell) × (s.made ≡ a ∷ []) × (s.started ≡ [])

-- by the state to which the steps came
abbrev Left : Heap → Stage → Sight Stage → Type 0
Left h Making s = Nothing h s
Left h Ending s = Nothing h s ⊎ OneCell h s
Left h Over s = Nothing h s ⊎ OneCell h s

-- once the Cell is made
abbrev Quiet : Heap → Stage → Sight Stage → Type 0
Quiet h Making s = ⊥
Quiet h Ending s = Nothing h s
Quiet h Over s = Nothing h s

ended_not : {A : Type 0} → HasEnded ≡ Lives → A
ended_not e = absurd cc

step_left : (h : Heap) (q q1 : Stage) (s s1 : Sight Stage) → Step one_cell q s q1 s1 → Left h q s → Left h q1 s1
unfolding Run
step_left h Making q1 s s1 d l =
    let to : q1 ≡ Ending = ap (λ (z : Outcome × Stage). z.1) d.does.3.0 in
    let is : s1 ≡ made_new d.does.0 a_cell s = d.does.3.1 ∙ d.does.2.1 in
    let heap : s1.heap ≡ put_at h d.does.0 a_cell =
    ap (λ (z : Sight Stage). z.heap) is ∙ ap (λ x. put_at x d.does.0 a_cell) l.0 in
    let made : s1.made ≡ d.does.0 ∷ [] = ap (λ (z : Sight Stage). z.made) is ∙ ap (λ x. x ++ d.does.0 ∷ []) l.1 in
    let started : s1.started ≡ [] = ap (λ (z : Sight Stage). z.started) is ∙ l.2 in
    subst (λ z. Left h z s1) (sym to) (inr (d.does.0, heap, made, started))
step_left h Ending q1 s s1 d l = subst₂ (λ z w. Left h z w) (sym (ap (λ (z : Outcome × Stage). z.1) d.does.0))
    (sym d.does.1) l
step_left h Over q1 s s1 d l = ended_not d.lives

step_quiet : (h : Heap) (q q1 : Stage) (s s1 : Sight Stage) → Step one_cell q s q1 s1 → Quiet h q s → Quiet h q1 s1
unfolding Run
step_quiet h Making q1 s s1 d l = absurd l
step_quiet h Ending q1 s s1 d l = subst₂ (λ z w. Quiet h z w) (sym (ap (λ (z : Outcome × Stage). z.1) d.does.0))
    (sym d.does.1) l
step_quiet h Over q1 s s1 d l = ended_not d.lives

-- no step leads back
step_onward : (q q1 : Stage) (s s1 : Sight Stage) → Step one_cell q s q1 s1 → q1 ≢ Making
unfolding Run
step_onward Making q1 s s1 d e = let to : q1 ≡ Ending = ap (λ (z : Outcome × Stage). z.1) d.does.3.0 in absurd cc
step_onward Ending q1 s s1 d e = let to : q1 ≡ Over = ap (λ (z : Outcome × Stage). z.1) d.does.0 in absurd cc
step_onward Over q1 s s1 d e = ended_not d.lives

-- what each step keeps
along : (P : Stage → Sight Stage → Type 0) →
    ((q q1 : Stage) (s s1 : Sight Stage) → Step one_cell q s q1 s1 → P q s → P q1 s1)
    → (n : ℕ) (q q1 : Stage) (s s1 : Sight Stage) → Steps one_cell n q s q1 s1 → P q s → P q1 s1
along P keeps zero q q1 s s1 d l = subst₂ P (sym d.0) (sym d.1) l
along P keeps (suc n) q q1 s s1 d l = keeps d.0 q1 d.1 s1 d.3 (along P keeps n q d.0 s d.1 d.2 l)

opened_left : (h : Heap) (w : World) (q : Stage) → Left h q (opened Stage h w)
opened_left h w Making = (refl, refl, refl)
opened_left h w Ending = inl (refl, refl, refl)
opened_left h w Over = inl (refl, refl, refl)

opened_quiet : (h : Heap) (w : World) (q : Stage) → q ≢ Making → Quiet h q (opened Stage h w)
opened_quiet h w Making n = absurd (n refl)
opened_quiet h w Ending n = (refl, refl, refl)
opened_quiet h w Over n = (refl, refl, refl)

came : (h : Heap) (q : Stage) (s : Sight Stage) → Left h q s → Nothing h s ⊎ OneCell h s
came h Making s l = inl l
came h Ending s l = l
came h Over s l = l

silent : (h : Heap) (q : Stage) (s : Sight Stage) → Quiet h q s → Nothing h s
silent h Making s l = absurd l
silent h Ending s l = l
silent h Over s l = l

started_none : (h : Heap) (s : Sight Stage) → Nothing h s ⊎ OneCell h s → s.started ≡ []
started_none h s (inl n) = n.2
started_none h s (inr o) = o.3

-- ---- the growths

no_growth : (h : Heap) (names : List ℕ) (s : Sight Stage) (bound : ℕ) → Nothing h s → words_of s.heap
    (names ++ s.made) ≤ words_of h names + bound
no_growth h names s bound n = subst₂ (λ x y. words_of x (names ++ y) ≤ words_of h names + bound) (sym n.0) (sym n.1)
    (subst (λ y. words_of h y ≤ words_of h names + bound) (sym (append-nil names)) (omega arith))

cell_growth : (h : Heap) (s : Sight Stage) → OneCell h s → words_of s.heap s.made ≡ 6
cell_growth h s o =
    let there : put_at h o.0 a_cell o.0 ≡ Some a_cell = cond-true _ _ _ (eq-eqb o.0 o.0 refl) in
    let words : words_at (put_at h o.0 a_cell o.0) ≡ 6 = ap words_at there ∙ cell_words in
    let sum = sum_by-cons (λ a. words_at (put_at h o.0 a_cell a)) o.0 [] in
    subst₂ (λ x y. words_of x y ≡ 6) (sym o.1) (sym o.2) (omega (arith, sum, words))

first_growth : (h : Heap) (s : Sight Stage) → Nothing h s ⊎ OneCell h s → words_of s.heap s.made ≤ 0 + 6
first_growth h s (inl n) = no_growth h [] s 6 n
first_growth h s (inr o) = let e : words_of s.heap s.made ≡ 6 = cell_growth h s o in omega arith

-- after the turn the only thread has made its Cell
only_one : (q before : Stage) (t : ℕ) → slice_get (q ∷ []) t ≡ Some before → before ≡ q
only_one q before zero e = cc
only_one q before (suc t) e = absurd cc

turn_over : (m : Machine Stage) (t : ℕ) (before : Stage) → DoesTurn one_cell cell_begins cell_turn m →
    slice_get m.threads t ≡ Some before → before ≢ Making
turn_over m t before d there is =
    let onward : d.after ≢ Making = step_onward d.steps.0 d.after d.steps.1 d.sight d.steps.3 in
    let left : Left cell_begins.heap d.after d.sight = along (Left cell_begins.heap) (step_left cell_begins.heap) 2
    d.before d.after (opened Stage cell_begins.heap cell_begins.world) d.sight d.steps
    (opened_left cell_begins.heap cell_begins.world d.before) in
    let none : d.sight.started ≡ [] = started_none cell_begins.heap d.sight
    (came cell_begins.heap d.after d.sight left) in
    let threads : m.threads ≡ d.after ∷ [] = ap (λ (z : Machine Stage). z.threads) d.gives ∙
    ap (λ x. d.after ∷ x) none in
    let same : before ≡ d.after = only_one d.after before t (ap (λ x. slice_get x t) (sym threads) ∙ there) in
    onward (sym same ∙ is)

after_none : (front rest : List Turn) → cell_turn ∷ [] ≡ front ++ rest → (m : Machine Stage) → Runs one_cell
    cell_begins front m → (s : Sight Stage) → (t n : ℕ) (before after : Stage) → slice_get m.threads t ≡ Some before →
    Steps one_cell n before (opened Stage m.heap m.world) after s → words_of s.heap (names_in front ++ s.made) ≤
    words_of m.heap (names_in front) + 6
after_none [] rest is m run s t n before after there steps = first_growth m.heap s (came m.heap after s
    (along (Left m.heap) (step_left m.heap) n before after (opened Stage m.heap m.world) s steps
    (opened_left m.heap m.world before)))
after_none (x ∷ []) rest is m run s t n before after there steps =
    let same : x ≡ cell_turn = cc in
    let turn : DoesTurn one_cell cell_begins cell_turn m = subst₂ (DoesTurn one_cell cell_begins) same (sym run.2)
    run.1 in
    no_growth m.heap (names_in (x ∷ [])) s 6 (silent m.heap after s
    (along (Quiet m.heap) (step_quiet m.heap) n before after (opened Stage m.heap m.world) s steps
    (opened_quiet m.heap m.world before (turn_over m t before turn there))))
after_none (x ∷ y ∷ zs) rest is m run s t n before after there steps = absurd cc

-- 6 words, those of a Cell, bound each growth, whatever the length
pub bounds_growth : (length : ℕ) → BoundsGrowth one_cell cell_begins length (cell_turn ∷ []) 6
bounds_growth length = record {
  each = λ front m s g. after_none front g.rest g.is m g.run s g.thread g.n g.before g.after g.there g.steps;
}

-- ---- the history is a run, and fewer words don't bound its growths

abbrev opened_first : Sight Stage
opened_first = opened Stage cell_begins.heap cell_begins.world

abbrev one_made : Sight Stage
one_made = made_new 1 a_cell opened_first

makes : Step one_cell Making opened_first Ending one_made
unfolding Run
makes = record { lives = refl; outcome = Done; goes_on = λ e. cc; does = (1, one_made, (refl, refl), (refl, refl)) }

ends : Step one_cell Ending one_made Over one_made
unfolding Run
ends = record { lives = refl; outcome = Ended; goes_on = λ e. cc; does = (refl, refl) }

pub cell_runs : Runs one_cell cell_begins (cell_turn ∷ []) cell_ends
cell_runs = (
  cell_ends,
  record {
    before = Making;
    after = Over;
    sight = one_made;
    is = refl;
    some = omega arith;
    steps = (Ending, one_made, (Making, opened_first, (refl, refl), makes), ends);
    names = refl;
    gives = refl;
  },
  refl,
)

one_step : (length : ℕ) → 1 ≤ length → IsGrowth one_cell cell_begins length (cell_turn ∷ []) [] cell_begins one_made
one_step length l = record {
  rest = cell_turn ∷ [];
  is = refl;
  run = refl;
  thread = 0;
  before = Making;
  there = refl;
  n = 1;
  short = l;
  after = Ending;
  steps = (Making, opened_first, (refl, refl), makes);
}

-- so no fewer words bound the growths
pub at_least_six : (length bound : ℕ) → 1 ≤ length → BoundsGrowth one_cell cell_begins length (cell_turn ∷ []) bound →
    6 ≤ bound
at_least_six length bound l b =
    let h : words_of one_made.heap one_made.made ≤ 0 + bound = b.each [] cell_begins one_made (one_step length l) in
    let e : words_of one_made.heap one_made.made ≡ 6 = cell_growth no_records one_made (1, refl, refl, refl) in
    omega arith

-- ---- moments in its first step, and after it

-- the first step is about to make the Cell
cell_moment : (most : ℕ) → 1 ≤ most → Moment one_cell most 0 cell_core
unfolding Upto
cell_moment most l = record {
  now = cell_core;
  led = record { moves = []; follows = refl; own = All-nil (IsOwn 0) };
  last = cell_maker;
  runs = refl;
  small = l;
  lives = refl;
  left = stage_row Making;
  place = sight_of cell_core.image cell_core.world cell_maker;
  upto = inl (refl, refl);
}

-- so a header more is in use then, and a body, and no extent of class 3
header_more : (most : ℕ) (l : 1 ≤ most) → used_then 8 2 (cell_moment most l) 2 ≡ 1
unfolding sum_below class_holding extents room_of cell_moment
header_more most l = refl

body_more : (most : ℕ) (l : 1 ≤ most) → used_then 8 2 (cell_moment most l) 1 ≡ 1
unfolding sum_below class_holding extents room_of cell_moment
body_more most l = refl

no_more : (most : ℕ) (l : 1 ≤ most) → used_then 8 2 (cell_moment most l) 3 ≡ 0
unfolding sum_below class_holding extents room_of cell_moment
no_more most l = refl

-- peaks of 0 rise within that step to the extents of the Cell
pub cell_rises : (most : ℕ) → 1 ≤ most → RisesWithin one_cell most 8 2 0 cell_core (λ c. 0) (extents a_cell)
unfolding sum_below cell_moment
cell_rises most l c some =
    let used : used_then 8 2 (cell_moment most l) c ≡ 0 + extents a_cell c = refl in
    inr (cell_moment most l, omega arith)

-- the transaction and the core once the step was done
abbrev went : Transaction Stage
went = record cell_maker { steps = 1; state = Ending; changes = cell_ends.heap; made = cell_turn.names }

abbrev went_core : CoreState Stage
went_core = with_segment 0 (Running went) cell_core

laid_over : (b : Bool) → cond b (Some a_cell) None ≡ over (cond b (Some a_cell) None) None
laid_over true = refl
laid_over false = refl

none_there : (b : Bool) → (b || false) ≡ false → cond b (Some a_cell) None ≡ None
none_there true e = absurd cc
none_there false e = refl

none_runs : (j : ℕ) (y : Transaction Stage) {A : Type 0} → j ≢ 0 → cell_core.segments j ≡ Running y → A
none_runs j y n runs = let idle : cell_core.segments j ≡ Idle = cond-false _ _ _ (ne_eqb j 0 n) in
    let e : Idle ≡ Running y = sym idle ∙ runs in absurd cc

goes : (most : ℕ) → 1 ≤ most → Next one_cell most cell_core (Goes 0 cell_maker went) went_core
goes most l = (
  refl,
  l,
  record {
    sight = one_made;
    step = makes;
    thread = refl;
    begun = refl;
    solo = refl;
    steps = refl;
    shows = record {
      view = λ a. laid_over (eqb a 1);
      made = refl;
      started = refl;
      looked = λ a h. absurd (let q : false ≡ true = h in cc);
      touched = λ a h. h;
      within = λ a h. none_there (eqb a 1) h;
      locked = λ a h. absurd (let q : false ≡ true = h in cc);
      unused = λ a h. refl;
      world_is = λ h. absurd (let q : false ≡ true = h in cc);
      quiet = λ h. refl;
    };
  },
  record {
    changed = λ j y n runs a h. none_runs j y n runs;
    made = λ j y n runs a h. none_runs j y n runs;
  },
  refl,
)

-- A moment after a move: the second step is about to end. The Cell, which the segment sees and the image hasn't,
-- counts.
later_moment : (most : ℕ) → 2 ≤ most → Moment one_cell most 0 cell_core
unfolding Upto
later_moment most l = record {
  now = went_core;
  led = record {
    moves = Goes 0 cell_maker went ∷ [];
    follows = (went_core, goes most (omega arith), refl);
    own = All-cons (IsOwn 0) (Goes 0 cell_maker went) [] refl (All-nil (IsOwn 0));
  };
  last = went;
  runs = refl;
  small = l;
  lives = refl;
  left = stage_row Ending;
  place = sight_of went_core.image went_core.world went;
  upto = (refl, refl);
}

header_there : (most : ℕ) (l : 2 ≤ most) → used_then 8 2 (later_moment most l) 2 ≡ 1
unfolding sum_below class_holding extents room_of later_moment
header_there most l = refl
