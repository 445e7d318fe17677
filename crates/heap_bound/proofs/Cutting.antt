-- The steps of a good core's transactions that were cut, and those of a thread that met a full heap.
use Rattle.std.proofs.Common.{◌≡◌, inr, ℕ, false, List, Some, None, slice_get, sym, subst}
use Rattle.py_data.specs.Heap.{Heap}
use Rattle.py_data.specs.Row.{Call, Reply, Row, Do}
use Rattle.py_data.specs.Sense.{Upto, Safe}
use Rattle.py_data.specs.Sight.{Sight, opened, pure}
use Rattle.lock_run.specs.declared.client.Outcome.{Outcome}
use Rattle.lock_run.specs.Client.{WaitsQuietly, StaysSound, IsSafe}
use Rattle.lock_run.specs.Prog.{Prog}
use Rattle.lock_run.specs.Machine.{Machine}
use Rattle.lock_run.proofs.Stepping.{get_set}
use Rattle.seg_store.specs.Meaning.{overlay}
use Rattle.stm_segment.specs.declared.cause.Cause.TheVariants.{Full, ReadFault, WriteFault, ErrFault, OutOfMemory}
use Rattle.stm_segment.specs.Asking.{CallWants}
use Rattle.stm_segment.specs.CoreState.{Transaction, Running, CoreState, committed, sight_of}
use Rattle.stm_core.specs.Good.{Good}
use Rattle.stm_core.specs.Moves.{Move, Begins, Drops, Dooms, Loses, Goes, Rests, Commits, Keeps, Next, ComesToWant}
use Rattle.stm_core.proofs.Soundness.{sound_steps, first_sound, sound_run, sound_transaction}
use Rattle.heap_bound.specs.Laws.{IsStart, MayStep, PlaceLaw, NextLaw, KeptLaw}
use Rattle.heap_bound.specs.Moments.{More, Came, IsAsked, IsWanted}
use Rattle.heap_bound.specs.Using.{KeepsWanted}
use Rattle.heap_bound.proofs.Finish.{Ends}
use Rattle.heap_bound.proofs.Larger.{more_refl}
use Rattle.heap_bound.proofs.Reaching.{ThreadAt, steps_end, runs_end, shown_same, stands_shown, place_asked, place_wanted}

empty_ends : (h : Heap) → ((a : ℕ) → h a ≡ None) → Ends h
empty_ends h e = record { number = 0; none = λ a l. e a }

-- what a transaction sees is what its steps leave
module _ {S : Type 0} (p : Prog S) (start : Machine S) (most : ℕ) (k : CoreState S) (good : Good p start most k) (i : ℕ)
    (x : Transaction S) (is : k.segments i ≡ Running x) where
  stands_came : Came p most (committed k) (good.stands i x is).sight
  stands_came = let st = good.stands i x is in
      record {
        thread = x.thread;
        before = st.before;
        is = st.is;
        n = x.steps;
        short = (good.at_most i x is).0;
        after = x.state;
        steps = st.steps;
      }

  sees_heap : (good.stands i x is).sight.heap ≡ overlay k.image x.changes
  sees_heap = λ j a. (good.stands i x is).shows.view a j

  pub stands_asked : IsAsked p most (committed k) (overlay k.image x.changes)
  stands_asked = inr (
    (good.stands i x is).sight,
    stands_came,
    subst (λ h. More h (good.stands i x is).sight.heap)
        sees_heap (more_refl (good.stands i x is).sight.heap),
  )

module _ {S : Type 0} (p : Prog S) (sound : Heap → List S → Type 0) (law : StaysSound p sound) (safe : IsSafe p sound)
    (quiet : WaitsQuietly p) (start : Machine S) (begins : IsStart sound start) (most : ℕ) (k : CoreState S)
    (good : Good p start most k) where
  image_ends : Ends k.image
  image_ends = runs_end p k.history start (committed k) good.run (empty_ends start.heap begins.empty)

  -- ---- of a transaction that runs

  pub stands_at : (i : ℕ) (x : Transaction S) (g : MayStep p most k i x) →
      ThreadAt p most (committed k) x.state (good.stands i x g.runs).sight
  stands_at i x g =
      let st = good.stands i x g.runs in
      let f = sound_transaction p sound law start most k i x begins.first good g.runs in
      let can : Safe false (p.row x.state) (overlay k.image x.changes) =
      safe f.0 f.1 x.state (overlay k.image x.changes) f.3 f.2 g.lives in
      record {
        thread = x.thread;
        before = st.before;
        is = st.is;
        n = x.steps;
        small = g.small;
        steps = st.steps;
        lives = g.lives;
        safe = record {
          safe = subst (Safe false (p.row x.state)) (sym (sees_heap p start most k good i x g.runs)) can;
          ends = steps_end p x.steps st.before (opened S k.image k.world) x.state st.sight st.steps image_ends;
        };
      }

  pub transaction_asked : (i : ℕ) (x : Transaction S) → MayStep p most k i x →
      (left : Row S (Outcome × S)) (place : Sight S) →
      Upto pure (p.row x.state) (sight_of k.image k.world x) left place → IsAsked p most (committed k) place.heap
  transaction_asked i x g left place upto =
      let st = good.stands i x g.runs in
      place_asked p quiet most (committed k) x.state st.sight (sight_of k.image k.world x) (stands_at i x g)
      (stands_shown p k.image k.threads k.world x st) left place upto

  pub transaction_wanted : (i : ℕ) (x : Transaction S) → MayStep p most k i x → (call : Call S)
      (next : Reply call → Row S (Outcome × S)) (place : Sight S) →
      Upto pure (p.row x.state) (sight_of k.image k.world x) (Do call next) place → (n : ℕ) →
      CallWants call place.heap n →
      IsWanted p most (committed k) n
  transaction_wanted i x g call next place upto n w =
      let st = good.stands i x g.runs in
      place_wanted p quiet most (committed k) x.state st.sight (sight_of k.image k.world x) (stands_at i x g)
      (stands_shown p k.image k.threads k.world x st) call next place upto n w

  -- ---- of a thread that no segment runs

  thread_at : (t : ℕ) (q : S) (n : ℕ) → slice_get k.threads t ≡ Some q → (c : ComesToWant p most k.image k.world q n) →
      ThreadAt p most (committed k) c.after c.sight
  thread_at t q n is c =
      let here = sound_run p sound law start (committed k) k.history begins.first good.run in
      let f = sound_steps p sound law k.threads t c.done q q (opened S k.image k.world) c.after c.sight is
      (first_sound p sound law k.image k.threads t q is here) c.steps in
      record {
        thread = t;
        before = q;
        is = is;
        n = c.done;
        small = c.short;
        steps = c.steps;
        lives = c.lives;
        safe = record {
          safe = safe _ t c.after c.sight.heap f (get_set k.threads c.sight.started t q c.after is) c.lives;
          ends = steps_end p c.done q (opened S k.image k.world) c.after c.sight c.steps image_ends;
        };
      }

  pub comes_wanted : (t : ℕ) (q : S) (n : ℕ) → slice_get k.threads t ≡ Some q → ComesToWant p most k.image k.world q n →
      IsWanted p most (committed k) n
  comes_wanted t q n is c =
      place_wanted p quiet most (committed k) c.after c.sight c.sight (thread_at t q n is c)
      (shown_same p c.after c.sight)
      c.wants.call c.wants.next c.wants.place c.wants.upto n c.wants.is

  pub next_kept : (k1 : CoreState S) (m : Move S) → Next p most k m k1 → KeepsWanted p most (committed k) m
  next_kept k1 (Keeps (Full r n l)) d = comes_wanted d.0 d.1 n d.2 d.5.0
  next_kept k1 (Keeps ReadFault) d = tt
  next_kept k1 (Keeps WriteFault) d = tt
  next_kept k1 (Keeps ErrFault) d = tt
  next_kept k1 (Keeps OutOfMemory) d = tt
  next_kept k1 (Begins i t q) d = tt
  next_kept k1 (Drops i) d = tt
  next_kept k1 (Dooms c) d = tt
  next_kept k1 (Loses c) d = tt
  next_kept k1 (Goes i x x1) d = tt
  next_kept k1 (Rests i x x1) d = tt
  next_kept k1 (Commits i x) d = tt

-- ---- the laws

module _ {S : Type 0} (p : Prog S) (sound : Heap → List S → Type 0) (law : StaysSound p sound) (safe : IsSafe p sound)
    (quiet : WaitsQuietly p) where
  pub place_law : PlaceLaw p sound
  place_law start begins most k good i x g left place upto =
      transaction_asked p sound law safe quiet start begins most k good i x g left place upto

  pub next_law : NextLaw p sound
  next_law start begins most k good i x g call next place upto n w =
      transaction_wanted p sound law safe quiet start begins most k good i x g call next place upto n w

  pub kept_law : KeptLaw p sound
  kept_law start begins most k k1 m good d = next_kept p sound law safe quiet start begins most k good k1 m d
