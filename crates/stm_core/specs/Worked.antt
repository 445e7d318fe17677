-- Conflicts worked by hand: who wins, when one stands, and that one stood. States `docs/HEAP.md`, "Conflicts".
use Rattle.std.specs.Prelude.{◌≡◌, ℕ, Bool, true, false, cond, eqb, ◌||◌, List, [], ◌∷◌, Some, None, slice_get, refl}
use Rattle.std.proofs.Common.{arith, ap, sym, ◌∙◌}
use Rattle.py_data.specs.declared.value.Value.TheVariants.{None as NoneValue}
use Rattle.py_data.specs.declared.change.Change.TheVariants.{Push}
use Rattle.py_data.specs.declared.stop.Side.{Side}
use Rattle.py_data.specs.declared.stop.Conflict.{Conflict}
use Rattle.py_data.specs.Heap.{Rec, Heap, is_tracked}
use Rattle.py_data.specs.Row.{Read, Edit}
use Rattle.py_data.specs.Sight.{opened, mem}
use Rattle.lock_run.specs.declared.client.Life.TheVariants.{Lives}
use Rattle.lock_run.specs.declared.turn.Turn.{Turn}
use Rattle.lock_run.specs.Prog.{Prog}
use Rattle.lock_run.specs.Machine.{Machine}
use Rattle.stm_segment.specs.CoreState.{no_world, Transaction, Running, CoreState, fresh, core_new, with_segment}
use Rattle.stm_segment.specs.Asking.{Changes}
use Rattle.stm_segment.specs.Conflict.{conflict, loser, winner, wins, IsStanding}
use Rattle.stm_core.specs.Good.{IsLocked, Stands}
use Rattle.stm_core.specs.Stood.{Stood}

-- ---- who wins

abbrev a_side : ℕ → ℕ → Bool → Side
a_side i n solo = record { segment = i; thread = i; begun = n; solo = solo }

earlier_wins : wins (a_side 0 1 false) (a_side 1 2 false) ≡ true
earlier_wins = refl

later_loses : wins (a_side 1 2 false) (a_side 0 1 false) ≡ false
later_loses = refl

solo_wins : wins (a_side 1 2 true) (a_side 0 1 false) ≡ true
solo_wins = refl

none_wins_over_solo : wins (a_side 0 1 false) (a_side 1 2 true) ≡ false
none_wins_over_solo = refl

-- ---- what a call changes

push_changes_its_list : (S : Type 0) → Changes {S = S} 3 (Edit 3 (Push NoneValue))
push_changes_its_list S = refl

look_changes_nothing : (S : Type 0) → Changes {S = S} 3 (Read 3) → ⊥
look_changes_nothing S h = h

-- ---- when a conflict stands: a core whose first segment has locked the record 3, at which its second one has looked

module _ {S : Type 0} (p : Prog S) where
  abbrev start : CoreState S
  start = core_new p no_world

  abbrev locker : Transaction S
  locker = record (fresh start 0 p.first) { changed = 3 ∷ []; begun = 0 }

  abbrev looker : Transaction S
  looker = record (fresh start 1 p.first) { looked = λ a. eqb a 3; begun = 1 }

  abbrev two : CoreState S
  two = with_segment 0 (Running locker) (with_segment 1 (Running looker) start)

  -- by the look; the locker began earlier, so the looker, the side 1, loses
  abbrev by_look : Conflict
  by_look = conflict 0 locker 1 looker 3 false 1

  loser_of_look : (loser by_look).segment ≡ 1
  loser_of_look = refl

  winner_of_look : (winner by_look).segment ≡ 0
  winner_of_look = refl

  look_stands : IsStanding p two by_look
  look_stands = record {
    x = locker;
    y = looker;
    writes = refl;
    reads = refl;
    is = refl;
    differ = λ e. cc;
    held = refl;
    met = refl;
    lost = omega arith;
    loses = refl;
  }

  no_writer : (x : Transaction S) → Running locker ≡ Running x → x ≡ locker
  no_writer x e = cc

  -- none over a record that isn't locked
  other_record_stands_not : IsStanding p two (conflict 0 locker 1 looker 4 false 1) → ⊥
  other_record_stands_not h = absurd (let e = no_writer h.x h.writes in let q : false ≡ true =
      ap (λ (z : Transaction S). mem 4 z.changed) (sym e) ∙ h.held in cc)

  -- none that the looker wins
  winner_loses_not : IsStanding p two (conflict 0 locker 1 looker 3 false 0) → ⊥
  winner_loses_not h = let q : false ≡ true = h.loses in cc

  -- ---- that a conflict stood: two threads over a heap whose only record is the tracked record 3

  module _ (r : Rec) (tracked : is_tracked r.kind ≡ true) (lives : p.life p.first ≡ Lives) where
    abbrev heap : Heap
    heap = λ a. cond (eqb a 3) (Some r) None

    abbrev machine : Machine S
    machine = record { heap = heap; threads = p.first ∷ p.first ∷ []; world = no_world }

    abbrev writer : Transaction S
    writer = record locker { looked = λ a. eqb a 3 }

    is_three : (b : Bool) → (b || false) ≡ true → b ≡ true
    is_three true e = refl
    is_three false e = e

    locked_three : (a : ℕ) → eqb a 3 ≡ true → IsLocked heap (λ b. eqb b 3) a
    locked_three a e = record { entry = r; is = rw e refl; tracked = tracked; marked = e }

    -- a transaction stands that did no step yet, has looked at the record 3, and has locked these
    begun_stands : (i n : ℕ) (locks : List ℕ) → slice_get machine.threads i ≡ Some p.first →
        ((a : ℕ) → mem a locks ≡ true → IsLocked heap (λ b. eqb b 3) a)
        → Stands p heap machine.threads no_world
        (record (fresh start i p.first) { looked = λ a. eqb a 3; changed = locks; begun = n })
    begun_stands i n locks is locked = record {
      before = p.first;
      sight = opened S heap no_world;
      is = is;
      lives = lives;
      steps = (refl, refl);
      shows = record {
        view = λ a. refl;
        made = refl;
        started = refl;
        looked = λ a h. absurd (let q : false ≡ true = h in cc);
        touched = λ a h. absurd (let q : false ≡ true = h in cc);
        within = λ a h. refl;
        locked = locked;
        unused = λ a h. absurd (let q : false ≡ true = h in cc);
        world_is = λ h. absurd (let q : false ≡ true = h in cc);
        quiet = λ h. refl;
      };
    }

    writer_stands : Stands p heap machine.threads no_world writer
    writer_stands = begun_stands 0 0 (3 ∷ []) refl (λ a h. locked_three a (is_three (eqb a 3) h))

    looker_stands : Stands p heap machine.threads no_world looker
    looker_stands = begun_stands 1 1 [] refl (λ a h. absurd (let q : false ≡ true = h in cc))

    -- before any turn
    look_stood : Stood p machine [] by_look
    look_stood = record {
      front = [];
      rest = [];
      history_is = refl;
      machine = machine;
      run = refl;
      x = writer;
      y = looker;
      writes = writer_stands;
      reads = looker_stands;
      apart = record {
        threads = λ e. cc;
        begun = λ e. cc;
        made = λ a h. refl;
        changed = λ a h. refl;
        solo = λ h.
            refl;
      };
      is = refl;
      differ = λ e. cc;
      held = refl;
      met = refl;
      lost = omega arith;
      loses = refl;
      mortal = refl;
    }

  -- none that the looker won stood, whatever the history
  won_stood_not : (first : Machine S) (history : List Turn) →
      Stood p first history (conflict 0 locker 1 looker 3 false 0) → ⊥
  won_stood_not first history h = let q : false ≡ true = h.loses in cc
