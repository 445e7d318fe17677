-- The rule of the lock, and its eight kinds of step. States `docs/HEAP.md`, "The heap lock".
--
-- A lock is a table of one word and one slot. Word 0 is 0 where the lock is free, and 1 where a seat holds the value.
-- The slot is at home, or it is out with the seat that holds. The table keeps a view of each seat that there ever
-- was.
--
-- The rule holds between any two steps, whichever threads make them. There are these kinds of step. Each keeps the
-- rule, and nothing else changes a lock.
--   making         `first_view`: word 0 is 0, the slot is at home with the value, and the one view has the job and
--                  all the parts, has seen the value, and holds nothing
--   split          `split_left`, `split_right`: a seat that holds nothing gives its highest part to a new one, which
--                  has the same job and has seen the same
--   join           `joined`, `spent`: a seat gets the parts of another and what that one has seen, where neither
--                  holds, and the other is spent
--   take           `Takes`: word 0 goes from 0 to 1, the view holds, with the value as it was taken, and the slot is
--                  out; or the word was 1, and nothing changes
--   exchange out   the holder swaps the value in the slot for None; the word and the views stay
--   exchange in    the holder swaps None in the slot for a good value of its job, which has grown from what it took;
--                  the word and the views stay
--   give           `Gives`: word 0 becomes 0, the view holds nothing and has seen the value in the slot alone, and
--                  the slot is at home again
--   close          the table ends; a seat that has all the parts and holds nothing is given what the slot has
use Rattle.std.specs.Prelude.{◌≡◌, ◌≢◌, ℕ, ◌≤◌, nat_lt, true, false, if◌then◌else◌, List, [], ◌∷◌, ◌++◌, All, Option, Some, None, slice_index, length, sum_by, count_by}
use mathlib.Core.Option as maybe
use mathlib.Core.Option.{some}
use lib.ListN.{get_elem?}
use Rattle.atomic_table.specs.Table.{State, Me}
use Rattle.heap_lock.specs.Parts.{all_parts, times, IsDescending, highest_part, lower_parts, merged}
use Rattle.heap_lock.specs.declared.view.View.{View}

-- the slot is at home, with this value
abbrev pub HasValue : {T : Type 0} → T → List (maybe.Option (Option T)) → Type 0
HasValue x homes = get_elem? homes 0 ≡ some (some (Some x))

module _ {T J : Type 0} (job : T → J) (good : T → Type 0) (grows : T → T → Type 0) where
  -- The rule of a lock with n parts, whose value is for the job j. A view is live while it has parts
  pub record FollowsRule (n : ℕ) (j : J) (s : State (Option T) (View T J)) : Type 0 where
    -- there is one word, which is 0 or 1
    pub one_word : length s.words ≡ 1
    pub free_or_held : slice_index s.words 0 ≤ 1
    -- each part stands once in all views together, and no other number stands there
    pub parts_once : (part : ℕ) → sum_by (λ (v : View T J). times part v.parts) s.views ≡
        (if nat_lt part n then 1 else 0)
    -- all live views have the one job
    pub one_job : (id : ℕ) (v : View T J) → get_elem? s.views id ≡ some v → v.parts ≢ [] → v.job ≡ Some j
    -- a view without parts holds nothing
    pub only_live_hold : (id : ℕ) (v : View T J) → get_elem? s.views id ≡ some v → v.parts ≡ [] → v.holds ≡ false
    -- as many views hold as word 0 says: one where it is 1, and none where it is 0
    pub holders : count_by (λ (v : View T J). v.holds) s.views ≡ slice_index s.words 0
    -- the value that the lock was made with or that was given last: it is good, of that job, and has grown from each
    -- that a seat has seen
    pub value : T
    pub value_is_good : good value
    pub value_for_job : job value ≡ j
    pub value_is_later : (id : ℕ) (v : View T J) → get_elem? s.views id ≡ some v → All (λ y. grows y value) v.seen
    -- where the lock is free, its slot has that value
    pub free_has_value : slice_index s.words 0 ≡ 0 → HasValue value s.homes
    -- and else the seat that holds took it
    pub holder_took_value : (id : ℕ) (v : View T J) → get_elem? s.views id ≡ some v → v.holds ≡ true →
        v.taken ≡ Some value

-- What the kinds of step do to the view of a seat
module _ {T J : Type 0} where
  -- Making: the first seat has all parts and the job of the value, which it has seen, and holds nothing
  abbrev pub first_view : ℕ → J → T → View T J
  first_view n j x = record { parts = all_parts n; holds = false; job = Some j; seen = x ∷ []; taken = None }

  -- Split: the one seat keeps all parts but the highest
  abbrev pub split_left : View T J → View T J
  split_left v = record v { parts = lower_parts v.parts }

  -- and the new seat has the highest part, and for the rest is as the one, which holds nothing
  abbrev pub split_right : View T J → View T J
  split_right v = record v { parts = highest_part v.parts; holds = false }

  -- Join: the one seat has the parts of both, and has seen what either has
  abbrev pub joined : View T J → View T J → View T J
  joined v other = record v { parts = merged other.parts v.parts; seen = v.seen ++ other.seen }

  -- and the other has no part, holds nothing, has no job and has seen nothing
  abbrev pub spent : View T J
  spent = record { parts = []; holds = false; job = None; seen = []; taken = None }

-- What they do to a seat as a whole: its view, and the slots that are out with it, each with what is in it
module _ {T J : Type 0} (job : T → J) (good : T → Type 0) (grows : T → T → Type 0) where
  -- the view holds, and the slot is out, with a good value of the seat's job in it, which has grown from each that the
  -- seat has seen
  abbrev pub HasTaken : Me (Option T) (View T J) → Me (Option T) (View T J) → Type 0
  HasTaken before after = (x : T) × (after ≡ (record before.0 { holds = true; taken = Some x }, (0, Some x) ∷ [])) ×
      good x × (before.0.job ≡ Some (job x)) × All (λ y. grows y x) before.0.seen

  -- Take, a compare-and-exchange of word 0 from 0 to 1: where it found 0 the seat has taken the value, and else nothing
  -- changes
  abbrev pub Takes : Me (Option T) (View T J) → ℕ → Me (Option T) (View T J) → Type 0
  Takes before found after = (found ≡ 0 → HasTaken before after) × (found ≢ 0 → after ≡ before)

module _ {T J : Type 0} where
  -- Give, a store of 0 in word 0: the view holds nothing and has seen the value in the slot alone, and no slot is out
  abbrev pub Gives : Me (Option T) (View T J) → Me (Option T) (View T J) → Type 0
  Gives before after = (x : T) × (before.1 ≡ (0, Some x) ∷ []) ×
      (after ≡ (record before.0 { holds = false; seen = x ∷ []; taken = None }, []))

  -- A seat between two calls of the lock: it has a part, and where it holds the slot is out with it and has None, since
  -- the caller has the value
  pub record IsSeat (seat : Me (Option T) (View T J)) : Type 0 where
    pub live : seat.0.parts ≢ []
    pub descending : IsDescending seat.0.parts
    pub nothing_out : seat.0.holds ≡ false → seat.1 ≡ []
    pub slot_out : seat.0.holds ≡ true → seat.1 ≡ (0, None) ∷ []
