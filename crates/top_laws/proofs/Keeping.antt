-- A thread that does no turn keeps its state, so after a step that broke a thread lives.
use Rattle.std.proofs.Common.{◌≡◌, ◌≢◌, ℕ, zero, suc, List, [], ◌∷◌, ◌++◌, Some, slice_get, slice_set, refl, sym, ap, subst}
use Rattle.std.specs.Prelude.{All, IsSome}
use Rattle.std.proofs.lemmas.List.Elements.{All-head, All-tail}
use Rattle.py_data.specs.World.{World}
use Rattle.lock_run.specs.declared.turn.Turn.{Turn}
use Rattle.lock_run.specs.Prog.{Prog}
use Rattle.lock_run.specs.Machine.{Machine, DoesTurn, Runs}
use Rattle.lock_run.specs.RunState.{SomeLives}
use Rattle.lock_run.specs.Cut.{Broken, Broke}
use Rattle.lock_run.proofs.Stepping.{get_front}
use Rattle.lock_run.proofs.Along.{runs_split, runs_along}
use Rattle.stm_segment.specs.declared.cause.Cause.{Cause}
use Rattle.stm_top.specs.Serial.{Ended, Whole, Cut, IsCutBy}

-- what stands in another place stays
get_other : {A : Type 0} (xs : List A) (i k : ℕ) (y x : A) → i ≢ k → slice_get xs k ≡ Some x →
    slice_get (slice_set xs i y) k ≡ Some x
get_other [] i k y x n e = cc
get_other (z ∷ zs) zero zero y x n e = absurd (n refl)
get_other (z ∷ zs) zero (suc k) y x n e = e
get_other (z ∷ zs) (suc i) zero y x n e = e
get_other (z ∷ zs) (suc i) (suc k) y x n e = get_other zs i k y x (λ q. n (ap suc q)) e

turn_keeps : {S : Type 0} (p : Prog S) (t : Turn) (m u : Machine S) (k : ℕ) (q : S) → DoesTurn p m t u →
    t.thread ≢ k → slice_get m.threads k ≡ Some q → slice_get u.threads k ≡ Some q
turn_keeps {S} p t m u k q d n e =
    subst (λ (x : Machine S). slice_get x.threads k ≡ Some q) (sym d.gives)
    (get_front (slice_set m.threads t.thread d.after) d.sight.started k q
    (get_other m.threads t.thread k d.after q n e))

runs_keep : {S : Type 0} (p : Prog S) (ts : List Turn) (m m1 : Machine S) (k : ℕ) (q : S) → Runs p m ts m1 →
    All (λ (t : Turn). t.thread ≢ k) ts → slice_get m.threads k ≡ Some q → slice_get m1.threads k ≡ Some q
runs_keep {S} p [] m m1 k q r none e = subst (λ (x : Machine S). slice_get x.threads k ≡ Some q) (sym r) e
runs_keep p (t ∷ ts) m m1 k q r none e =
    runs_keep p ts r.0 m1 k q r.2 (All-tail (λ (t : Turn). t.thread ≢ k) t ts none)
    (turn_keeps p t m r.0 k q r.1 (All-head (λ (t : Turn). t.thread ≢ k) t ts none) e)

broke_lives : {S : Type 0} (p : Prog S) (first : Machine S) (history : List Turn) (m : Machine S) (w told : World)
    (b : Broken) → IsSome first.world.input → Runs p first history m → Broke p first history w told b →
    SomeLives p m
broke_lives {S} p first history m w told b k r h =
    let whole : Runs p first (h.front ++ h.rest) m = subst (λ (l : List Turn). Runs p first l m) h.history_is r in
    let parts = runs_split p h.front h.rest first m whole in
    let same : parts.0 ≡ h.machine = runs_along p h.front first h.machine parts.0 k h.run parts.1 in
    let rest : Runs p h.machine h.rest m = subst (λ (x : Machine S). Runs p x h.rest m) same parts.2 in
    (b.thread, h.state, runs_keep p h.rest h.machine m b.thread h.state rest h.no_more h.is, h.lives)

-- where a step was cut, a thread lives in the machine to which the history leads
pub cut_lives : {S : Type 0} (p : Prog S) (first : Machine S) (history : List Turn) (m : Machine S) (w told : World)
    (c : Cause) (e : Ended p first history w told) → IsSome first.world.input → Runs p first history m →
    IsCutBy c e → SomeLives p m
cut_lives p first history m w told c (Whole e) k r h = absurd h
cut_lives p first history m w told c (Cut b e) k r h = broke_lives p first history m w told b k r e
