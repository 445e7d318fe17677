-- Moves but commits leave the history and the committed state, and so do the steps that a call tried.
use Rattle.std.proofs.Common.{◌≡◌, ℕ, Bool, true, false, cond, eqb, List, [], ◌∷◌, map, Option, Some, None, All, refl, sym, subst, ◌∙◌}
use Rattle.std.proofs.lemmas.List.Elements.{All-append, All-cons, All-nil, All-head, All-tail, All-weaker}
use Rattle.py_data.specs.declared.stop.Conflict.{Conflict}
use Rattle.py_data.specs.Heap.{Heap}
use Rattle.py_data.specs.World.{World}
use Rattle.lock_run.specs.Prog.{Prog}
use Rattle.stm_core.specs.Advance.{Try, moves_of, IsStepOf, IsTry, Tried}
use Rattle.stm_core.specs.Advanced.{IsOwn, Led}
use Rattle.stm_segment.specs.CoreState.{Transaction, Segment, Idle, Doomed, Running, CoreState, committed}
use Rattle.stm_core.specs.Moves.{Move, Begins, Drops, Dooms, Loses, Goes, Rests, Commits, Keeps, Next, Follows}
use Rattle.stm_core.specs.Passes.{met, doom_met, doom_one, doom_readers}

pub record SameRun {S : Type 0} (c c1 : CoreState S) : Type 0 where
  pub history : c1.history ≡ c.history
  pub base : committed c1 ≡ committed c

same_then : {S : Type 0} (c u v : CoreState S) → SameRun c u → SameRun u v → SameRun c v
same_then c u v a b = record { history = b.history ∙ a.history; base = b.base ∙ a.base }

abbrev IsNoCommit : {S : Type 0} → Move S → Type 0
IsNoCommit (Commits i x) = ⊥
IsNoCommit _ = Unit {0}

module _ {S : Type 0} (p : Prog S) (most : ℕ) where
  gives : (c c1 d : CoreState S) → c1 ≡ d → SameRun c d → SameRun c c1
  gives c c1 d e s = subst (SameRun c) (sym e) s

  next_leaves : (m : Move S) (c c1 : CoreState S) → IsNoCommit m → Next p most c m c1 → SameRun c c1
  next_leaves (Begins i t q) c c1 o n = gives c c1 _ n.5 (record { history = refl; base = refl })
  next_leaves (Drops i) c c1 o n = gives c c1 _ n.1 (record { history = refl; base = refl })
  next_leaves (Dooms f) c c1 o n = gives c c1 _ n.1 (record { history = refl; base = refl })
  next_leaves (Loses f) c c1 o n = gives c c1 _ n.1 (record { history = refl; base = refl })
  next_leaves (Goes i x x1) c c1 o n = gives c c1 _ n.4 (record { history = refl; base = refl })
  next_leaves (Rests i x x1) c c1 o n = gives c c1 _ n.3 (record { history = refl; base = refl })
  next_leaves (Commits i x) c c1 o n = absurd o
  next_leaves (Keeps e) c c1 o n = gives c c1 _ n.6 (record { history = refl; base = refl })

  follows_leaves : (ms : List (Move S)) (c c1 : CoreState S) → All IsNoCommit ms → Follows p most c ms c1 → SameRun c c1
  follows_leaves [] c c1 o f = gives c c1 c f (record { history = refl; base = refl })
  follows_leaves (m ∷ ms) c c1 o f = same_then c f.0 c1 (next_leaves m c f.0 (All-head IsNoCommit m ms o) f.1)
      (follows_leaves ms f.0 c1 (All-tail IsNoCommit m ms o) f.2)

  module _ (k : ℕ) where
    step_goes : (image : Heap) (w : World) (done : Bool) (fs : List Conflict) (mv : Move S) →
        IsStepOf p image w k fs mv done → IsNoCommit mv
    step_goes image w done fs (Commits i x) h = absurd h
    step_goes image w done fs (Begins i t q) h = tt
    step_goes image w done fs (Drops i) h = tt
    step_goes image w done fs (Dooms f) h = tt
    step_goes image w done fs (Loses f) h = tt
    step_goes image w done fs (Goes i x x1) h = tt
    step_goes image w done fs (Rests i x x1) h = tt
    step_goes image w done fs (Keeps e) h = tt

    dooms_go : (fs : List Conflict) → All (IsNoCommit {S = S}) (map Dooms fs)
    dooms_go [] = All-nil IsNoCommit
    dooms_go (f ∷ fs) = All-cons (IsNoCommit {S = S}) (Dooms f) (map Dooms fs) tt (dooms_go fs)

    tries_go : (image : Heap) (w : World) (done : Bool) (ts : List (Try S)) → All (IsTry p image w k done) ts →
        All IsNoCommit (moves_of ts)
    tries_go image w done [] h = All-nil IsNoCommit
    tries_go image w done (t ∷ ts) h = All-append IsNoCommit (map Dooms t.dooms) (t.move ∷ moves_of ts)
        (dooms_go t.dooms)
        (All-cons IsNoCommit t.move (moves_of ts)
        (step_goes image w done t.dooms t.move (All-head (IsTry p image w k done) t ts h).step)
        (tries_go image w done ts (All-tail (IsTry p image w k done) t ts h)))

    pub tried_leaves : (done : Bool) (n : ℕ) (c c1 : CoreState S) → Tried p most k done n c c1 → SameRun c c1
    tried_leaves done n c c1 t = follows_leaves (moves_of t.tries) c c1
        (tries_go c.image c.world done t.tries t.kinds) t.follows

    -- moves by which one segment goes on
    own_goes : (mv : Move S) → IsOwn k mv → IsNoCommit mv
    own_goes (Commits i x) h = absurd h
    own_goes (Begins i t q) h = tt
    own_goes (Drops i) h = tt
    own_goes (Dooms f) h = tt
    own_goes (Loses f) h = tt
    own_goes (Goes i x x1) h = tt
    own_goes (Rests i x x1) h = tt
    own_goes (Keeps e) h = tt

    pub led_leaves : (c c1 : CoreState S) → Led p most k c c1 → SameRun c c1
    led_leaves c c1 l = follows_leaves l.moves c c1 (All-weaker (IsOwn k) IsNoCommit own_goes l.moves l.own) l.follows

pub both_leave : {S : Type 0} (c u v : CoreState S) → SameRun c u → SameRun u v → SameRun c v
both_leave c u v a b = same_then c u v a b

-- ---- dooms of readers

-- they leave the cause too
pub record OnlyDooms {S : Type 0} (c c1 : CoreState S) : Type 0 where
  pub image : c1.image ≡ c.image
  pub threads : c1.threads ≡ c.threads
  pub world : c1.world ≡ c.world
  pub history : c1.history ≡ c.history
  pub cause : c1.cause ≡ c.cause

pub readers_doomed : {S : Type 0} (i : ℕ) (x : Transaction S) (js : List ℕ) (c : CoreState S) →
    OnlyDooms c (doom_readers i x js c)
readers_doomed i x [] c = record { image = refl; threads = refl; world = refl; history = refl; cause = refl }
readers_doomed {S} i x (j ∷ js) c =
    let a = choice (eqb j i) (c.segments j) in
    let b = readers_doomed i x js (cond (eqb j i) c (doom_one i x j c (c.segments j))) in
    record {
      image = b.image ∙ a.image;
      threads = b.threads ∙ a.threads;
      world = b.world ∙ a.world;
      history = b.history ∙ a.history;
      cause = b.cause ∙ a.cause;
    }
  where
    by_met : (y : Transaction S) (q : Option ℕ) → OnlyDooms c (doom_met i x j y c q)
    by_met y None = record { image = refl; threads = refl; world = refl; history = refl; cause = refl }
    by_met y (Some a) = record { image = refl; threads = refl; world = refl; history = refl; cause = refl }

    choice : (b : Bool) (s : Segment S) → OnlyDooms c (cond b c (doom_one i x j c s))
    choice true s = record { image = refl; threads = refl; world = refl; history = refl; cause = refl }
    choice false Idle = record { image = refl; threads = refl; world = refl; history = refl; cause = refl }
    choice false (Doomed f) = record { image = refl; threads = refl; world = refl; history = refl; cause = refl }
    choice false (Running y) = by_met y (met x.changed y.looked)
