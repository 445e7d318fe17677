-- Each move keeps what explains the peaks and a kept full heap.
use Rattle.std.proofs.Common.{◌≡◌, inl, inr, ℕ, ◌≤◌, List, [], ◌∷◌, ◌++◌, Option, Some, None, refl, sym, ap, subst, ◌∙◌, arith, append_assoc, append-nil}
use Rattle.lock_run.specs.declared.turn.Turn.{Turn}
use Rattle.lock_run.specs.Prog.{Prog}
use Rattle.lock_run.specs.Machine.{Machine, DoesTurn, Runs}
use Rattle.lock_run.proofs.Along.{runs_append}
use Rattle.stm_segment.specs.declared.cause.Cause.{Cause}
use Rattle.stm_segment.specs.declared.cause.Cause.TheVariants.{Full, ReadFault, WriteFault, ErrFault, OutOfMemory}
use Rattle.stm_segment.specs.CoreState.{CoreState, committed, turn_of, core_new, first_cause}
use Rattle.stm_core.specs.Good.{Good}
use Rattle.stm_core.specs.Moves.{Move, Begins, Drops, Dooms, Loses, Goes, Rests, Commits, Keeps, Next}
use Rattle.stm_core.specs.Outside.{Outer, Inner, Solos, Breaks}
use Rattle.stm_core.proofs.Publish.{publish_turn}
use Rattle.heap_bound.specs.Moments.{InUse, IsWanted, Once, WantedBy, IsExplained}
use Rattle.heap_bound.specs.Using.{Lifts, KeepsWanted}
use Rattle.heap_bound.specs.Laws.{NewLaw, MoveLaw, OuterLaw, BoundLaw}
use Rattle.heap_bound.proofs.Bounding.{nearly_full}

-- what was so once was so once also after further turns
once_later : {S : Type 0} (p : Prog S) (start : Machine S) (h ts : List Turn) (m m1 : Machine S)
    (it : Machine S → Type 0) → Once p start h m it → Runs p m ts m1 → Once p start (h ++ ts) m1 it
once_later p start h ts m m1 it o r = record {
  front = o.front;
  rest = o.rest ++ ts;
  is = ap (λ l. l ++ ts) o.is ∙ append_assoc o.front o.rest ts;
  machine = o.machine;
  run = o.run;
  later = runs_append p o.rest ts o.machine m m1 o.later r;
  was = o.was;
}

-- what is so now
pub once_now : {S : Type 0} (p : Prog S) (start : Machine S) (h : List Turn) (m : Machine S)
    (it : Machine S → Type 0) → Runs p start h m → it m → Once p start h m it
once_now p start h m it r i = record {
  front = h;
  rest = [];
  is = sym (append-nil h);
  machine = m;
  run = r;
  later = refl;
  was = i;
}

pub wanted_later : {S : Type 0} (p : Prog S) (start : Machine S) (most : ℕ) (h ts : List Turn) (m m1 : Machine S)
    (o : Option Cause) → WantedBy p start most h m o → Runs p m ts m1 → WantedBy p start most (h ++ ts) m1 o
wanted_later p start most h ts m m1 None w r = tt
wanted_later p start most h ts m m1 (Some (Full a n l)) w r =
    once_later p start h ts m m1 (λ z. IsWanted p most z n) w r
wanted_later p start most h ts m m1 (Some ReadFault) w r = tt
wanted_later p start most h ts m m1 (Some WriteFault) w r = tt
wanted_later p start most h ts m m1 (Some ErrFault) w r = tt
wanted_later p start most h ts m m1 (Some OutOfMemory) w r = tt

-- from one state to the next by these turns, with no new cause
pub explained_after : {S : Type 0} (p : Prog S) (start : Machine S) (most segments : ℕ) (k k1 : CoreState S)
    (f g : ℕ → ℕ) (ts : List Turn) → Good p start most k → IsExplained p start most segments f k →
    Lifts p most segments (committed k) f g
    → k1.history ≡ k.history ++ ts → Runs p (committed k) ts (committed k1) → k1.cause ≡ k.cause →
    IsExplained p start most segments g k1
explained_after {S} p start most segments k k1 f g ts good e lift h r c = record {
  peak = λ cl lo. subst (λ l. Once p start l (committed k1) (λ m. InUse p most segments m cl (g cl))) (sym h)
      (once_later p start k.history ts (committed k) (committed k1) (λ m. InUse p most segments m cl (g cl))
      (now cl lo) r);
  kept = subst (WantedBy p start most k1.history (committed k1)) (sym c)
      (subst (λ l. WantedBy p start most l (committed k1) k.cause) (sym h)
      (wanted_later p start most k.history ts (committed k) (committed k1) k.cause e.kept r));
}
  where
    less : (cl : ℕ) (m : Machine S) → g cl ≤ f cl → InUse p most segments m cl (f cl) →
        InUse p most segments m cl (g cl)
    less cl m l u = record { below = u.below; views = u.views; each = u.each; count = let n = u.count in omega arith }

    now : (cl : ℕ) → 1 ≤ cl → Once p start k.history (committed k) (λ m. InUse p most segments m cl (g cl))
    now cl lo = elim (lift cl lo) [
      | inl l ↦ let o = e.peak cl lo in record {
        front = o.front;
        rest = o.rest;
        is = o.is;
        machine = o.machine;
        run = o.run;
        later = o.later;
        was = less cl o.machine l o.was;
      }
      | inr u ↦ once_now p start k.history (committed k) (λ m. InUse p most segments m cl (g cl)) good.run u
    ]

-- the same history and committed state
pub explained_same : {S : Type 0} (p : Prog S) (start : Machine S) (most segments : ℕ) (k k1 : CoreState S)
    (f g : ℕ → ℕ) → Good p start most k → IsExplained p start most segments f k →
    Lifts p most segments (committed k) f g
    → k1.history ≡ k.history → committed k1 ≡ committed k → k1.cause ≡ k.cause → IsExplained p start most segments g k1
explained_same p start most segments k k1 f g good e lift h m c =
    explained_after p start most segments k k1 f g [] good e lift (h ∙ sym (append-nil k.history)) m c

-- and the same peaks
pub explained_still : {S : Type 0} (p : Prog S) (start : Machine S) (most segments : ℕ) (f : ℕ → ℕ) (k k1 : CoreState S)
    → IsExplained p start most segments f k → k1.history ≡ k.history → committed k1 ≡ committed k →
    k1.cause ≡ k.cause → IsExplained p start most segments f k1
explained_still {S} p start most segments f k k1 e h m c = record {
  peak = λ cl lo. subst (λ l. Once p start l (committed k1) (λ z. InUse p most segments z cl (f cl))) (sym h)
      (subst (λ (z : Machine S). Once p start k.history z (λ y. InUse p most segments y cl (f cl))) (sym m)
      (e.peak cl lo));
  kept = subst (WantedBy p start most k1.history (committed k1)) (sym c)
      (subst (λ l. WantedBy p start most l (committed k1) k.cause) (sym h)
      (subst (λ (z : Machine S). WantedBy p start most k.history z k.cause) (sym m) e.kept));
}

-- with a cause kept, unless one was kept before
pub explained_kept : {S : Type 0} (p : Prog S) (start : Machine S) (most segments : ℕ) (k k1 : CoreState S)
    (f : ℕ → ℕ) (e : Cause) → IsExplained p start most segments f k →
    WantedBy p start most k.history (committed k) (Some e)
    → k1.history ≡ k.history → committed k1 ≡ committed k → k1.cause ≡ first_cause k.cause e →
    IsExplained p start most segments f k1
explained_kept {S} p start most segments k k1 f e x w h m q = record {
  peak = λ c lo. subst (λ l. Once p start l (committed k1) (λ z. InUse p most segments z c (f c))) (sym h)
      (subst (λ (z : Machine S). Once p start k.history z (λ y. InUse p most segments y c (f c))) (sym m)
      (x.peak c lo));
  kept = subst (WantedBy p start most k1.history (committed k1)) (sym q)
      (subst (λ l. WantedBy p start most l (committed k1) (first_cause k.cause e)) (sym h)
      (subst (λ (z : Machine S). WantedBy p start most k.history z (first_cause k.cause e)) (sym m)
      (first k.cause x.kept)));
}
  where
    first : (o : Option Cause) → WantedBy p start most k.history (committed k) o →
        WantedBy p start most k.history (committed k) (first_cause o e)
    first None v = w
    first (Some d) v = v

pub explained_next : {S : Type 0} (p : Prog S) (start : Machine S) (most segments : ℕ) (k k1 : CoreState S)
    (f g : ℕ → ℕ) (m : Move S) → Good p start most k → IsExplained p start most segments f k → Next p most k m k1
    → Lifts p most segments (committed k) f g → KeepsWanted p most (committed k) m →
    IsExplained p start most segments g k1
explained_next {S} p start most segments k k1 f g (Begins i t q) good e n lift w =
    explained_same p start most segments k k1 f g good e lift (ap (λ (z : CoreState S). z.history) n.5)
    (ap committed n.5) (ap (λ (z : CoreState S). z.cause) n.5)
explained_next {S} p start most segments k k1 f g (Drops i) good e n lift w =
    explained_same p start most segments k k1 f g good e lift (ap (λ (z : CoreState S). z.history) n.1)
    (ap committed n.1) (ap (λ (z : CoreState S). z.cause) n.1)
explained_next {S} p start most segments k k1 f g (Dooms c) good e n lift w =
    explained_same p start most segments k k1 f g good e lift (ap (λ (z : CoreState S). z.history) n.1)
    (ap committed n.1) (ap (λ (z : CoreState S). z.cause) n.1)
explained_next {S} p start most segments k k1 f g (Loses c) good e n lift w =
    explained_same p start most segments k k1 f g good e lift (ap (λ (z : CoreState S). z.history) n.1)
    (ap committed n.1) (ap (λ (z : CoreState S). z.cause) n.1)
explained_next {S} p start most segments k k1 f g (Goes i x x1) good e n lift w =
    explained_same p start most segments k k1 f g good e lift (ap (λ (z : CoreState S). z.history) n.4)
    (ap committed n.4) (ap (λ (z : CoreState S). z.cause) n.4)
explained_next {S} p start most segments k k1 f g (Rests i x x1) good e n lift w =
    explained_same p start most segments k k1 f g good e lift (ap (λ (z : CoreState S). z.history) n.3)
    (ap committed n.3) (ap (λ (z : CoreState S). z.cause) n.3)
explained_next {S} p start most segments k k1 f g (Commits i x) good e n lift w =
    explained_after p start most segments k k1 f g (turn_of x ∷ []) good e lift
    (ap (λ (z : CoreState S). z.history) n.3) (
      committed k1,
      subst (λ z. DoesTurn p (committed k) (turn_of x) (committed z)) (sym n.3)
          (publish_turn p k.image k.threads k.world x (good.stands i x n.0) n.1),
      refl,
    )
    (ap (λ (z : CoreState S). z.cause) n.3)
explained_next {S} p start most segments k k1 f g (Keeps c) good e n lift w =
    let same = explained_same p start most segments k k f g good e lift refl refl refl in
    explained_kept p start most segments k k1 g c same (kept c w) (ap (λ (z : CoreState S). z.history) n.6)
    (ap committed n.6) (ap (λ (z : CoreState S). z.cause) n.6)
  where
    kept : (c : Cause) → KeepsWanted p most (committed k) (Keeps c) →
        WantedBy p start most k.history (committed k) (Some c)
    kept (Full r need l) v = once_now p start k.history (committed k) (λ z. IsWanted p most z need) good.run v
    kept ReadFault v = tt
    kept WriteFault v = tt
    kept ErrFault v = tt
    kept OutOfMemory v = tt

pub move_law : {S : Type 0} → MoveLaw S
move_law p start most segments k k1 f g m good e n lift w = explained_next p start most segments k k1 f g m good e n
    lift w

pub outer_law : {S : Type 0} → OuterLaw S
outer_law {S} p start most segments o o1 f g (Inner m) good e n lift w =
    subst (λ (z : Outer S). IsExplained p start most segments g z.core) (sym n.3)
    (explained_next p start most segments o.core n.0 f g m good e n.1 lift w)
outer_law {S} p start most segments o o1 f g (Solos i x) good e n lift w =
    explained_same p start most segments o.core o1.core f g good e lift (ap (λ (z : Outer S). z.core.history) n.3)
    (ap (λ (z : Outer S). committed z.core) n.3) (ap (λ (z : Outer S). z.core.cause) n.3)
outer_law {S} p start most segments o o1 f g (Breaks c b told) good e n lift w =
    explained_kept p start most segments o.core o1.core g c
    (explained_same p start most segments o.core o.core f g good e lift refl refl refl) w
    (ap (λ (z : Outer S). z.core.history) n.6) (ap (λ (z : Outer S). committed z.core) n.6)
    (ap (λ (z : Outer S). z.core.cause) n.6)

pub new_law : {S : Type 0} → NewLaw S
new_law {S} p w most segments f z = record {
  peak = λ c lo. record {
    front = [];
    rest = [];
    is = refl;
    machine = committed (core_new p w);
    run = refl;
    later = refl;
    was = record { below = 0; views = λ j a. None; each = λ j l. inl refl; count = (let e = z c in omega arith) };
  };
  kept = tt;
}

pub bound_law : {S : Type 0} → BoundLaw S
bound_law p start empty most segments k peaks good e reserved r n l words cause low full bound bounds =
    nearly_full p start empty most k.history bound bounds segments (committed k) peaks reserved r n l e.peak
    (subst (WantedBy p start most k.history (committed k)) cause e.kept) words low full
