-- How far the store's peaks rise in steps of a transaction, one after another.
use Rattle.std.proofs.Common.{◌≡◌, ◌≤◌, ◌/◌, ℕ, suc, List, slice_get, Option, Some, None, inl, inr, refl, sym, subst, subst₂, arith}
use Rattle.py_data.specs.declared.stop.Side.{Side}
use Rattle.py_data.specs.Row.{Row}
use Rattle.py_data.specs.Sense.{Upto}
use Rattle.py_data.specs.Sight.{Sight, pure}
use Rattle.lock_run.specs.declared.client.Outcome.{Outcome}
use Rattle.lock_run.specs.declared.client.Life.TheVariants.{Lives}
use Rattle.lock_run.specs.Prog.{Prog}
use Rattle.seg_store.specs.Meaning.{Meaning}
use Rattle.stm_segment.specs.declared.books.Progress.{Progress}
use Rattle.stm_segment.specs.declared.books.Work.{Work}
use Rattle.stm_segment.specs.declared.books.Hand.TheVariants.{Idle, Runs}
use Rattle.stm_segment.specs.declared.books.Books.{Books}
use Rattle.stm_core.specs.declared.steps.Pause.TheVariants.{Whole}
use Rattle.stm_segment.specs.CoreState.{CoreState, sight_of}
use Rattle.stm_core.specs.Advanced.{Led}
use Rattle.stm_segment.specs.Devices.{DeviceState, Shown}
use Rattle.stm_segment.specs.Books.{Worlds, with_own, transaction}
use Rattle.stm_core.specs.Outside.{Outer}
use Rattle.stm_core.specs.SaneCore.{StandsFor}
use Rattle.stm_segment.specs.InUse.{IfTold}
use Rattle.stm_core.specs.PeakRises.{Moment, used_then, RisesWithin}
use Rattle.stm_core.specs.inner.Whole.{SameShape}
use Rattle.stm_core.specs.inner.Trying.{core_with, work_of}
use Rattle.stm_core.specs.inner.Pausing.{Paused}
use Rattle.stm_core.specs.inner.Rising.{RisesInStep, RisesOut}
use Rattle.stm_core.proofs.Advanced.{none_led, led_then, gone_led}
use Rattle.stm_core.proofs.Settling.{runs_with}
use Rattle.stm_core.proofs.TakenSteps.{out_of}
use Rattle.stm_core.proofs.Wholes.{Set}

-- ---- of peaks that may be told

abbrev pub Peaks : Type 0
Peaks = ℕ → ℕ

-- they are told before and after, or neither: what holds of those that are told gives what holds
pub told_as : (a b : Option Peaks) (P Q : Peaks → Peaks → Type 0) → ((f g : Peaks) → P f g → Q f g) → IfTold a b P →
    IfTold a b Q
told_as None None P Q h t = tt
told_as (Some f) (Some g) P Q h t = h f g t
told_as None (Some g) P Q h t = absurd t
told_as (Some f) None P Q h t = absurd t

-- the same peaks
pub told_same : (a b : Option Peaks) (P : Peaks → Peaks → Type 0) → ((f : Peaks) → P f f) → b ≡ a → IfTold a b P
told_same a b P h e = subst (λ z. IfTold a z P) (sym e) (go a)
  where
    go : (o : Option Peaks) → IfTold o o P
    go None = tt
    go (Some f) = h f

-- one call after another
pub told_then : (a b c : Option Peaks) (P Q R : Peaks → Peaks → Type 0) →
    ((f g h : Peaks) → P f g → Q g h → R f h) → IfTold a b P → IfTold b c Q → IfTold a c R
told_then None None None P Q R j s t = tt
told_then (Some f) (Some g) (Some h) P Q R j s t = j f g h s t
told_then None (Some g) c P Q R j s t = absurd s
told_then (Some f) None c P Q R j s t = absurd s
told_then None None (Some h) P Q R j s t = absurd t
told_then (Some f) (Some g) None P Q R j s t = absurd t

-- ---- steps of a transaction

-- as far as they were, they rose within any steps
pub within_same : {S : Type 0} (p : Prog S) (most n segments k : ℕ) (c : CoreState S) (a b : Option Peaks) → b ≡ a →
    IfTold a b (RisesWithin p most n segments k c)
within_same p most n segments k c a b e = told_same a b (RisesWithin p most n segments k c)
    (λ f cl le. inl (omega arith)) e

-- a moment within steps that come after others is one within all of them
abbrev later : {S : Type 0} (p : Prog S) (most k : ℕ) (c u : CoreState S) → Led p most k c u → Moment p most k u →
    Moment p most k c
later p most k c u led m = record {
  now = m.now;
  led = led_then p most k c u m.now led m.led;
  last = m.last;
  runs = m.runs;
  small = m.small;
  lives = m.lives;
  left = m.left;
  place = m.place;
  upto = m.upto;
}

le_trans : (x y z : ℕ) → x ≤ y → y ≤ z → x ≤ z
le_trans x y z a b = omega arith

-- rises within steps, and within those that come after them
pub within_then : {S : Type 0} (p : Prog S) (most n segments k : ℕ) (c u : CoreState S) → Led p most k c u →
    (f g h : Peaks) → RisesWithin p most n segments k c f g → RisesWithin p most n segments k u g h →
    RisesWithin p most n segments k c f h
within_then {S} p most n segments k c u led f g h s t cl le = elim (t cl le) [
  | inl y ↦ elim (s cl le) [
    | inl x ↦ inl (le_trans (h cl) (g cl) (f cl) y x)
    | inr x ↦ inr (x.0, le_trans (h cl) (g cl) (used_then n segments x.0 cl) y x.1)
  ]
  | inr y ↦ inr (later p most k c u led y.0, y.1)
]

-- one step is a moment of its own
pub step_within : {S : Type 0} (p : Prog S) (most k : ℕ) (w : Worlds) (m : Meaning) (b : Books S) (x : Work S) →
    p.life x.state ≡ Lives → suc x.steps ≤ most → (f g : Peaks) → RisesInStep p w k m b x f g →
    RisesOut p most k m (core_with w k m b x) f g
step_within {S} p most k w m b x lives small f g h cl le = elim (h cl le) [
  | inl l ↦ inl l
  | inr z ↦ inr (moment z.0 z.1 z.2, z.3)
]
  where
    moment : (left : Row S (Outcome × S)) (place : Sight S) →
        Upto pure (p.row x.state) (sight_of m.image w.committed (transaction w.own (m.part k) x)) left place →
        Moment p most k (core_with w k m b x)
    moment left place upto = record {
      now = core_with w k m b x;
      led = none_led p most k (core_with w k m b x) (core_with w k m b x) refl;
      last = transaction w.own (m.part k) x;
      runs = runs_with w k m b x;
      small = small;
      lives = lives;
      left = left;
      place = place;
      upto = upto;
    }

-- and so, where the store tells its peaks
pub step_told : {S : Type 0} (p : Prog S) (most k : ℕ) (w : Worlds) (m : Meaning) (b : Books S) (x : Work S) →
    p.life x.state ≡ Lives → suc x.steps ≤ most → (before after : Option Peaks) →
    IfTold before after (RisesInStep p w k m b x) → IfTold before after (RisesOut p most k m (core_with w k m b x))
step_told p most k w m b x lives small before after = told_as before after (RisesInStep p w k m b x)
    (RisesOut p most k m (core_with w k m b x)) (step_within p most k w m b x lives small)

-- of a store of the same shape
pub out_shape : {S : Type 0} (p : Prog S) (most k : ℕ) (m m1 : Meaning) (c : CoreState S) (f g : Peaks) →
    SameShape m m1 → RisesOut p most k m1 c f g → RisesOut p most k m c f g
out_shape p most k m m1 c f g s = subst₂ (λ l n. RisesWithin p most (l / 2) n k c f g) s.1 s.0

-- steps that were done, and then more of the same client
pub out_then : {S : Type 0} (p : Prog S) (most k k1 done : ℕ) (t e : Option (List ℕ)) (w : Worlds) (d : DeviceState)
    (m0 m : Meaning) (r : ℕ) (b : Books S) (s s1 : Side) (n : ℕ) (q : S) (f : Progress S) (c : CoreState S)
    (before now after : Option Peaks) → k1 ≡ k → s1 ≡ s → SameShape m0 m →
    (u : Paused p most k t e w c done Whole m r b (work_of s n q f) d) → IfTold before now (RisesOut p most k m0 c) →
    (Shown s1.solo t e d u.own →
    IfTold now after (RisesOut p most k1 m (core_with (with_own u.own w) k1 m b (work_of s1 n q f))))
    → IfTold before after (RisesOut p most k m0 c)
out_then {S} p most k k1 done t e w d m0 m r b s s1 n q f c before now after ek es shape u first next =
    let here = core_with (with_own u.own w) k m b (work_of s n q f) in
    told_then before now after (RisesOut p most k m0 c) (RisesOut p most k m here) (RisesOut p most k m0 c)
    (λ f g h s y. within_then p most (m0.limit / 2) m0.segments k c here (gone_led p most k done 0 c here u.gone) f g h
    s (out_shape p most k m0 m here g h shape y)) first
    (subst₂ (λ i v. Shown v.solo t e d u.own →
    IfTold now after (RisesOut p most i m (core_with (with_own u.own w) i m b (work_of v n q f)))) ek es next u.told)

-- ---- from a core that stands

-- what holds of the core with the transaction out of its hand holds of each state for which the core stood
pub told_out : {S : Type 0} (p : Prog S) (most k : ℕ) (first d : DeviceState) (m : Meaning) (b b1 : Books S)
    (x : Work S) → slice_get b.hands.items k ≡ Some (Runs x) → Set k Idle b b1 → (before after : Option Peaks) →
    ((t e : Option (List ℕ)) (w : Worlds) → Shown x.solo t e d w.own →
    IfTold before after (RisesOut p most k m (core_with w k m b1 x)))
    → (o : Outer S) → StandsFor p most first d m b o → IfTold before after (RisesOut p most k m o.core)
told_out p most k first d m b b1 x at set before after h o s =
    let out = out_of p most k first d m b b1 x at set o s in
    subst (λ c. IfTold before after (RisesOut p most k m c)) (sym out.core)
    (h first.out first.err s.worlds out.shown)
