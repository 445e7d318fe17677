-- A transaction is taken out of its hand, goes on and is settled: the state for which the core stands then.
use Rattle.std.proofs.Common.{◌≡◌, ◌≢◌, ◌<◌, ◌≤◌, ◌+◌, ℕ, cond, List, length, slice_get, Option, Some, None, Result, Ok, Err, refl, sym, ◌∙◌, ap, subst, subst₂, inl, inr, arith}
use Rattle.std.proofs.lemmas.Bool.{cond-true, cond-false}
use Rattle.std.proofs.lemmas.Option.{slice_get_within}
use Rattle.py_data.specs.declared.stop.Conflict.{Conflict}
use Rattle.py_data.specs.Heap.{Heap}
use Rattle.py_data.specs.World.{World}
use Rattle.stm_io.specs.Outside.{Rose}
use Rattle.lock_run.specs.declared.client.Life.TheVariants.{Lives}
use Rattle.lock_run.specs.RunState.{first_world}
use Rattle.lock_run.specs.Prog.{Prog}
use Rattle.lock_run.specs.Machine.{begin_with}
use Rattle.seg_store.specs.Meaning.{Meaning}
use Rattle.stm_segment.specs.declared.books.Work.{Work}
use Rattle.stm_segment.specs.declared.books.Hand.TheVariants.{Idle as IdleHand, Doomed as DoomedHand, Runs}
use Rattle.stm_segment.specs.declared.books.Cut.{Cut}
use Rattle.stm_segment.specs.declared.books.Books.{Books}
use Rattle.stm_core.specs.declared.steps.Pause.{Pause}
use Rattle.stm_core.specs.declared.steps.Pause.TheVariants.{Whole, Waits, Ended, Stopped}
use Rattle.stm_core.specs.declared.answers.Advance.{Advance}
use Rattle.stm_core.specs.declared.answers.Advance.TheVariants.{Ended as EndedAnswer}
use Rattle.stm_core.specs.declared.answers.AdvanceError.{AdvanceError}
use Rattle.stm_core.specs.declared.answers.AdvanceError.TheVariants.{Lost}
use Rattle.stm_segment.specs.declared.cause.Cause.{Cause}
use Rattle.stm_segment.specs.declared.cause.Cause.TheVariants.{Full, ReadFault, WriteFault, ErrFault, OutOfMemory}
use Rattle.stm_segment.specs.CoreState.{no_world, IsShort, Transaction, Segment, Idle, Doomed, Running, CoreState, with_segment}
use Rattle.stm_core.specs.Good.{Good}
use Rattle.stm_core.specs.Outside.{Outer}
use Rattle.stm_segment.specs.Devices.{DeviceState, Tells, Shown, IsLeftAlone, CountsGrow}
use Rattle.stm_segment.specs.Books.{Worlds, with_own, broken_of, transaction, segment_of, core_of}
use Rattle.stm_core.specs.inner.Pauses.{tried_by}
use Rattle.stm_core.specs.inner.Pausing.{Paused, DevicesGrow, SaneAfter}
use Rattle.stm_core.specs.Advance.{Gone}
use Rattle.stm_core.specs.inner.Trying.{core_with, Sane, SaneShown}
use Rattle.stm_core.specs.Advanced.{CountsDone, tried_after, Ends, StepsTaken, AdvancedFrom, Advanced}
use Rattle.stm_core.specs.SaneCore.{StandsFor, SaneCore, CauseRose, LeadsBetween}
use Rattle.stm_core.specs.inner.Settled.{IsTakenOut, IsOut, SettledTo, Rises}
use Rattle.stm_core.specs.CoreHeld.{IsFullKept}
use Rattle.stm_core.proofs.Wholes.{Set, core_set}
use Rattle.stm_core.proofs.Settling.{runs_with, core_taken}
use Rattle.stm_core.proofs.Publishing.{stands_within}
use Rattle.stm_core.proofs.OutsideLemmas.{solo_told}
use Rattle.stm_core.proofs.StandsAgain.{stands_after, good_now}
use Rattle.stm_core.proofs.Advanced.{gone_led, led_own, advanced_led}
use Rattle.stm_core.proofs.Calling.{advanced_kept}

-- ---- after steps

-- the good core, once steps came to an end
pub sane_paused : {S : Type 0} (p : Prog S) (sound : Heap → List S → Type 0) (most k : ℕ) (pause : Pause)
    (d : DeviceState) (m : Meaning) (b : Books S) (x : Work S) → SaneAfter p sound most k pause d m b x →
    Sane p sound most k m b x
sane_paused p sound most k Whole d m b x s = s.sane
sane_paused p sound most k Waits d m b x s = s.sane
sane_paused p sound most k Ended d m b x s = s.sane
sane_paused p sound most k (Stopped z) d m b x s = s

-- the thread of the transaction is there
pub thread_out : {S : Type 0} (p : Prog S) (sound : Heap → List S → Type 0) (most k : ℕ) (m : Meaning) (b : Books S)
    (x : Work S) → Sane p sound most k m b x → x.thread < length b.threads.entries
thread_out p sound most k m b x s =
    let st = s.good.stands k (transaction s.worlds.own (m.part k) x) (runs_with s.worlds k m b x) in
    slice_get_within b.threads.entries x.thread st.before st.is

-- steps leave history and cause
pub history_paused : {S : Type 0} (p : Prog S) (most k n more : ℕ) (c c1 : CoreState S) → Gone p most k n more c c1 →
    c1.history ≡ c.history
history_paused p most k n more c c1 g = (led_own p most k c c1 (gone_led p most k n more c c1 g)).history

pub cause_paused : {S : Type 0} (p : Prog S) (most k n more : ℕ) (c c1 : CoreState S) → Gone p most k n more c c1 →
    c1.cause ≡ c.cause
cause_paused p most k n more c c1 g = g.rest.cause ∙ g.steps.cause

-- another relation of the state to which this leads
pub settled_as : {S : Type 0} (t e : Option (List ℕ)) (d : DeviceState) (m1 : Meaning) (b1 : Books S)
    (f h : Outer S → Type 0) → ((o1 : Outer S) → f o1 → h o1) → SettledTo t e d m1 b1 f → SettledTo t e d m1 b1 h
settled_as t e d m1 b1 f h go s = record {
  state = s.state;
  worlds = s.worlds;
  is = go s.state s.is;
  core = s.core;
  broken = s.broken;
  tells = s.tells;
  mid = s.mid;
}

-- devices that were left alone were told the same
alone_tells : (t e : Option (List ℕ)) (d d1 : DeviceState) (w : World) → IsLeftAlone d d1 → Tells t e d w →
    Tells t e d1 w
alone_tells t e d d1 w a h = record {
  input = h.input ∙ ap (λ (z : DeviceState). z.input) (sym a);
  ends = h.ends ∙ ap (λ (z : DeviceState). z.ends) (sym a);
  out = ap (λ (z : DeviceState). z.out) a ∙ h.out;
  err = ap (λ (z : DeviceState). z.err) a ∙ h.err;
}

-- Steps of x came to an end so: x1 is out of its hand then.
module _ {S : Type 0} (p : Prog S) (most k : ℕ) (t e : Option (List ℕ)) (w : Worlds) (d d1 : DeviceState)
    (m m1 : Meaning) (r1 : ℕ) (b b1 : Books S) (x x1 : Work S) (o : Outer S) (at : IsTakenOut t e d w k m b x o)
    (done : ℕ) (pause : Pause)
    (q : Paused p most k t e w (core_with w k m b x) done pause m1 r1 b1 x1 d1) (same : x1.solo ≡ x.solo)
    (eb : b1.broken ≡ b.broken) (grow : DevicesGrow x.solo pause d d1) where
  abbrev pub last_now : Transaction S
  last_now = transaction q.own (m1.part k) x1

  abbrev pub outer_now : Outer S
  outer_now = record o {
    core = core_with (with_own q.own w) k m1 b1 x1;
    told =
        cond last_now.solo last_now.world o.told;
  }

  pub out_now : IsOut p t e d1 (with_own q.own w) k pause m1 r1 b1 x1 outer_now
  out_now = record {
    core = refl;
    broken = at.broken ∙ ap broken_of (sym eb);
    why = q.why;
    told = q.told;
    own = λ y. cond-true x1.solo last_now.world o.told y ∙ cond-true x1.solo q.own no_world y;
    tells = λ n. subst (Tells t e d1) (sym (cond-false x1.solo last_now.world o.told n))
        (alone_tells t e d d1 o.told (grow.alone (sym same ∙ n)) at.tells);
    mid = λ n none. ap (λ v. v.mid) (cond-false x1.solo last_now.world o.told n) ∙ at.mid (sym eb ∙ none) ∙
        ap (λ (z : DeviceState). z.mid) (sym (grow.alone (sym same ∙ n)));
  }

  pub taken_now : (n steps r2 l2 : ℕ) (result : Result Advance AdvanceError) (o1 : Outer S) →
      tried_after result ≡ tried_by pause → CountsDone steps done result → IsShort most (x.steps + steps) →
      x1.steps ≡ x.steps + done
      → Ends p k n r2 l2 outer_now last_now result o1 → StepsTaken p most k n steps r2 l2 o result o1
  taken_now n steps r2 l2 result o1 tried count short more ends = record {
    steps = done;
    before = core_with (with_own q.own w) k m1 b1 x1;
    last = last_now;
    gone = subst₂ (λ c h. Gone p most k done h c (core_with (with_own q.own w) k m1 b1 x1)) (sym at.core) (sym tried)
        q.gone;
    runs = runs_with (with_own q.own w) k m1 b1 x1;
    room = λ lt. omega (arith, lt, more, short);
    count = count;
    ends = ends;
  }

  -- what came of it then is what came of the call
  pub settled_now : (p1 : Prog S) → p1 ≡ p → (n steps r2 : ℕ) (d2 : DeviceState) (m2 : Meaning) (b2 : Books S)
      (result : Result Advance AdvanceError) → m1.segments ≡ n → tried_after result ≡ tried_by pause →
      CountsDone steps done result
      → IsShort most (x.steps + steps) → x1.steps ≡ x.steps + done
      → ((v : Worlds) (u : Outer S) → IsOut p1 t e d1 v k pause m1 r1 b1 x1 u →
      SettledTo t e d2 m2 b2 (Ends p1 k m1.segments r2 m2.limit u (transaction v.own (m1.part k) x1) result))
      → SettledTo t e d2 m2 b2 (StepsTaken p most k n steps r2 m2.limit o result)
  settled_now p1 pe n steps r2 d2 m2 b2 result ne tried count short more f =
      let v = with_own q.own w in
      settled_as t e d2 m2 b2 (Ends p1 k m1.segments r2 m2.limit outer_now last_now result)
      (StepsTaken p most k n steps r2 m2.limit o result)
      (λ o1 h. taken_now n steps r2 m2.limit result o1 tried count short more
      (subst₂ (λ z i. Ends z k i r2 m2.limit outer_now last_now result o1) pe ne h))
      (f v outer_now (subst (λ z. IsOut z t e d1 v k pause m1 r1 b1 x1 outer_now) (sym pe) out_now))

-- ---- counts of faults

rose_earlier : (a b c : ℕ) → a ≤ b → Rose b c → Rose a c
rose_earlier a b c le h = omega (arith, le, h)

rose_later : (a b c : ℕ) → Rose a b → b ≤ c → Rose a c
rose_later a b c h le = omega (arith, le, h)

cause_later : (z : Option Cause) (first d d1 : DeviceState) → CauseRose z first d → CountsGrow d d1 →
    CauseRose z first d1
cause_later None first d d1 h g = tt
cause_later (Some (Full i j l)) first d d1 h g = tt
cause_later (Some OutOfMemory) first d d1 h g = tt
cause_later (Some ReadFault) first d d1 h g = rose_later first.reads d.reads d1.reads h g.reads
cause_later (Some WriteFault) first d d1 h g = rose_later first.writes d.writes d1.writes h g.writes
cause_later (Some ErrFault) first d d1 h g = rose_later first.errs d.errs d1.errs h g.errs

cause_earlier : (z : Option Cause) (first d d1 : DeviceState) → CountsGrow first d → CauseRose z d d1 →
    CauseRose z first d1
cause_earlier None first d d1 g h = tt
cause_earlier (Some (Full i j l)) first d d1 g h = tt
cause_earlier (Some OutOfMemory) first d d1 g h = tt
cause_earlier (Some ReadFault) first d d1 g h = rose_earlier first.reads d.reads d1.reads g.reads h
cause_earlier (Some WriteFault) first d d1 g h = rose_earlier first.writes d.writes d1.writes g.writes h
cause_earlier (Some ErrFault) first d d1 g h = rose_earlier first.errs d.errs d1.errs g.errs h

pub counts_on : (first d d1 : DeviceState) → CountsGrow first d → CountsGrow d d1 → CountsGrow first d1
counts_on first d d1 a b =
    let ar = a.reads in let aw = a.writes in let ae = a.errs in
    let br = b.reads in let bw = b.writes in let be = b.errs in
    record { reads = omega (arith, ar, br); writes = omega (arith, aw, bw); errs = omega (arith, ae, be) }

pub rose_on : (z z1 : Option Cause) (first d d1 : DeviceState) → CountsGrow first d → CauseRose z first d →
    Rises z z1 d d1 → CauseRose z1 first d1
rose_on z z1 first d d1 g h r = elim r.rose [
  | inl same ↦ subst (λ y. CauseRose y first d1) (sym same) (cause_later z first d d1 h r.counts)
  | inr new ↦ cause_earlier z1 first d d1 g new
]

pub counts_same : (d : DeviceState) → CountsGrow d d
counts_same d = record { reads = omega arith; writes = omega arith; errs = omega arith }

-- ---- out of the hand, from a core that stands

no_break : (z : Option Cut) → broken_of z ≡ None → z ≡ None
no_break None h = refl
no_break (Some c) h = absurd cc

module _ {S : Type 0} (p : Prog S) (most k : ℕ) (first d : DeviceState) (m : Meaning) (b b1 : Books S) (x : Work S)
    (at : slice_get b.hands.items k ≡ Some (Runs x)) (set : Set k IdleHand b b1) where
  broken_same : b1.broken ≡ b.broken
  broken_same = ap (λ (z : Books S). z.broken) set.rest

  pub runs_in : (o : Outer S) (s : StandsFor p most first d m b o) →
      o.core.segments k ≡ Running (transaction s.worlds.own (m.part k) x)
  runs_in o s = ap (λ (c : CoreState S). c.segments k) s.core ∙ ap (segment_of s.worlds.own (m.part k)) at

  shown_out : (o : Outer S) (s : StandsFor p most first d m b o) → Shown x.solo first.out first.err d s.worlds.own
  shown_out o s y =
      let tx = transaction s.worlds.own (m.part k) x in
      let h = solo_told p (begin_with p (first_world first.input first.ends)) most k o tx s.kept (runs_in o s) y in
      let own : o.told ≡ s.worlds.own = h.1 ∙ cond-true x.solo s.worlds.own no_world y in
      record {
        tells = subst (Tells first.out first.err d) own s.tells;
        mid = ap (λ v. v.mid) (sym own) ∙ s.mid (no_break b.broken (sym s.broken ∙ h.0));
      }

  pub out_of : (o : Outer S) (s : StandsFor p most first d m b o) → IsTakenOut first.out first.err d s.worlds k m b1 x o
  out_of o s = record {
    core = s.core ∙ sym (core_taken k m b b1 s.worlds x at set);
    broken = s.broken ∙ ap broken_of (sym broken_same);
    tells = s.tells;
    mid = λ none. s.mid (sym broken_same ∙ none);
    shown = shown_out o s;
  }

  -- the good core, with the transaction out of its hand
  pub sane_out : (sound : Heap → List S → Type 0) → SaneCore p sound most first d m b →
      SaneShown p sound most k d m b1 x
  sane_out sound h = record {
    sane = record {
      worlds = h.stands.worlds;
      start = begin_with p (first_world first.input first.ends);
      first = h.first_sound;
      good = subst (Good p (begin_with p (first_world first.input first.ends)) most)
          (sym (core_taken k m b b1 h.stands.worlds x at set)) (good_now h);
    };
    out = first.out;
    err = first.err;
    shown = shown_out h.state h.stands;
  }

  -- it went on, and the core stands for the state to which that leads
  pub running_led : (steps r l : ℕ) (d1 : DeviceState) (m1 : Meaning) (b2 : Books S)
      (result : Result Advance AdvanceError) → length b.hands.items ≡ m.segments
      → ((t e : Option (List ℕ)) (w : Worlds) (o : Outer S) → IsTakenOut t e d w k m b1 x o →
      SettledTo t e d1 m1 b2 (AdvancedFrom (Running (transaction w.own (m.part k) x)) p most k m.segments steps r l
      o result))
      → LeadsBetween (StandsFor p most first d m b) (StandsFor p most first d1 m1 b2)
      (λ o o1. Advanced p most k m.segments steps r l o result o1)
  running_led steps r l d1 m1 b2 result len f o s =
      let z = f first.out first.err s.worlds o (out_of o s) in
      let made : Advanced p most k m.segments steps r l o result z.state =
      subst (λ (q : Segment S). AdvancedFrom q p most k m.segments steps r l o result z.state) (sym (runs_in o s))
      z.is in
      let led = advanced_led p (begin_with p (first_world first.input first.ends)) most k m.segments steps r l o
      z.state result
      s.kept (stands_within p most first d m b o len s) made in (
        z.state,
        stands_after p most first d d1 m m1 b b2 o s z.state z.worlds led.0 led.1 z.core z.broken z.tells
            z.mid,
        made,
      )

-- a doomed segment was told its conflict
pub doomed_led : {S : Type 0} (p : Prog S) (most k : ℕ) (first d : DeviceState) (m : Meaning) (b b1 : Books S)
    (f : Conflict) → slice_get b.hands.items k ≡ Some (DoomedHand f) → Set k IdleHand b b1 → (steps r l : ℕ) →
    length b.hands.items ≡ m.segments
    → LeadsBetween (StandsFor p most first d m b) (StandsFor p most first d m b1)
    (λ o o1. Advanced p most k m.segments steps r l o (Err (Lost f)) o1)
doomed_led {S} p most k first d m b b1 f at set steps r l len o s =
    let o1 : Outer S = record o { core = core_of s.worlds m b1 } in
    let eb : b1.broken ≡ b.broken = ap (λ (z : Books S). z.broken) set.rest in
    let gives : core_of s.worlds m b1 ≡ with_segment k Idle o.core =
    core_set k m b b1 s.worlds IdleHand set (slice_get_within b.hands.items k (DoomedHand f) at) ∙
    ap (with_segment k Idle) (sym s.core) in
    let there : o.core.segments k ≡ Doomed f = ap (λ (c : CoreState S). c.segments k) s.core ∙
    ap (segment_of s.worlds.own (m.part k)) at in
    let made : Advanced p most k m.segments steps r l o (Err (Lost f)) o1 =
    subst (λ (q : Segment S). AdvancedFrom q p most k m.segments steps r l o (Err (Lost f)) o1) (sym there)
    (refl, (λ i. record o { core = gives i })) in
    let led = advanced_led p (begin_with p (first_world first.input first.ends)) most k m.segments steps r l o o1
    (Err (Lost f))
    s.kept (stands_within p most first d m b o len s) made in (
      o1,
      stands_after p most first d d m m b b1 o s o1 s.worlds led.0 led.1 refl (s.broken ∙ ap broken_of (sym eb))
          s.tells (λ none. s.mid (sym eb ∙ none)),
      made,
    )

-- where the thread had ended, nothing changes
pub ended_out : {S : Type 0} (p : Prog S) (most k : ℕ) (t e : Option (List ℕ)) (d : DeviceState) (w : Worlds)
    (m : Meaning) (b b1 : Books S) (x : Work S) (o : Outer S) → IsTakenOut t e d w k m b x o → p.life x.state ≢ Lives
    → (n steps r l : ℕ) (d1 : DeviceState) (m1 : Meaning) → d1 ≡ d → core_of w m1 b1 ≡ core_with w k m b x →
    b1.broken ≡ b.broken
    → SettledTo t e d1 m1 b1 (AdvancedFrom (Running (transaction w.own (m.part k) x)) p most k n steps r l o
    (Ok (EndedAnswer 0)))
ended_out p most k t e d w m b b1 x o at ended n steps r l d1 m1 same h eb = record {
  state = o;
  worlds = w;
  is = ((λ q. (refl, refl)), (λ q. absurd (ended q)));
  core = at.core ∙ sym h;
  broken = at.broken ∙ ap broken_of (sym eb);
  tells = subst (λ z. Tells t e z o.told) (sym same) at.tells;
  mid = λ none. at.mid (sym eb ∙ none) ∙ ap (λ (z : DeviceState). z.mid) (sym same);
}

-- a kept Full is one still
pub full_led : {S : Type 0} (p : Prog S) (sound : Heap → List S → Type 0) (most k n steps r r1 l l1 : ℕ)
    (first d d1 : DeviceState) (m m1 : Meaning) (b b1 : Books S) (result : Result Advance AdvanceError) → r ≤ r1 →
    l1 ≡ l → SaneCore p sound most first d m b
    → IsFullKept r l b.cause → LeadsBetween (StandsFor p most first d m b) (StandsFor p most first d1 m1 b1)
    (λ o o1. Advanced p most k n steps r1 l1 o result o1) → IsFullKept r1 l1 b1.cause
full_led {S} p sound most k n steps r r1 l l1 first d d1 m m1 b b1 result le same h full led =
    let z = led h.state h.stands in
    let old : IsFullKept r l h.state.core.cause =
    subst (IsFullKept r l) (sym (ap (λ (c : CoreState S). c.cause) h.stands.core)) full in
    let new = advanced_kept p r r1 l l1 le same h.state z.0 old most k n steps result z.2 in
    subst (IsFullKept r1 l1) (ap (λ (c : CoreState S). c.cause) z.1.core) new
