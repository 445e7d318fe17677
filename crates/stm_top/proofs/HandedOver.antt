-- What a core hands out at its end is what the call says of a run.
use Rattle.std.proofs.Common.{◌≡◌, inl, inr, ℕ, Bool, true, false, List, Option, Some, None, refl, sym, ◌∙◌, ap, subst}
use Rattle.py_data.specs.declared.stop.Conflict.{Conflict}
use Rattle.lock_run.specs.declared.turn.Turn.{Turn}
use Rattle.lock_run.specs.RunState.{first_world}
use Rattle.lock_run.specs.Prog.{Prog}
use Rattle.lock_run.specs.Cut.{Broken}
use Rattle.lock_run.specs.Machine.{Machine, begin_with}
use Rattle.lock_run.specs.RunState.{SomeLives, SomeReady}
use Rattle.seg_store.specs.Meaning.{Meaning}
use Rattle.stm_segment.specs.declared.cause.Cause.{Cause}
use Rattle.stm_segment.specs.declared.cause.Cause.TheVariants as cause
use Rattle.stm_core.specs.declared.standing.RunState.{RunState}
use Rattle.stm_core.specs.declared.standing.RunState.TheVariants as state
use Rattle.stm_segment.specs.CoreState.{Transaction, Idle, Running, committed}
use Rattle.stm_core.specs.CoreHeld.{IsFullKept}
use Rattle.stm_segment.specs.Devices.{DeviceState}
use Rattle.stm_core.specs.Events.{Limits}
use Rattle.stm_core.specs.Finishing.{IsUnused, HandedOut}
use Rattle.stm_core.specs.Outside.{Outer, Kept, is_device}
use Rattle.stm_core.specs.SaneCore.{CauseRose}
use Rattle.stm_top.specs.declared.answer.Answer.{Answer}
use Rattle.stm_top.specs.Serial.{Ended, Whole, Cut, Serial, IsWhole, IsCutBy}
use Rattle.stm_top.specs.TopCall.{Devices, Told, faults_of, RunEnded}
use Rattle.stm_top.specs.inner.Ending.{answer_to, AnswerTo, RunEnds}
use Rattle.stm_top.proofs.FullHeap.{NearlyFullAt}

-- ---- how the telling to the devices ended
module _ {S : Type 0} (p : Prog S) (first : Machine S) (most : ℕ) (o : Outer S) (h : Kept p first most o)
    (idle : (i : ℕ) → o.core.segments i ≡ Idle) where
  none_runs : (i : ℕ) (x : Transaction S) → o.core.segments i ≡ Running x → x.solo ≡ false
  none_runs i x e = absurd (let q : Idle ≡ Running x = sym (idle i) ∙ e in cc)

  ended_at : (b : Option Broken) → o.broken ≡ b → Ended p first o.core.history o.core.world o.told
  ended_at None e = Whole ((h.outside.told e).alone none_runs)
  ended_at (Some b) e = Cut b (h.outside.broken b e).broke

  -- without a cause no step broke
  whole_at : (b : Option Broken) (e : o.broken ≡ b) → o.core.cause ≡ None → IsWhole (ended_at b e)
  unfolding ended_at
  whole_at None e n = tt
  whole_at (Some b) e n = absurd ((h.outside.broken b e).caused n)

  -- with a device's fault a step broke in a call of that device
  cut_at : (b : Option Broken) (e : o.broken ≡ b) (d : Cause) → o.core.cause ≡ Some d → is_device d ≡ true →
      IsCutBy d (ended_at b e)
  unfolding ended_at
  cut_at None e d c dev = absurd (let r = h.outside.faulted d c dev in let q : None ≡ Some r.0 = sym e ∙ r.1 in cc)
  cut_at (Some b) e d c dev = (h.outside.broken b e).why d c

  lives_on : (d : Cause) → o.core.cause ≡ Some d → SomeLives p (committed o.core)
  lives_on d c = let u = h.good.caused (λ n. let q : None ≡ Some d = sym n ∙ c in cc) in
      (u.thread, u.state, u.is, u.lives)

-- ---- the run
-- what a core's devices tell that were these
abbrev pub telling : Devices → Bool → Bool → DeviceState
telling d mid was = record {
  input = d.input.told;
  ends = d.input.ends;
  out = d.out.told;
  err = d.err.told;
  mid = mid;
  was_mid = was;
  reads = d.input.faults;
  writes = d.out.faults;
  errs = d.err.faults;
}

one_lives : {S : Type 0} (p : Prog S) (m : Machine S) → SomeReady p m → SomeLives p m
one_lives p m r = (r.0, r.1, r.2, r.3.0)

module _ {S : Type 0} (p : Prog S) (l : Limits) (a b : Devices) (mid was : Bool) (m : Meaning) (reserved : ℕ)
    (failed : Bool) (o o1 : Outer S) where
  abbrev Handed : RunState → List Turn → List Conflict → Type 0
  Handed s history conflicts = HandedOut p l.length l.budget l.segments (telling a mid was) (telling b false false) s
      failed history conflicts m.image o o1

  first : Machine S
  first = begin_with p (first_world a.input.told a.input.ends)

  idle_at : (s : RunState) (history : List Turn) (conflicts : List Conflict) → Handed s history conflicts → (i : ℕ) →
      o1.core.segments i ≡ Idle
  idle_at s history conflicts h i = ap (λ (z : Outer S). z.core.segments i) h.idle

  abbrev RunOf : List Turn → List Conflict → Type 0
  RunOf history conflicts = Serial p l.length a.input a.out.told a.err.told history conflicts b.input
      b.out.told b.err.told

  module _ (s : RunState) (history : List Turn) (conflicts : List Conflict) (h : Handed s history conflicts) where
    run_of : RunOf o1.core.history o1.core.conflicts
    run_of = record {
      machine = committed o1.core;
      run = h.kept.good.run;
      told = o1.told;
      ended = ended_at p (begin_with p (first_world a.input.told a.input.ends)) l.length o1 h.kept
          (idle_at s history conflicts h)
          o1.broken refl;
      input_left = sym h.tells.input;
      ends = sym h.tells.ends;
      output = h.tells.out;
      errors = h.tells.err;
      short = h.kept.good.short;
      stood = h.kept.stood;
      once = h.kept.good.differ;
    }

    whole : o1.core.cause ≡ None → IsWhole run_of.ended
    unfolding run_of
    whole n = whole_at p (begin_with p (first_world a.input.told a.input.ends)) l.length o1 h.kept
        (idle_at s history conflicts h)
        o1.broken refl n

    cut_by : (d : Cause) → o1.core.cause ≡ Some d → is_device d ≡ true → IsCutBy d run_of.ended
    unfolding run_of
    cut_by d c dev = cut_at p (begin_with p (first_world a.input.told a.input.ends)) l.length o1 h.kept
        (idle_at s history conflicts h) o1.broken refl d c dev

    lives : (d : Cause) → o1.core.cause ≡ Some d → SomeLives p run_of.machine
    unfolding run_of
    lives d c = lives_on p (begin_with p (first_world a.input.told a.input.ends)) l.length o1 h.kept
        (idle_at s history conflicts h)
        d c

    rose_with : (d : Cause) → o1.core.cause ≡ Some d → CauseRose (Some d) (telling a mid was) (telling b false false)
    rose_with d c = subst (λ z. CauseRose z (telling a mid was) (telling b false false)) c h.rose

  abbrev EndsAt : (s : RunState) (history : List Turn) (conflicts : List Conflict) → Handed s history conflicts →
      Answer → Type 0
  EndsAt s history conflicts h answer = RunEnded l (Some reserved) answer (faults_of a) (faults_of b)
      (run_of s history conflicts h)

  -- a cause that was kept
  module _ (full : IsFullKept reserved m.limit o1.core.cause) (words : m.limit ≡ l.words)
      (nearly : NearlyFullAt p l a.input.told a.input.ends o1.core) where
    caused_end : (e : Cause) (history : List Turn) (conflicts : List Conflict)
        (h : Handed (state.Faulted e) history conflicts) → EndsAt (state.Faulted e) history conflicts h (answer_to e)
    unfolding run_of
    caused_end (cause.Full r n x) history conflicts h =
        let f = subst (λ z. IsFullKept reserved m.limit z) h.outcome full in (
          lives (state.Faulted (cause.Full r n x)) history conflicts h (cause.Full r n x) h.outcome,
          f.0 ∙ words,
          f.2,
          (reserved, refl, f.1),
          (nearly r n x h.outcome).0,
          (nearly r n x h.outcome).1,
        )
    caused_end cause.ReadFault history conflicts h = (
      cut_by (state.Faulted cause.ReadFault) history conflicts h cause.ReadFault h.outcome refl,
      rose_with (state.Faulted cause.ReadFault) history conflicts h cause.ReadFault h.outcome,
    )
    caused_end cause.WriteFault history conflicts h = (
      cut_by (state.Faulted cause.WriteFault) history conflicts h cause.WriteFault h.outcome refl,
      rose_with (state.Faulted cause.WriteFault) history conflicts h cause.WriteFault h.outcome,
    )
    caused_end cause.ErrFault history conflicts h = (
      cut_by (state.Faulted cause.ErrFault) history conflicts h cause.ErrFault h.outcome refl,
      rose_with (state.Faulted cause.ErrFault) history conflicts h cause.ErrFault h.outcome,
    )
    caused_end cause.OutOfMemory history conflicts h = lives (state.Faulted cause.OutOfMemory) history conflicts h
        cause.OutOfMemory h.outcome

-- how it ended, where the thread 0 failed or not
module _ {S : Type 0} (p : Prog S) (l : Limits) (a b : Devices) (mid was : Bool) (m : Meaning) (reserved : ℕ)
    (o o1 : Outer S) (full : IsFullKept reserved m.limit o1.core.cause) (words : m.limit ≡ l.words)
    (nearly : NearlyFullAt p l a.input.told a.input.ends o1.core) (history : List Turn)
    (conflicts : List Conflict) where
  abbrev EndsWith : (s : RunState) (failed : Bool) → HandedOut p l.length l.budget l.segments (telling a mid was)
      (telling b false false) s failed history conflicts m.image o o1 → Answer → Type 0
  EndsWith s failed h answer = RunEnded l (Some reserved) answer (faults_of a) (faults_of b)
      (run_of p l a b mid was m reserved failed o o1 s history conflicts h)

  answered : (s : RunState) (failed : Bool)
      (h : HandedOut p l.length l.budget l.segments (telling a mid was) (telling b false false) s failed history
      conflicts m.image o o1) (answer : Answer) → AnswerTo s failed o1.core.history answer → EndsWith s failed h answer
  unfolding run_of
  answered state.Done false h answer e =
      subst (EndsWith state.Done false h) (sym e)
      (whole p l a b mid was m reserved false o o1 state.Done history conflicts h h.outcome.0, h.outcome.1, h.failed_is)
  answered state.Done true h answer e = subst (EndsWith state.Done true h) (sym e)
      (whole p l a b mid was m reserved true o o1 state.Done history conflicts h h.outcome.0, h.outcome.1, h.failed_is)
  answered state.Stuck failed h answer e =
      subst (EndsWith state.Stuck failed h) (sym e)
      (whole p l a b mid was m reserved failed o o1 state.Stuck history conflicts h h.outcome.0.0, h.outcome.1)
  answered state.Spent failed h answer (inl e) =
      subst (EndsWith state.Spent failed h) (sym e.1)
      (whole p l a b mid was m reserved failed o o1 state.Spent history conflicts h h.outcome.0.0, h.outcome.1, e.2)
  answered state.Spent failed h answer (inr e) =
      subst (EndsWith state.Spent failed h) (sym e) (one_lives p (committed o1.core) h.outcome.1.0)
  answered state.Running failed h answer e = absurd e
  answered (state.Faulted c) failed h answer e =
      subst (EndsWith (state.Faulted c) failed h) (sym e)
      (caused_end p l a b mid was m reserved failed o o1 full words nearly c history conflicts h)

-- what is handed out is the end of a run, whose lists and store are the report's
pub handed_over : {S : Type 0} (p : Prog S) (l : Limits) (a b : Devices) (mid was : Bool) (m : Meaning) (reserved : ℕ)
    (o o1 : Outer S) (s : RunState) (failed : Bool) (t : Told) (answer : Answer)
    → HandedOut p l.length l.budget l.segments (telling a mid was) (telling b false false) s failed t.history
    t.conflicts m.image o o1
    → IsFullKept reserved m.limit o1.core.cause → NearlyFullAt p l a.input.told a.input.ends o1.core →
    m.segments ≡ l.segments →
    m.limit ≡ l.words → ((j : ℕ) → IsUnused (m.part j)) → t.store ≡ Some m → t.reserved ≡ Some reserved →
    AnswerTo s failed t.history answer → RunEnds p l answer a t b
unfolding run_of
handed_over {S} p l a b mid was m reserved o o1 s failed t answer h full nearly segments words unused store taken e =
    let same : record {
      history = o1.core.history;
      conflicts = o1.core.conflicts;
      store = t.store;
      reserved = t.reserved;
    } ≡ t = λ i. record {
      history = h.history_is i;
      conflicts = h.conflicts_are i;
      store = t.store;
      reserved = t.reserved;
    } in
    subst (λ (u : Told). RunEnds p l answer a u b) same (record {
      serial = run_of p l a b mid was m reserved failed o o1 s t.history t.conflicts h;
      store = record {
        meaning = m;
        is = store;
        image = sym h.image_is;
        segments = segments;
        words = words;
        unused =
            unused;
      };
      ended = subst (λ z. RunEnded l z answer (faults_of a) (faults_of b)
          (run_of p l a b mid was m reserved failed o o1 s t.history t.conflicts h)) (sym taken)
          (answered p l a b mid was m reserved o o1 full words nearly t.history t.conflicts s failed h answer
          (subst (λ z. AnswerTo s failed z answer) (sym h.history_is) e));
      counts = record { input = h.counts.reads; out = h.counts.writes; err = h.counts.errs };
    })
