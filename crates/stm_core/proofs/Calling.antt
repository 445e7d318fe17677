-- What the condition of a call on the core's state says of the books, and how the job and a good core come out of each
-- way of return.
use Rattle.std.proofs.Common.{◌≡◌, ◌<◌, ◌≤◌, ◌+◌, ℕ, Bool, true, false, ◌&&◌, nat_lt, nat_le, cond, List, Option, Some, None, Result, Ok, Err, slice_get, refl, sym, ◌∙◌, ap, subst, arith}
use Rattle.std.proofs.lemmas.Bool.Decides.{nat_tests}
use Rattle.py_data.specs.Heap.{Heap}
use Rattle.lock_run.specs.Prog.{Prog}
use Rattle.seg_store.specs.Meaning.{Meaning}
use Rattle.seg_store.specs.Store.{IsStore}
use Rattle.stm_segment.specs.declared.books.Work.{Work}
use Rattle.stm_segment.specs.declared.books.Hand.{Hand}
use Rattle.stm_segment.specs.declared.books.Hand.TheVariants as hand
use Rattle.stm_segment.specs.declared.books.Books.{Books}
use Rattle.stm_core.specs.declared.events.Event.TheVariants as event
use Rattle.stm_core.specs.declared.transactions.Core.{Core}
use Rattle.stm_io.specs.Outside.{SourceState, SinkState}
use Rattle.stm_core.specs.Outside.{Outer}
use Rattle.stm_segment.specs.Devices.{DeviceState, device_state, CountsGrow}
use Rattle.stm_segment.specs.Books.{Worlds, segment_of, core_of}
use Rattle.stm_core.specs.Standing.{slot_of}
use Rattle.stm_core.specs.inner.Whole.{Whole, SameShape}
use Rattle.stm_core.specs.SaneCore.{StandsFor, SaneCore, CauseRose, LeadsBetween}
use Rattle.stm_core.specs.Begun.{CountsSteps, Begun}
use Rattle.stm_core.specs.CoreHeld.{core_devices, first_devices, CoreStands, Leads, IsFullKept, IsGoodCore, SameJob}
use Rattle.stm_core.specs.Events.{Limits, is_busy, is_within, may_make}
use Rattle.stm_core.specs.declared.answers.Advance.{Advance}
use Rattle.stm_core.specs.declared.answers.AdvanceError.{AdvanceError}
use Rattle.lock_run.specs.declared.client.Life.{Life}
use Rattle.lock_run.specs.declared.client.Life.TheVariants.{Lives, Ended as EndedLife, Failed as FailedLife}
use Rattle.stm_core.specs.declared.answers.Advance.TheVariants.{Ran, Waits, Ended, NeedSolo}
use Rattle.stm_core.specs.declared.answers.AdvanceError.TheVariants.{Lost, Failed}
use Rattle.stm_core.specs.declared.begin.BeginError.{BeginError}
use Rattle.stm_core.specs.declared.begin.BeginError.TheVariants.{Over, Busy, NotReady, AtBudget, OutOfMemory as NoMemoryError}
use Rattle.stm_segment.specs.declared.cause.Cause.{Cause}
use Rattle.stm_segment.specs.declared.cause.Cause.TheVariants.{Full, ReadFault, WriteFault, ErrFault, OutOfMemory}
use Rattle.stm_segment.specs.CoreState.{no_world, IsShort, Transaction, Segment, Idle, Doomed, Running, CoreState, with_segment, with_conflict, first_cause}
use Rattle.stm_core.specs.Moves.{begun_at}
use Rattle.stm_core.specs.Advanced.{IsStepCause, IsSoloCause, Fails, Ends, StepsTaken, AdvancedFrom, Advanced}

-- any worlds will do to tell what doesn't depend on them
pub blank : Worlds
blank = record { committed = no_world; own = no_world }

no : false ≡ true → ⊥
no e = cc

pub left : (a b : Bool) → (a && b) ≡ true → a ≡ true
left true b h = refl
left false b h = h

pub right : (a b : Bool) → (a && b) ≡ true → b ≡ true
right true b h = h
right false b h = absurd (no h)

pub below : (a b : ℕ) → nat_lt a b ≡ true → a < b
below a b h = grind (arith, nat_tests, h)

at_most : (a b : ℕ) → nat_le a b ≡ true → a ≤ b
at_most a b h = grind (arith, nat_tests, h)

module _ {S : Type 0} (w : Worlds) (m : Meaning) (b : Books S) (k : ℕ) where
  -- something is in hand
  busy : is_busy (slot_of ((core_of w m b).segments k)) ≡ true → slice_get b.hands.items k ≡ Some hand.Idle → ⊥
  busy h e = no (sym (ap (λ (o : Option (Hand S)). is_busy (slot_of (segment_of w.own (m.part k) o))) e) ∙ h)

  -- the steps that are asked for are within the length
  within : (most length : ℕ) → is_within length most (slot_of ((core_of w m b).segments k)) ≡ true → (x : Work S) →
      slice_get b.hands.items k ≡ Some (hand.Runs x) → IsShort length (x.steps + most)
  within most length h x e = at_most (x.steps + most) length
      (sym (ap (λ (o : Option (Hand S)). is_within length most (slot_of (segment_of w.own (m.part k) o))) e) ∙ h)

-- a commit, or a call of `solo`, that may be made
pub record Ending {S : Type 0} (m : Meaning) (b : Books S) (k : ℕ) : Type 0 where
  pub segment : k < m.segments
  pub busy : slice_get b.hands.items k ≡ Some hand.Idle → ⊥

-- an advance that may be made
pub record Going {S : Type 0} (m : Meaning) (b : Books S) (k most length : ℕ) : Type 0 where
  pub segment : k < m.segments
  pub busy : slice_get b.hands.items k ≡ Some hand.Idle → ⊥
  pub some : 1 ≤ most
  pub short : (x : Work S) → slice_get b.hands.items k ≡ Some (hand.Runs x) → IsShort length (x.steps + most)

module _ {S : Type 0} (p : Prog S) (most : ℕ) (first d : DeviceState) (m : Meaning) (b : Books S) (o : Outer S)
    (s : StandsFor p most first d m b o) (l : Limits) (k : ℕ) where
  pub ending : l.segments ≡ m.segments → nat_lt k l.segments && is_busy (slot_of (o.core.segments k)) ≡ true →
      Ending m b k
  ending e h = record {
    segment = omega (arith, below k l.segments (left _ _ h), e);
    busy = busy s.worlds m b k (subst (λ (c : CoreState S). is_busy (slot_of (c.segments k)) ≡ true) s.core
        (right (nat_lt k l.segments) _ h));
  }

  pub going : (steps : ℕ) → l.segments ≡ m.segments → may_make l o.core (event.Advance k steps) ≡ true →
      Going m b k steps l.length
  going steps e h =
      let h1 = right (nat_lt k l.segments) _ h in
      let h2 = right (is_busy (slot_of (o.core.segments k))) _ h1 in
      record {
        segment = omega (arith, below k l.segments (left _ _ h), e);
        busy = busy s.worlds m b k (subst (λ (c : CoreState S). is_busy (slot_of (c.segments k)) ≡ true) s.core
            (left _ _ h1));
        some = omega (arith, below 0 steps (left _ _ h2));
        short = within s.worlds m b k steps l.length
            (subst (λ (c : CoreState S). is_within l.length steps (slot_of (c.segments k)) ≡ true) s.core
            (right (nat_lt 0 steps) _ h2));
      }

-- what a call's condition says of a core that is good
module _ {S : Type 0} {p : Prog S} {sound : Heap → List S → Type 0} {most : ℕ} {first d : DeviceState} {m : Meaning}
    {b : Books S} (s : SaneCore p sound most first d m b) (l : Limits) (k : ℕ) (same : l.segments ≡ m.segments) where
  pub ending_now : ((o : Outer S) → StandsFor p most first d m b o →
      (nat_lt k l.segments && is_busy (slot_of (o.core.segments k))) ≡ true) → Ending m b k
  ending_now may = ending p most first d m b s.state s.stands l k same (may s.state s.stands)

  pub going_now : (steps : ℕ) → ((o : Outer S) → StandsFor p most first d m b o →
      may_make l o.core (event.Advance k steps) ≡ true) → Going m b k steps l.length
  going_now steps may = going p most first d m b s.state s.stands l k steps same (may s.state s.stands)

-- ---- after a call, which keeps the client and the store's shape

-- the core stands for a state again to which one leads for which it stood
pub sane_led : {S : Type 0} (p : Prog S) (sound : Heap → List S → Type 0) (most : ℕ) (first d d1 : DeviceState)
    (m m1 : Meaning) (b b1 : Books S) (leads : Outer S → Outer S → Type 0) → SaneCore p sound most first d m b
    → LeadsBetween (StandsFor p most first d m b) (StandsFor p most first d1 m1 b1) leads → CountsGrow first d1 →
    CauseRose b1.cause first d1 → SaneCore p sound most first d1 m1 b1
sane_led p sound most first d d1 m m1 b b1 leads s f counts rose = let z = f s.state s.stands in
    record { first_sound = s.first_sound; state = z.0; stands = z.1; counts = counts; rose = rose }

module _ {C S I O E T : Type 0} (input : I → SourceState) (out : O → SinkState) (err : E → SinkState)
    (prog : C → Prog T) (sound : C → Heap → List T → Type 0) (reserved : S → ℕ) (meaning : S → Meaning) where
  -- what a way of return leaves
  pub record Kept (x y : Core C S I O E T) : Type 0 where
    pub rest : y ≡ record x { store = y.store; books = y.books; devices = y.devices; spent = y.spent }
    pub shape : SameShape (meaning x.store) (meaning y.store)
    pub store : IsStore (reserved y.store) (meaning y.store)
    pub whole : Whole (meaning y.store) y.books
    pub count : CountsSteps y.spent y.books.history.entries
    pub kept : IsFullKept (reserved y.store) (meaning y.store).limit y.books.cause
    pub sane : SaneCore (prog x.client.now) (sound x.client.now) x.length (first_devices input out err x)
        (core_devices input out err y) (meaning y.store) y.books

  pub good_again : (x y : Core C S I O E T) → Kept x y → IsGoodCore input out err prog sound reserved meaning y
  good_again x y k = record {
    store = k.store;
    whole = k.whole;
    count = k.count;
    kept = k.kept;
    sane = subst (λ (z : Core C S I O E T). SaneCore (prog z.client.now) (sound z.client.now) z.length
        (first_devices input out err z) (core_devices input out err y) (meaning y.store) y.books) (sym k.rest) k.sane;
  }

  pub same_again : (x y : Core C S I O E T) → Kept x y → SameJob meaning x y
  same_again x y k = record {
    client = λ i. (k.rest i).client.now;
    limits = λ i. record {
      length = (k.rest i).length;
      budget = (k.rest i).budget;
      segments = k.shape.0 i;
      words =
          k.shape.1 i;
    };
    made_with = λ i. (k.rest i).made_with;
  }

  -- what leads from the one core to the other leads there for the other's own job
  pub leads_again : (x y : Core C S I O E T) (leads : Outer T → Outer T → Type 0) → Kept x y
      → LeadsBetween (CoreStands input out err prog meaning x)
      (StandsFor (prog x.client.now) x.length (first_devices input out err x) (core_devices input out err y)
      (meaning y.store) y.books) leads → Leads input out err prog meaning x y leads
  leads_again x y leads k f o s =
      let z = f o s in (
        z.0,
        subst (λ (q : Core C S I O E T). StandsFor (prog q.client.now) q.length (first_devices input out err q)
            (core_devices input out err y) (meaning y.store) y.books z.0) (sym k.rest) z.1,
        z.2,
      )

-- where the cause is as before
pub rose_same : (o o1 : Option Cause) (d d1 : DeviceState) → o1 ≡ o → CauseRose o d d1 → CauseRose o1 d d1
rose_same o o1 d d1 e r = subst (λ z. CauseRose z d d1) (sym e) r

-- ---- after a call that leaves the devices alone

module _ {C S I O E T : Type 0} (input : I → SourceState) (out : O → SinkState) (err : E → SinkState)
    (prog : C → Prog T) (sound : C → Heap → List T → Type 0) (reserved : S → ℕ) (meaning : S → Meaning) where
  -- what a way of return leaves
  pub record Quiet (x y : Core C S I O E T) (leads : Outer T → Outer T → Type 0) : Type 0 where
    pub rest : y ≡ record x { store = y.store; books = y.books; spent = y.spent }
    pub shape : SameShape (meaning x.store) (meaning y.store)
    pub store : IsStore (reserved y.store) (meaning y.store)
    pub whole : Whole (meaning y.store) y.books
    pub count : CountsSteps y.spent y.books.history.entries
    pub kept : IsFullKept (reserved y.store) (meaning y.store).limit y.books.cause
    pub rose : CauseRose y.books.cause (first_devices input out err x) (core_devices input out err x)
    pub led : LeadsBetween (CoreStands input out err prog meaning x)
        (StandsFor (prog x.client.now) x.length (first_devices input out err x) (core_devices input out err x)
        (meaning y.store) y.books) leads

  module _ (x y : Core C S I O E T) (leads : Outer T → Outer T → Type 0) (q : Quiet x y leads)
      (good : IsGoodCore input out err prog sound reserved meaning x) where
    pub quiet_devices : core_devices input out err y ≡ core_devices input out err x
    quiet_devices i = device_state input out err (q.rest i).devices

    led_on : LeadsBetween (CoreStands input out err prog meaning x)
        (StandsFor (prog x.client.now) x.length (first_devices input out err x) (core_devices input out err y)
        (meaning y.store) y.books) leads
    led_on o s = let z = q.led o s in (
      z.0,
      subst (λ d. StandsFor (prog x.client.now) x.length (first_devices input out err x) d (meaning y.store) y.books
          z.0) (sym quiet_devices) z.1,
      z.2,
    )

    kept_on : Kept input out err prog sound reserved meaning x y
    kept_on = record {
      rest = q.rest ∙ (λ i. record x {
        store = y.store;
        books = y.books;
        devices = (sym q.rest i).devices;
        spent =
            y.spent;
      });
      shape = q.shape;
      store = q.store;
      whole = q.whole;
      count = q.count;
      kept = q.kept;
      sane = subst (λ d. SaneCore (prog x.client.now) (sound x.client.now) x.length (first_devices input out err x) d
          (meaning y.store) y.books) (sym quiet_devices)
          (sane_led (prog x.client.now) (sound x.client.now) x.length (first_devices input out err x)
          (core_devices input out err x) (core_devices input out err x) (meaning x.store) (meaning y.store) x.books
          y.books leads good.sane q.led good.sane.counts q.rose);
    }

    pub quiet_good : IsGoodCore input out err prog sound reserved meaning y
    quiet_good = good_again input out err prog sound reserved meaning x y kept_on

    pub quiet_job : SameJob meaning x y
    quiet_job = same_again input out err prog sound reserved meaning x y kept_on

    pub quiet_leads : Leads input out err prog meaning x y leads
    quiet_leads = leads_again input out err prog sound reserved meaning x y leads kept_on led_on

-- where the count of the steps stays too
pub with_spent : {C S I O E T : Type 0} (x y : Core C S I O E T) → y ≡ record x { store = y.store; books = y.books } →
    y ≡ record x { store = y.store; books = y.books; spent = y.spent }
with_spent x y e = e ∙ (λ i. record x { store = y.store; books = y.books; spent = (sym e i).spent })

-- the same job, and again the same job
pub same_then : {C S I O E T : Type 0} (meaning : S → Meaning) (x y z : Core C S I O E T) → SameJob meaning x y →
    SameJob meaning y z → SameJob meaning x z
same_then meaning x y z a b = record {
  client = b.client ∙ a.client;
  limits = b.limits ∙ a.limits;
  made_with =
      b.made_with ∙ a.made_with;
}

-- ---- a kept Full

-- a kept one stays one, as long as what is reserved doesn't fall
full_later : (r r1 l l1 : ℕ) (o : Option Cause) → r ≤ r1 → l1 ≡ l → IsFullKept r l o → IsFullKept r1 l1 o
full_later r r1 l l1 None le e k = tt
full_later r r1 l l1 (Some (Full i n j)) le e k = let a = k.1 in (k.0 ∙ sym e, omega (arith, a, le), k.2)
full_later r r1 l l1 (Some ReadFault) le e k = tt
full_later r r1 l l1 (Some WriteFault) le e k = tt
full_later r r1 l l1 (Some ErrFault) le e k = tt
full_later r r1 l l1 (Some OutOfMemory) le e k = tt

pub le_same : (a b : ℕ) → b ≡ a → a ≤ b
le_same a b e = omega (arith, e)

-- where the cause is as before
pub full_same : (r r1 l l1 : ℕ) (o o1 : Option Cause) → r ≤ r1 → l1 ≡ l → o1 ≡ o → IsFullKept r l o →
    IsFullKept r1 l1 o1
full_same r r1 l l1 o o1 le e same k = subst (IsFullKept r1 l1) (sym same) (full_later r r1 l l1 o le e k)

module _ {S : Type 0} (p : Prog S) (r r1 l l1 : ℕ) (le : r ≤ r1) (same : l1 ≡ l) (c c1 : CoreState S)
    (old : IsFullKept r l c.cause) where
  as_before : (q : CoreState S) → q.cause ≡ c.cause → c1 ≡ q → IsFullKept r1 l1 c1.cause
  as_before q e h = full_same r r1 l l1 c.cause c1.cause le same (ap (λ (z : CoreState S). z.cause) h ∙ e) old

  -- a begin
  pub begun_kept : (k t budget : ℕ) (result : Result (Unit {0}) BeginError) → Begun p k t budget result c c1 →
      IsFullKept r1 l1 c1.cause
  begun_kept k t budget (Ok u) b = as_before (begun_at k t b.0.ready.state c) refl b.1
  begun_kept k t budget (Err (Over e)) b = as_before c refl b.1
  begun_kept k t budget (Err (Busy i)) b = as_before c refl b.3
  begun_kept k t budget (Err (NotReady s)) b = as_before c refl b.4
  begun_kept k t budget (Err AtBudget) b = as_before c refl b.4
  begun_kept k t budget (Err NoMemoryError) b = subst (IsFullKept r1 l1) (sym (ap (λ (z : CoreState S). z.cause) b.1))
      tt

-- ---- after an advance

module _ {S : Type 0} (p : Prog S) (r r1 l l1 : ℕ) (le : r ≤ r1) (same : l1 ≡ l) (o o1 : Outer S)
    (old : IsFullKept r l o.core.cause) where
  from_cause : (q : Option Cause) → q ≡ o.core.cause → o1.core.cause ≡ q → IsFullKept r1 l1 o1.core.cause
  from_cause q e h = full_same r r1 l l1 o.core.cause o1.core.cause le same (h ∙ e) old

  -- what an advance kept of a full heap, which has these numbers
  kept_first : (z : Option Cause) (e : Cause) (u : CoreState S) (x : Transaction S) → IsFullKept r1 l1 z →
      IsSoloCause p u x r1 l1 e → IsFullKept r1 l1 (first_cause z e)
  kept_first (Some d) e u x h w = h
  kept_first None (Full i n j) u x h w = let a = w.1 in (w.2, omega (arith, a), w.3)
  kept_first None OutOfMemory u x h w = tt
  kept_first None ReadFault u x h w = tt
  kept_first None WriteFault u x h w = tt
  kept_first None ErrFault u x h w = tt

  solo_cause : (e : Cause) (u : CoreState S) (x : Transaction S) → IsStepCause p u x r1 l1 e → IsSoloCause p u x r1 l1 e
  solo_cause (Full i n j) u x w = w
  solo_cause OutOfMemory u x w = tt
  solo_cause ReadFault u x w = tt
  solo_cause WriteFault u x w = tt
  solo_cause ErrFault u x w = tt

  pub advanced_kept : (length k n most : ℕ) (result : Result Advance AdvanceError) →
      Advanced p length k n most r1 l1 o result o1 → IsFullKept r1 l1 o1.core.cause
  advanced_kept length k n most result h = from (o.core.segments k) h
    where
      taken : StepsTaken p length k n most r1 l1 o result o1 → IsFullKept r1 l1 o1.core.cause
      taken t = go result t.ends
        where
          u : Outer S
          u = record o { core = t.before; told = cond t.last.solo t.last.world o.told }

          stays : t.before.cause ≡ o.core.cause
          stays = t.gone.rest.cause ∙ t.gone.steps.cause

          before : (q : Outer S) → q.core.cause ≡ t.before.cause → o1 ≡ q → IsFullKept r1 l1 o1.core.cause
          before q e z = from_cause t.before.cause stays (ap (λ (v : Outer S). v.core.cause) z ∙ e)

          first : (e : Cause) → IsSoloCause p t.before t.last r1 l1 e → o1.core.cause ≡ first_cause t.before.cause e →
              IsFullKept r1 l1 o1.core.cause
          first e w z = subst (IsFullKept r1 l1) (sym z)
              (kept_first t.before.cause e t.before t.last
              (full_same r r1 l l1 o.core.cause t.before.cause le same stays old) w)

          fails : (b : Bool) (e : Cause) → Fails b p k n r1 l1 e u t.last o1 → IsFullKept r1 l1 o1.core.cause
          fails false e f = first e (solo_cause e t.before t.last f.0) (ap (λ (v : Outer S). v.core.cause) f.1)
          fails true e f = first e f.0 (ap (λ (v : Outer S). v.core.cause) f.1.gives)

          go : (z : Result Advance AdvanceError) → Ends p k n r1 l1 u t.last z o1 → IsFullKept r1 l1 o1.core.cause
          go (Ok (Ran i)) e = before u refl e.1
          go (Ok (Waits i)) e = before u refl e.2
          go (Ok (Ended i)) e = before u refl e.1
          go (Ok (NeedSolo i)) e = before u refl e.3
          go (Err (Lost f)) e = before (record u { core = with_conflict f (with_segment k Idle t.before) }) refl e.4
          go (Err (Failed y)) e = fails t.last.solo y e.1

      from : (s : Segment S) → AdvancedFrom s p length k n most r1 l1 o result o1 → IsFullKept r1 l1 o1.core.cause
      from Idle q = absurd q
      from (Doomed f) q = from_cause o.core.cause refl (ap (λ (v : Outer S). v.core.cause) q.1)
      from (Running x) q = life (p.life x.state) refl
        where
          life : (z : Life) → p.life x.state ≡ z → IsFullKept r1 l1 o1.core.cause
          life Lives e = taken (q.1 e)
          life EndedLife e = from_cause o.core.cause refl
              (ap (λ (v : Outer S). v.core.cause) (q.0 (λ h. let a : EndedLife ≡ Lives = sym e ∙ h in cc)).1)
          life FailedLife e = from_cause o.core.cause refl
              (ap (λ (v : Outer S). v.core.cause) (q.0 (λ h. let a : FailedLife ≡ Lives = sym e ∙ h in cc)).1)
