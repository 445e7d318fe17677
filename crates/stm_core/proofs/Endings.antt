-- What comes of a transaction that was taken out of its hand, once its steps came to an end.
use Rattle.std.proofs.Common.{◌≡◌, ℕ, true, false, List, length, slice_get, Option, Some, None, Result, Ok, Err, refl, sym, ◌∙◌, ap, subst, inl, inr}
use Rattle.std.proofs.lemmas.Bool.{cases_Bool, both_ways}
use Rattle.py_data.specs.declared.stop.Conflict.{Conflict}
use Rattle.py_data.specs.declared.stop.Out.TheVariants.{Output, ErrorOutput}
use Rattle.py_data.specs.Row.{Row, Do, Put, Take}
use Rattle.py_data.specs.Sense.{Upto}
use Rattle.py_data.specs.Sight.{pure}
use Rattle.lock_run.specs.declared.client.Outcome.{Outcome}
use Rattle.lock_run.specs.declared.turn.Turn.{Turn}
use Rattle.lock_run.specs.Prog.{Prog}
use Rattle.seg_store.specs.Meaning.{Meaning}
use Rattle.stm_segment.specs.declared.books.Work.{Work}
use Rattle.stm_segment.specs.declared.books.Hand.TheVariants.{Idle as IdleHand}
use Rattle.stm_segment.specs.declared.books.Books.{Books}
use Rattle.stm_core.specs.declared.steps.Pause.{Pause}
use Rattle.stm_segment.specs.declared.halt.Halt.{Halt}
use Rattle.stm_segment.specs.declared.halt.Halt.TheVariants as halt
use Rattle.stm_core.specs.declared.steps.Pause.TheVariants.{Whole, Waits, Ended, Stopped}
use Rattle.stm_core.specs.declared.answers.Advance.{Advance}
use Rattle.stm_core.specs.declared.answers.AdvanceError.{AdvanceError}
use Rattle.stm_core.specs.declared.answers.Advance.TheVariants as answer
use Rattle.stm_core.specs.declared.answers.AdvanceError.TheVariants.{Lost, Failed}
use Rattle.stm_segment.specs.declared.cause.Cause.{Cause}
use Rattle.stm_segment.specs.declared.cause.Cause.TheVariants.{Full, ReadFault, WriteFault, ErrFault, OutOfMemory}
use Rattle.stm_segment.specs.CoreState.{Transaction, Idle, CoreState, sight_of, with_segment, with_conflict, first_cause}
use Rattle.stm_segment.specs.Asking.{WaitsThere, AsksOutside}
use Rattle.stm_segment.specs.Conflict.{IsStanding}
use Rattle.stm_core.specs.Outside.{Outer, FaultOf}
use Rattle.stm_core.specs.Solo.{up_to_whole, SoloFailed}
use Rattle.stm_segment.specs.Devices.{DeviceState, Tells, Shown}
use Rattle.stm_segment.specs.Books.{Worlds, broken_of, transaction, core_of}
use Rattle.stm_core.specs.inner.Whole.{StopOf}
use Rattle.stm_core.specs.inner.Trying.{core_with}
use Rattle.stm_core.specs.Advanced.{StepReaches, IsStepCause, IsSoloCause, with_cause, Fails, Ends}
use Rattle.stm_core.specs.inner.Settled.{IsOut, SettledTo}
use Rattle.stm_core.proofs.Settling.{lost_with, failed_with}
use Rattle.stm_core.proofs.Breaking.{whole_cause}

-- ---- the fault of a device

read_fault : {S A : Type 0} (left : Row S A) → StopOf halt.ReadFault left → FaultOf ReadFault left
read_fault (Do (Take most) f) h = tt
read_fault r h = absurd h

write_fault : {S A : Type 0} (left : Row S A) → StopOf halt.WriteFault left → FaultOf WriteFault left
write_fault (Do (Put Output bytes) f) h = tt
write_fault r h = absurd h

err_fault : {S A : Type 0} (left : Row S A) → StopOf halt.ErrFault left → FaultOf ErrFault left
err_fault (Do (Put ErrorOutput bytes) f) h = tt
err_fault r h = absurd h

-- ---- where it goes

module _ {S : Type 0} (p : Prog S) (t e : Option (List ℕ)) (d : DeviceState) (w : Worlds) (k : ℕ) (m : Meaning) (r : ℕ)
    (b : Books S) (x : Work S) (o : Outer S) (d1 : DeviceState) (same : d1 ≡ d) (m1 : Meaning) (r1 : ℕ) (b1 : Books S)
  where
    abbrev tx : Transaction S
    tx = transaction w.own (m.part k) x

    abbrev To : Result Advance AdvanceError → Type 0
    To result = SettledTo t e d1 m1 b1 (Ends p k m.segments r1 m1.limit o tx result)

    abbrev Out : Pause → Type 0
    Out pause = IsOut p t e d w k pause m r b x o

    -- no step broke, and the devices were told the same
    stays : (result : Result Advance AdvanceError) (pause : Pause) → Out pause → Tells t e d o.told →
        (b.broken ≡ None → o.told.mid ≡ d.mid) → (c1 : CoreState S) → core_of w m1 b1 ≡ c1 → b1.broken ≡ b.broken
        → Ends p k m.segments r1 m1.limit o tx result (record o { core = c1 }) → To result
    stays result pause out tells mid c1 h eb ends = record {
      state = record o { core = c1 };
      worlds = w;
      is = ends;
      core = sym h;
      broken = out.broken ∙ ap broken_of (sym eb);
      tells = subst (λ z. Tells t e z o.told) (sym same) tells;
      mid = λ none. mid (sym eb ∙ none) ∙ ap (λ (z : DeviceState). z.mid) (sym same);
    }

    -- it was put back after whole steps
    back : (result : Result Advance AdvanceError) (pause : Pause) → Out pause → Shown x.solo t e d w.own →
        core_of w m1 b1 ≡ core_with w k m b x → b1.broken ≡ b.broken → Ends p k m.segments r1 m1.limit o tx result o →
        To result
    back result pause out shown h eb ends = elim (cases_Bool x.solo) [
      | inl y ↦ let s = shown y in
          stays result pause out (subst (Tells t e d) (sym (out.own y)) s.tells) (λ none. ap (λ v. v.mid) (out.own y) ∙
          s.mid) o.core (h ∙ sym out.core) eb ends
      | inr n ↦ stays result pause out (out.tells n) (out.mid n) o.core (h ∙ sym out.core) eb ends
    ]

    pub ran_ends : (i : ℕ) (pause : Pause) → pause ≡ Whole → Out pause → core_of w m1 b1 ≡ core_with w k m b x →
        b1.broken ≡ b.broken → To (Ok (answer.Ran i))
    ran_ends i pause is at h eb = let out : Out Whole = subst Out is at in
        back (Ok (answer.Ran i)) Whole out out.told h eb (out.why, refl)

    pub waits_ends : (i : ℕ) (pause : Pause) → pause ≡ Waits → Out pause → core_of w m1 b1 ≡ core_with w k m b x →
        b1.broken ≡ b.broken → To (Ok (answer.Waits i))
    waits_ends i pause is at h eb =
        let out : Out Waits = subst Out is at in
        back (Ok (answer.Waits i)) Waits out out.told h eb
        (out.why.0, subst (λ (c : CoreState S). WaitsThere p c.image c.world tx) (sym out.core) out.why.1, refl)

    pub ended_ends : (i : ℕ) (pause : Pause) → pause ≡ Ended → Out pause → core_of w m1 b1 ≡ core_with w k m b x →
        b1.broken ≡ b.broken → To (Ok (answer.Ended i))
    ended_ends i pause is at h eb = let out : Out Ended = subst Out is at in
        back (Ok (answer.Ended i)) Ended out out.told h eb (out.why, refl)

    abbrev Cut_at : Halt → Type 0
    Cut_at z = Out (Stopped z)

    -- it wants to be solo, and was put back
    pub solo_ends : (i : ℕ) (z : Halt) → z ≡ halt.NeedSolo → Cut_at z → core_of w m1 b1 ≡ core_with w k m b x →
        b1.broken ≡ b.broken → To (Ok (answer.NeedSolo i))
    solo_ends i z is at h eb =
        let out : Cut_at halt.NeedSolo = subst Cut_at is at in
        let q = out.why.1 in
        stays (Ok (answer.NeedSolo i)) (Stopped halt.NeedSolo) out (out.tells q.1) (out.mid q.1) o.core
        (h ∙ sym out.core) eb (
          out.why.0,
          q.1,
          subst (λ (c : CoreState S). StepReaches p c tx AsksOutside)
              (sym out.core) q.0,
          refl,
        )

    -- it lost a conflict
    pub lost_ends : (f : Conflict) (z : Halt) → z ≡ halt.Lost f → Cut_at z → slice_get b.hands.items k ≡ Some IdleHand →
        core_of w m1 b1 ≡ with_conflict f (core_of w m b) → b1.broken ≡ b.broken → To (Err (Lost f))
    lost_ends f z is at idle h eb =
        let out : Cut_at (halt.Lost f) = subst Cut_at is at in
        let q = out.why.1 in
        stays (Err (Lost f)) (Stopped (halt.Lost f)) out (out.tells q.2) (out.mid q.2)
        (with_conflict f (with_segment k Idle o.core)) (lost_with w k m b x f (core_of w m1 b1) idle h ∙
        ap (λ c. with_conflict f (with_segment k Idle c)) (sym out.core)) eb
        (out.why.0, q.2, subst (λ c. IsStanding p c f) (sym out.core) q.0, q.1, refl)

    -- ---- a cause is kept

    -- what the call that failed left of the books
    pub record Mortal (y : Cause) : Type 0 where
      pub broken : b1.broken ≡ b.broken
      pub core : (v : Worlds) → core_of v m1 b1 ≡ with_cause y (core_of v m b)

    pub record Broke_off (y : Cause) : Type 0 where
      pub broken : b1.broken ≡ Some (record { thread = x.thread; turns = length b1.history.entries })
      pub core : (v : Worlds) → (v1 : Worlds) ×
          (core_of v1 m1 b1 ≡ with_cause y
          (up_to_whole k m.segments (transaction v.own (m.part k) x) x.steps (core_with v k m b x)))

    module _ (y : Cause) (z : Halt) (out : Cut_at z) where
      abbrev here : CoreState S
      here = core_with w k m b x

      mortal_failed : x.solo ≡ false → slice_get b.hands.items k ≡ Some IdleHand → IsStepCause p here tx r1 m1.limit y →
          Mortal y → To (Err (Failed y))
      mortal_failed mortal idle step f =
          let c1 = with_cause y (with_segment k Idle o.core) in
          let fails : Fails false p k m.segments r1 m1.limit y o tx (record o { core = c1 }) =
          (subst (λ c. IsStepCause p c tx r1 m1.limit y) (sym out.core) step, refl) in
          stays (Err (Failed y)) (Stopped z) out (out.tells mortal) (out.mid mortal) c1
          (failed_with w k m b x y (core_of w m1 b1) idle (f.core w) ∙
          ap (λ c. with_cause y (with_segment k Idle c)) (sym out.core)) f.broken (
            out.why.0,
            subst (λ q. Fails q p k m.segments r1 m1.limit y o tx (record o { core = c1 })) (sym mortal)
                fails,
          )

      module _ (solo : x.solo ≡ true) (f : Broke_off y) where
        abbrev up : CoreState S → CoreState S
        up c = up_to_whole k m.segments tx x.steps c

        abbrev end : Outer S
        end = record { core = core_of (f.core w).0 m1 b1; told = (out.told solo).told; broken = broken_of b1.broken }

        is_core : core_of (f.core w).0 m1 b1 ≡ record (up here) { cause = first_cause here.cause y }
        is_core = (f.core w).1 ∙ (λ i. record (up here)
            { cause = first_cause (whole_cause k m.segments tx here x.steps i) y })

        is_broken : broken_of b1.broken ≡ Some (record { thread = x.thread; turns = length (up here).history })
        is_broken = ap broken_of f.broken ∙
            ap (λ (h : List Turn). Some (record { thread = x.thread; turns = length h }))
            (ap (λ (c : CoreState S). c.history) (f.core w).1)

        abbrev Gives : CoreState S → Type 0
        Gives c = end ≡ record {
          core = record (up c) { cause = first_cause c.cause y };
          told = (out.told solo).told;
          broken = Some (record { thread = x.thread; turns = length (up c).history });
        }

        gives : Gives here
        gives i = record { core = is_core i; told = (out.told solo).told; broken = is_broken i }

        failed : ((left : Row S (Outcome × S)) → StopOf z left → FaultOf y left) → SoloFailed p k m.segments y o tx end
        failed fault =
            let broke = out.told solo in
            record {
              lives = out.why.0;
              told = broke.told;
              cut = record {
                left = broke.cut.left;
                place = broke.cut.place;
                upto = subst (λ (c : CoreState S). Upto pure (p.row x.state) (sight_of c.image c.world tx)
                    broke.cut.left
                    broke.cut.place) (sym out.core) broke.cut.upto;
                part = broke.cut.part;
              };
              fault = fault broke.cut.left broke.fault;
              gives = subst Gives (sym out.core) gives;
            }

        solo_failed : IsSoloCause p here tx r1 m1.limit y →
            ((left : Row S (Outcome × S)) → StopOf z left → FaultOf y left) → To (Err (Failed y))
        solo_failed cause fault = record {
          state = end;
          worlds = (f.core w).0;
          is = (
            out.why.0,
            subst (λ q. Fails q p k m.segments r1 m1.limit y o tx end) (sym solo)
                (subst (λ c. IsSoloCause p c tx r1 m1.limit y) (sym out.core) cause, failed fault),
          );
          core = refl;
          broken = refl;
          tells = subst (λ q. Tells t e q (out.told solo).told) (sym same) (out.told solo).tells;
          mid = λ none. absurd (let q = sym none ∙ f.broken in cc);
        }

    failed_ends : (y : Cause) (z : Halt) (out : Cut_at z) → slice_get b.hands.items k ≡ Some IdleHand →
        (x.solo ≡ false → IsStepCause p (core_with w k m b x) tx r1 m1.limit y) →
        IsSoloCause p (core_with w k m b x) tx r1 m1.limit y
        → ((left : Row S (Outcome × S)) → StopOf z left → FaultOf y left) → (x.solo ≡ false → Mortal y) →
        (x.solo ≡ true → Broke_off y) → To (Err (Failed y))
    failed_ends y z out idle step cause fault f g = elim (cases_Bool x.solo) [
      | inl q ↦ solo_failed y z out q (g q) cause fault
      | inr q ↦ mortal_failed y z out q idle (step q) (f q)
    ]

    failed_as : (y : Cause) (v : AdvanceError) → v ≡ Failed y → To (Err (Failed y)) → To (Err v)
    failed_as y v ev h = subst (λ q. To (Err q)) (sym ev) h

    pub full_ends : (i j l : ℕ) (z : Halt) → z ≡ halt.Full i j l → Cut_at z → slice_get b.hands.items k ≡ Some IdleHand
        →
        r1 ≡ r → m1.limit ≡ m.limit → (x.solo ≡ false → Mortal (Full i j l)) → (x.solo ≡ true → Broke_off (Full i j l))
        →
        (v : AdvanceError) → v ≡ Failed (Full i j l) → To (Err v)
    full_ends i j l z is at idle er el f g v ev =
        let out : Cut_at (halt.Full i j l) = subst Cut_at is at in
        let q = out.why.1 in
        let step : IsStepCause p (core_with w k m b x) tx r1 m1.limit (Full i j l) =
        (q.0, q.1 ∙ sym er, q.2 ∙ sym el, q.3) in
        failed_as (Full i j l) v ev (failed_ends (Full i j l) (halt.Full i j l) out idle (λ n. step) step (λ left h. tt)
        f g)

    pub memory_ends : (z : Halt) → z ≡ halt.OutOfMemory → Cut_at z → slice_get b.hands.items k ≡ Some IdleHand →
        (x.solo ≡ false → Mortal OutOfMemory) → (x.solo ≡ true → Broke_off OutOfMemory) → (v : AdvanceError) →
        v ≡ Failed OutOfMemory → To (Err v)
    memory_ends z is at idle f g v ev = failed_as OutOfMemory v ev
        (failed_ends OutOfMemory halt.OutOfMemory (subst Cut_at is at) idle (λ n. tt) tt (λ left h. tt) f g)

    pub read_ends : (z : Halt) → z ≡ halt.ReadFault → Cut_at z → slice_get b.hands.items k ≡ Some IdleHand →
        (x.solo ≡ false → Mortal ReadFault) → (x.solo ≡ true → Broke_off ReadFault) → (v : AdvanceError) →
        v ≡ Failed ReadFault → To (Err v)
    read_ends z is at idle f g v ev =
        let out : Cut_at halt.ReadFault = subst Cut_at is at in
        failed_as ReadFault v ev (failed_ends ReadFault halt.ReadFault out idle (λ n. both_ways x.solo n out.why.1) tt
        read_fault f g)

    pub write_ends : (z : Halt) → z ≡ halt.WriteFault → Cut_at z → slice_get b.hands.items k ≡ Some IdleHand →
        (x.solo ≡ false → Mortal WriteFault) → (x.solo ≡ true → Broke_off WriteFault) → (v : AdvanceError) →
        v ≡ Failed WriteFault → To (Err v)
    write_ends z is at idle f g v ev =
        let out : Cut_at halt.WriteFault = subst Cut_at is at in
        failed_as WriteFault v ev (failed_ends WriteFault halt.WriteFault out idle (λ n. both_ways x.solo n out.why.1)
        tt
        write_fault f g)

    pub err_ends : (z : Halt) → z ≡ halt.ErrFault → Cut_at z → slice_get b.hands.items k ≡ Some IdleHand →
        (x.solo ≡ false → Mortal ErrFault) → (x.solo ≡ true → Broke_off ErrFault) → (v : AdvanceError) →
        v ≡ Failed ErrFault → To (Err v)
    err_ends z is at idle f g v ev =
        let out : Cut_at halt.ErrFault = subst Cut_at is at in
        failed_as ErrFault v ev (failed_ends ErrFault halt.ErrFault out idle (λ n. both_ways x.solo n out.why.1) tt
        err_fault f g)
