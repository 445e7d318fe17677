-- The laws by the machine to which the history leads: a run of one history leads to one machine, so it is the run's.
use Rattle.std.proofs.Common.{◌≡◌, ◌≢◌, ℕ, List, [], Option, Some, None, refl, sym, ap, subst, ◌∙◌}
use Rattle.std.specs.Prelude.{IsSome}
use Rattle.py_base.specs.declared.refusal.Refusal.{Refusal}
use Rattle.py_data.specs.World.{World, grown}
use Rattle.stm_io.specs.Outside.{SinkState}
use Rattle.lock_run.specs.declared.turn.Turn.{Turn}
use Rattle.lock_run.specs.Prog.{Prog}
use Rattle.lock_run.specs.RunState.{first_world}
use Rattle.lock_run.specs.Machine.{Machine, Runs, begin_with}
use Rattle.lock_run.proofs.Along.{runs_along}
use Rattle.seg_store.specs.Meaning.{Meaning}
use Rattle.stm_words.specs.declared.call.Options.{Options}
use Rattle.stm_words.specs.Options.{options_of}
use Rattle.stm_top.specs.declared.status.Status.{Status}
use Rattle.stm_top.specs.declared.status.Status.TheVariants as status
use Rattle.stm_top.specs.Script.{Origin}
use Rattle.stm_top.specs.Serial.{IsWhole}
use Rattle.stm_top.specs.TopCall.{Devices, Told, limits_of, faults_of, TextPut, Ran, Answered}
use Rattle.top_laws.specs.Known.{Leads, ends_behind, start_of}
use Rattle.top_laws.specs.Ends.{StandsAt, LeftBy, LeftAt}
use Rattle.top_laws.specs.Laws.{LeadsLaw, StandsLaw, DoneLaw, StuckLaw, ReadyLaw, SameLaw, HeapLaw, LeftLaw}
use Rattle.top_laws.proofs.Telling.{taken_text, taken_rest, taken_ends}
use Rattle.top_laws.proofs.Standing.{CountAt, FullAt, run_stands, run_full, run_counts, counts_on, whole_told, one_status, where_done, where_stuck, where_ready}
use Rattle.top_laws.proofs.Causes.{some_or_none, same_some, is_some, answer_or, caused_ran}
use Rattle.top_laws.proofs.Opening.{RanAt, no_text, no_text_failed}

-- ---- the devices

-- the input that is left and what was written, by the world that the machine left
record ToldBy (a b : Devices) (w : World) : Type 0 where
  input : b.input.told ≡ w.input
  ends : b.input.ends ≡ w.ends
  out : b.out.told ≡ grown a.out.told w.out
  err : b.err.told ≡ grown a.err.told w.err

-- where no step was cut
abbrev ToldAt : Devices → Devices → World → Status → Type 0
ToldAt a b w status.Done = ToldBy a b w
ToldAt a b w status.Failed = ToldBy a b w
ToldAt a b w status.Stuck = ToldBy a b w
ToldAt a b w status.BudgetSpent = ToldBy a b w
ToldAt a b w _ = Unit {0}

left_by : {S : Type 0} (a b : Devices) (s : SinkState) (m : Machine S) (text : List ℕ) →
    ToldBy a (record b { err = s }) m.world → TextPut text s b.err → LeftBy a text b m
left_by a b s m text h put = record {
  input = h.input;
  ends = h.ends;
  out = h.out;
  err_before = s;
  errors = h.err;
  put = put;
}

left_silent : {S : Type 0} (a b : Devices) (s : SinkState) (m : Machine S) (text : List ℕ) →
    ToldBy a (record b { err = s }) m.world → text ≡ [] → TextPut text s b.err →
    LeftBy a text b m × (b.err.told ≡ grown a.err.told m.world.err)
left_silent a b s m text h says put =
    (left_by a b s m text h put, ap (λ (x : SinkState). x.told) (put.empty says) ∙ h.err)

left_on : {S : Type 0} (x : Status) (a b : Devices) (s : SinkState) (m : Machine S) (text : List ℕ) →
    ToldAt a (record b { err = s }) m.world x → (x ≡ status.Done → text ≡ []) → (x ≡ status.Failed → text ≡ []) →
    TextPut text s b.err → LeftAt a text b m x
left_on status.Done a b s m text h done failed put = left_silent a b s m text h (done refl) put
left_on status.Failed a b s m text h done failed put = left_silent a b s m text h (failed refl) put
left_on status.Stuck a b s m text h done failed put = left_by a b s m text h put
left_on status.BudgetSpent a b s m text h done failed put = left_by a b s m text h put
left_on _ a b s m text h done failed put = tt

module _ {P S : Type 0} (is_code : List ℕ → P → Type 0) (refused : List ℕ → Refusal → Type 0) (rows : P → Prog S)
    (one : (text : List ℕ) (p q : P) → is_code text p → is_code text q → p ≡ q) where
  -- ---- one machine

  -- the run's program and machine are those to which the history leads
  record Led (o : Options) (a : Devices) (t : Told) (b : Devices) (r : Ran is_code refused rows o a t b) (p : P)
      (m : Machine S) (l : Leads is_code rows o.script a t.history p m) : Type 0 where
    told : IsSome r.source.told
    rest : r.source.told ≡ Some l.rest
    ends : r.source.ends ≡ ends_behind o.script a
    program : r.program ≡ p
    machine : r.serial.machine ≡ m

  same_machine : (q p : P) (i : Option (List ℕ)) (rest : List ℕ) (n k : ℕ) (ts : List Turn) (m m1 : Machine S) →
      q ≡ p → i ≡ Some rest → n ≡ k → Runs (rows q) (begin_with (rows q) (first_world i n)) ts m1 →
      Runs (rows p) (begin_with (rows p) (first_world (Some rest) k)) ts m → m1 ≡ m
  same_machine q p i rest n k ts m m1 e f g r s =
      let own = subst (λ (x : P). Runs (rows x) (begin_with (rows x) (first_world i n)) ts m1) e r in
      let told = subst (λ (x : Option (List ℕ)). Runs (rows p) (begin_with (rows p) (first_world x n)) ts m1) f own in
      let all = subst (λ (x : ℕ). Runs (rows p) (begin_with (rows p) (first_world (Some rest) x)) ts m1) g told in
      runs_along (rows p) ts (begin_with (rows p) (first_world (Some rest) k)) m m1 refl s all

  led : (o : Options) (a : Devices) (t : Told) (b : Devices) (r : Ran is_code refused rows o a t b) (p : P)
      (m : Machine S) → (l : Leads is_code rows o.script a t.history p m) → Led o a t b r p m l
  led o a t b r p m l =
      let y : Origin = record { loader = b.loader; input = r.source } in
      let text = taken_text o.script l.text r.text a y l.whole r.taken in
      let rest = taken_rest o.script l.text r.text l.rest a y l.whole l.input r.taken in
      let program = one l.text r.program p (subst (λ (x : List ℕ). is_code x r.program) text r.is) l.is in
      record {
        told = is_some r.source.told l.rest rest;
        rest = rest;
        ends = taken_ends o.script r.text a y r.taken;
        program = program;
        machine = same_machine r.program p r.source.told l.rest r.source.ends (ends_behind o.script a) t.history m
            r.serial.machine program rest (taken_ends o.script r.text a y r.taken) r.serial.run l.run;
      }

  -- ---- what the run says of it

  -- how it stands, the counts of failures, the heap, and what the devices were left with
  record Stood (o : Options) (a : Devices) (t : Told) (b : Devices) (p : P) (m : Machine S)
      (l : Leads is_code rows o.script a t.history p m) (x : Status) : Type 0 where
    stands : StandsAt (rows p) o.budget t.history m x
    full : FullAt (rows p) (limits_of o) (start_of l) t.history m x
    counts : CountAt a b x
    heap : (store : Meaning) → t.store ≡ Some store → store.image ≡ m.heap
    told : ToldAt a b m.world x

  serial_told : (o : Options) (a : Devices) (t : Told) (b : Devices) (r : Ran is_code refused rows o a t b) →
      IsWhole r.serial.ended → ToldBy a b r.serial.machine.world
  serial_told o a t b r whole =
      let s = r.serial in
      let k = whole_told (rows r.program)
      (begin_with (rows r.program) (first_world r.source.told r.source.ends)) t.history
      s.machine.world s.told s.ended whole in
      let own : ToldBy a b s.told = record { input = s.input_left; ends = s.ends; out = s.output; err = s.errors } in
      subst (λ (w : World). ToldBy a b w) k own

  ran_told : (x : Status) (o : Options) (a : Devices) (t : Told) (b : Devices) →
      (h : RanAt is_code refused rows x o a t b) → ToldAt a b h.0.serial.machine.world x
  ran_told status.Done o a t b h = serial_told o a t b h.0 h.1.0
  ran_told status.Failed o a t b h = serial_told o a t b h.0 h.1.0
  ran_told status.Stuck o a t b h = serial_told o a t b h.0 h.1.0
  ran_told status.BudgetSpent o a t b h = serial_told o a t b h.0 h.1.0
  ran_told _ o a t b h = tt

  ran_stood : (x : Status) (o : Options) (a : Devices) (t : Told) (b : Devices) (p : P) (m : Machine S) →
      RanAt is_code refused rows x o a t b → (l : Leads is_code rows o.script a t.history p m) →
      Stood o a t b p m l x
  ran_stood x o a t b p m h l =
      let r = h.0 in
      let k = led o a t b r p m l in
      let own = run_stands (rows r.program) o.length r.source a.out.told a.err.told t.history t.conflicts
      b.input b.out.told b.err.told (limits_of o) (faults_of a) (faults_of b) r.serial x k.told
      h.1 in
      record {
        stands = subst (λ (y : Machine S). StandsAt (rows p) o.budget t.history y x) k.machine
            (subst (λ (q : P). StandsAt (rows q) o.budget t.history r.serial.machine x) k.program
            own);
        full =
            let all = limits_of o in
            let own = run_full (rows r.program) o.length r.source a.out.told a.err.told t.history t.conflicts
            b.input b.out.told b.err.told all (faults_of a) (faults_of b) r.serial x h.1 in
            subst (λ (y : Machine S). FullAt (rows p) all (start_of l) t.history y x) k.machine
            (subst (λ (n : ℕ). FullAt (rows p) all (begin_with (rows p) (first_world (Some l.rest) n)) t.history
            r.serial.machine x) k.ends
            (subst (λ (i : Option (List ℕ)). FullAt (rows p) all (begin_with (rows p) (first_world i r.source.ends))
            t.history r.serial.machine x) k.rest
            (subst (λ (q : P). FullAt (rows q) all
            (begin_with (rows q) (first_world r.source.told r.source.ends)) t.history
            r.serial.machine x) k.program own)));
        counts = run_counts (rows r.program) o.length r.source a.out.told a.err.told t.history t.conflicts
            b.input b.out.told b.err.told (limits_of o) a b r.serial x h.1;
        heap = λ store e. ap (λ (x : Meaning). x.image)
            (same_some t.store store r.store.meaning e r.store.is) ∙ r.store.image ∙
            ap (λ (x : Machine S). x.heap) k.machine;
        told = subst (λ (y : Machine S). ToldAt a b y.world x) k.machine (ran_told x o a t b h);
      }

  answer_ran : (words : List (List ℕ)) (a : Devices) (x : Status) (text : List ℕ) (t : Told) (b : Devices)
      (o : Options) → (h : Answered is_code refused rows words a x text t b) → options_of words ≡ Some o →
      t.store ≢ None → RanAt is_code refused rows x o a t (record b { err = h.err_before })
  answer_ran words a x text t b o h e s =
      caused_ran is_code refused rows x text o a t (record b { err = h.err_before })
      (answer_or is_code refused rows words a x text t b o h e) s

  answer_stood : (words : List (List ℕ)) (a : Devices) (x : Status) (text : List ℕ) (t : Told) (b : Devices)
      (o : Options) (p : P) (m : Machine S) → (h : Answered is_code refused rows words a x text t b) →
      options_of words ≡ Some o → t.store ≢ None → (l : Leads is_code rows o.script a t.history p m) →
      Stood o a t (record b { err = h.err_before }) p m l x
  answer_stood words a x text t b o p m h e s l =
      ran_stood x o a t (record b { err = h.err_before }) p m (answer_ran words a x text t b o h e s) l

  -- ---- the laws

  pub stands_law : StandsLaw is_code refused rows
  stands_law words a x text t b o store p m h e s l =
      (answer_stood words a x text t b o p m h e (some_or_none t.store store s) l).stands

  pub full_law : (words : List (List ℕ)) (a : Devices) (x : Status) (text : List ℕ) (t : Told) (b : Devices)
      (o : Options) (store : Meaning) (p : P) (m : Machine S) → Answered is_code refused rows words a x text t b →
      options_of words ≡ Some o → t.store ≡ Some store → (l : Leads is_code rows o.script a t.history p m) →
      FullAt (rows p) (limits_of o) (start_of l) t.history m x
  full_law words a x text t b o store p m h e s l =
      (answer_stood words a x text t b o p m h e (some_or_none t.store store s) l).full

  pub counts_law : (words : List (List ℕ)) (a : Devices) (x : Status) (text : List ℕ) (t : Told) (b : Devices)
      (o : Options) (store : Meaning) (p : P) (m : Machine S) → Answered is_code refused rows words a x text t b →
      options_of words ≡ Some o → t.store ≡ Some store → Leads is_code rows o.script a t.history p m → CountAt a b x
  counts_law words a x text t b o store p m h e s l =
      counts_on a b h.err_before h.put.result x h.put.cause
      (answer_stood words a x text t b o p m h e (some_or_none t.store store s) l).counts

  pub done_law : DoneLaw is_code refused rows
  done_law words a x text t b o store p m h e s l done =
      where_done (rows p) o.budget t.history m x (stands_law words a x text t b o store p m h e s l) done

  pub stuck_law : StuckLaw is_code refused rows
  stuck_law words a x text t b o store p m h e s l stuck =
      where_stuck (rows p) o.budget t.history m a b x (stands_law words a x text t b o store p m h e s l)
      (counts_law words a x text t b o store p m h e s l) stuck

  pub ready_law : ReadyLaw is_code refused rows
  ready_law words a x text t b o store p m h e s l ready =
      where_ready (rows p) o.budget t.history m a b x (stands_law words a x text t b o store p m h e s l)
      (counts_law words a x text t b o store p m h e s l) ready

  pub same_law : SameLaw is_code refused rows
  same_law words words1 a a1 x x1 text text1 t t1 b b1 o o1 store store1 p m h e s l ends h1 e1 s1 l1 ends1 =
      one_status (rows p) m o.budget o1.budget t.history t1.history x x1
      (stands_law words a x text t b o store p m h e s l)
      (stands_law words1 a1 x1 text1 t1 b1 o1 store1 p m h1 e1 s1 l1) ends ends1

  pub heap_law : HeapLaw is_code refused rows
  heap_law words a x text t b o store p m h e s l =
      (answer_stood words a x text t b o p m h e (some_or_none t.store store s) l).heap store s

  pub left_law : LeftLaw is_code refused rows
  left_law words a x text t b o store p m h e s l =
      left_on x a b h.err_before m text
      (answer_stood words a x text t b o p m h e (some_or_none t.store store s) l).told
      (λ e. no_text text h.answer (sym h.is ∙ e) h.says) (λ e. no_text_failed text h.answer (sym h.is ∙ e) h.says) h.put

  pub leads_law : LeadsLaw is_code refused rows
  leads_law words a x text t b o store script rest h e s whole input =
      let r = (answer_ran words a x text t b o h e (some_or_none t.store store s)).0 in
      let y : Origin = record { loader = b.loader; input = r.source } in
      let same = taken_text o.script script r.text a y whole r.taken in
      let behind = taken_rest o.script script r.text rest a y whole input r.taken in (
        r.program,
        r.serial.machine,
        record {
          text = script;
          whole = whole;
          is = subst (λ (x : List ℕ). is_code x r.program) same r.is;
          rest = rest;
          input = input;
          run = subst (λ (n : ℕ). Runs (rows r.program) (begin_with (rows r.program) (first_world (Some rest) n))
              t.history r.serial.machine) (taken_ends o.script r.text a y r.taken)
              (subst (λ (i : Option (List ℕ)). Runs (rows r.program)
              (begin_with (rows r.program) (first_world i r.source.ends)) t.history r.serial.machine) behind
              r.serial.run);
        },
      )
