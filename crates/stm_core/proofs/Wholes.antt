-- A transaction is taken out of its hand, and put back.
use Rattle.std.proofs.Common.{◌≡◌, ◌≢◌, ◌<◌, ◌≤◌, ◌+◌, ℕ, true, false, eqb, [], ◌∷◌, ◌++◌, length, slice_get, slice_set, Some, refl, sym, ◌∙◌, ap, subst, inl, inr, arith, length-set}
use Rattle.std.specs.List.{sum_by}
use Rattle.std.proofs.lemmas.Bool.{cases_Bool, both_ways, eqb-true, eqb-false, cond-true, cond-false}
use Rattle.std.proofs.lemmas.Option.{slice_get_within}
use Rattle.py_data.specs.Sight.{mem}
use Rattle.py_data.specs.declared.stop.Conflict.{Conflict}
use Rattle.seg_store.specs.Meaning.{Part, Meaning, holds}
use Rattle.seg_store.specs.Calls.{ended, after_drop}
use Rattle.stm_segment.specs.declared.books.Progress.{Progress}
use Rattle.stm_segment.specs.declared.books.Work.{Work}
use Rattle.stm_segment.specs.declared.books.Hand.{Hand}
use Rattle.stm_segment.specs.declared.books.Hand.TheVariants.{Idle, Runs}
use Rattle.stm_segment.specs.declared.books.Books.{Books}
use Rattle.stm_segment.specs.CoreState.{set_segment, with_segment, with_conflict}
use Rattle.stm_segment.specs.Books.{Worlds, WorkFits, is_running, runs_at, one_running, one_started, is_lock, segment_of, core_of, Fit}
use Rattle.stm_core.specs.inner.Whole.{Whole}
use Rattle.stm_segment.proofs.Fits.{get_set_other, get_set_same, sum_set}

-- another hand in the place of one, and the rest of the books
pub record Set {S : Type 0} (k : ℕ) (h : Hand S) (b b1 : Books S) : Type 0 where
  pub rest : b1 ≡ record b { hands = b1.hands }
  pub hands : b1.hands.items ≡ slice_set b.hands.items k h

module _ {S : Type 0} (k : ℕ) (m : Meaning) (b b1 : Books S) where
  pub set_here : (h : Hand S) → Set k h b b1 → k < length b.hands.items → slice_get b1.hands.items k ≡ Some h
  set_here h s lt = ap (λ l. slice_get l k) s.hands ∙ get_set_same b.hands.items k h lt

  pub set_there : (h : Hand S) → Set k h b b1 → (j : ℕ) → j ≢ k → slice_get b1.hands.items j ≡ slice_get b.hands.items j
  set_there h s j n = ap (λ l. slice_get l j) s.hands ∙ get_set_other b.hands.items k j h (λ e. n (sym e))

  -- taken out
  pub taken : (x : Work S) → Whole m b → slice_get b.hands.items k ≡ Some (Runs x) → Set k Idle b b1 →
      Fit k m b1 x.progress
  taken x w e s =
      let lt = slice_get_within b.hands.items k (Runs x) e in
      let here = set_here Idle s lt in
      let there = set_there Idle s in
      let f = w.works k x e in
      let running = sum_set one_running b.hands.items k (Runs x) Idle e in
      let started = sum_set one_started b.hands.items k (Runs x) Idle e in
      let sr : sum_by one_running b1.hands.items ≡ sum_by one_running (slice_set b.hands.items k Idle) =
      ap (sum_by one_running) s.hands in
      let ss : sum_by one_started b1.hands.items ≡ sum_by one_started (slice_set b.hands.items k Idle) =
      ap (sum_by one_started) s.hands in
      let hi : b1.history.room ≡ b.history.room = ap (λ (z : Books S). z.history.room) s.rest in
      let co : b1.conflicts.room ≡ b.conflicts.room = ap (λ (z : Books S). z.conflicts.room) s.rest in
      let th : b1.threads.room ≡ b.threads.room = ap (λ (z : Books S). z.threads.room) s.rest in
      let pe : b1.pending ≡ b.pending = ap (λ (z : Books S). z.pending) s.rest in
      let t = w.turns in let l = w.losses in let p = w.pending in let r = w.threads in
      let not_k : (j : ℕ) → runs_at b1.hands.items j ≡ true → j ≢ k = λ j ri q.
      both_ways (runs_at b1.hands.items j) (ap (runs_at b1.hands.items) q ∙ ap is_running here) ri in
      record {
        mine = subst (λ n. k < n) w.hands lt;
        hands = ap length s.hands ∙ length-set b.hands.items k Idle ∙ w.hands;
        out = ap is_running here;
        holders = λ j a n h. ap is_running (there j n) ∙ w.holders j a h;
        works = λ j y h. let n = not_k j (ap is_running h) in w.works j y (sym (there j n) ∙ h);
        own_names = f.names;
        kept_names = f.kept_names;
        within = f.within;
        locked = w.locked;
        turns = omega (arith, running, sr, hi, t);
        losses = omega (arith, running, sr, co, l);
        pending = omega (arith, started, ss, pe, p);
        threads = omega (arith, th, pe, r);
      }

  -- put back
  pub put_back : (x : Work S) → Fit k m b x.progress → slice_get b.hands.items k ≡ Some Idle → Set k (Runs x) b b1 →
      Whole m b1
  put_back x f e s =
      let lt = slice_get_within b.hands.items k Idle e in
      let here = set_here (Runs x) s lt in
      let there = set_there (Runs x) s in
      let running = sum_set one_running b.hands.items k Idle (Runs x) e in
      let started = sum_set one_started b.hands.items k Idle (Runs x) e in
      let sr : sum_by one_running b1.hands.items ≡ sum_by one_running (slice_set b.hands.items k (Runs x)) =
      ap (sum_by one_running) s.hands in
      let ss : sum_by one_started b1.hands.items ≡ sum_by one_started (slice_set b.hands.items k (Runs x)) =
      ap (sum_by one_started) s.hands in
      let hi : b1.history.room ≡ b.history.room = ap (λ (z : Books S). z.history.room) s.rest in
      let co : b1.conflicts.room ≡ b.conflicts.room = ap (λ (z : Books S). z.conflicts.room) s.rest in
      let th : b1.threads.room ≡ b.threads.room = ap (λ (z : Books S). z.threads.room) s.rest in
      let pe : b1.pending ≡ b.pending = ap (λ (z : Books S). z.pending) s.rest in
      let t = f.turns in let l = f.losses in let p = f.pending in let r = f.threads in
      record {
        hands = ap length s.hands ∙ length-set b.hands.items k (Runs x) ∙ f.hands;
        holders = λ j a h. elim (cases_Bool (eqb j k)) [
          | inl y ↦ ap (runs_at b1.hands.items) (eqb-true j k y) ∙ ap is_running here
          | inr n ↦ ap is_running (there j (eqb-false j k n)) ∙ f.holders j a (eqb-false j k n) h
        ];
        works = λ j y h. elim (cases_Bool (eqb j k)) [
          | inl q ↦ let q' : j ≡ k = eqb-true j k q in
              let same : x ≡ y = same_work x y (sym here ∙ ap (slice_get b1.hands.items) (sym q') ∙ h) in
              subst (λ (z : Work S). WorkFits (m.part j) z) same
              (subst (λ i. WorkFits (m.part i) x) (sym q')
              (record { names = f.own_names; kept_names = f.kept_names; within = f.within }))
          | inr n ↦ f.works j y (sym (there j (eqb-false j k n)) ∙ h)
        ];
        locked = f.locked;
        turns = omega (arith, running, sr, hi, t);
        losses = omega (arith, running, sr, co, l);
        pending = omega (arith, started, ss, pe, p);
        threads = omega (arith, th, pe, r);
      }
    where
      same_work : (y z : Work S) → Some (Runs y) ≡ Some (Runs z) → y ≡ z
      same_work y z e = cc

  -- the core's state with a hand set
  pub core_set : (w : Worlds) (h : Hand S) → Set k h b b1 → k < length b.hands.items →
      core_of w m b1 ≡ with_segment k (segment_of w.own (m.part k) (Some h)) (core_of w m b)
  core_set w h s lt i = record {
    image = m.image;
    threads = ap (λ (z : Books S). z.threads.entries) s.rest i;
    world = w.committed;
    history = ap (λ (z : Books S). z.history.entries) s.rest i;
    conflicts = ap (λ (z : Books S). z.conflicts.entries) s.rest i;
    begun = ap (λ (z : Books S). z.begun) s.rest i;
    last = ap (λ (z : Books S). z.last) s.rest i;
    cause = ap (λ (z : Books S). z.cause) s.rest i;
    segments = λ x. same x i;
  }
    where
      same : (x : ℕ) → segment_of w.own (m.part x) (slice_get b1.hands.items x) ≡ set_segment k
          (segment_of w.own (m.part k) (Some h)) (λ y. segment_of w.own (m.part y) (slice_get b.hands.items y)) x
      same x = elim (cases_Bool (eqb x k)) [
        | inl y ↦ let e : x ≡ k = eqb-true x k y in
            ap (λ z. segment_of w.own (m.part z) (slice_get b1.hands.items z)) e ∙
            ap (segment_of w.own (m.part k)) (set_here h s lt)
            ∙ sym (cond-true (eqb x k) (segment_of w.own (m.part k) (Some h))
            (segment_of w.own (m.part x) (slice_get b.hands.items x)) y)
        | inr n ↦ ap (segment_of w.own (m.part x)) (set_there h s x (eqb-false x k n)) ∙
            sym (cond-false (eqb x k) (segment_of w.own (m.part k) (Some h))
            (segment_of w.own (m.part x) (slice_get b.hands.items x)) n)
      ]

-- a transaction that was taken out is dropped
pub dropped : {S : Type 0} (k : ℕ) (m : Meaning) (b b1 : Books S) (p : Progress S) → Fit k m b p →
    slice_get b.hands.items k ≡ Some Idle → b1 ≡ record b { pending = b1.pending } →
    b1.pending + length p.started ≡ b.pending → Whole (after_drop k m) b1
dropped {S} k m b b1 p f e eb pe =
    let hs : b1.hands.items ≡ b.hands.items = ap (λ (z : Books S). z.hands.items) eb in
    let hi : b1.history.room ≡ b.history.room = ap (λ (z : Books S). z.history.room) eb in
    let co : b1.conflicts.room ≡ b.conflicts.room = ap (λ (z : Books S). z.conflicts.room) eb in
    let th : b1.threads.room ≡ b.threads.room = ap (λ (z : Books S). z.threads.room) eb in
    let sr : sum_by one_running b1.hands.items ≡ sum_by one_running b.hands.items = ap (sum_by one_running) hs in
    let ss : sum_by one_started b1.hands.items ≡ sum_by one_started b.hands.items = ap (sum_by one_started) hs in
    let t = f.turns in let l = f.losses in let d = f.pending in let r = f.threads in
    record {
      hands = ap length hs ∙ f.hands;
      holders = λ j a h. elim (cases_Bool (eqb j k)) [
        | inl y ↦ absurd (both_ways false refl
            (subst (λ (z : Part). holds z a ≡ true) (cond-true (eqb j k) (ended (m.part k)) (m.part j) y) h))
        | inr n ↦ ap (λ z. runs_at z j) hs ∙
            f.holders j a (eqb-false j k n)
            (subst (λ (z : Part). holds z a ≡ true) (cond-false (eqb j k) (ended (m.part k)) (m.part j) n) h)
      ];
      works = λ j x h. elim (cases_Bool (eqb j k)) [
        | inl y ↦ absurd (let q : slice_get b.hands.items k ≡ Some (Runs x) =
            ap (slice_get b.hands.items) (sym (eqb-true j k y)) ∙ sym (ap (λ z. slice_get z j) hs) ∙ h in
            let u : Some Idle ≡ Some (Runs x) = sym e ∙ q in cc)
        | inr n ↦ subst (λ (z : Part). WorkFits z x) (sym (cond-false (eqb j k) (ended (m.part k)) (m.part j) n))
            (f.works j x (sym (ap (λ z. slice_get z j) hs) ∙ h))
      ];
      locked = λ j a h. elim (cases_Bool (eqb j k)) [
        | inl y ↦ absurd (both_ways false refl
            (subst (λ (z : Part). mem a z.changed ≡ true) (cond-true (eqb j k) (ended (m.part k)) (m.part j) y) h))
        | inr n ↦ let q : (after_drop k m).part j ≡ m.part j = cond-false (eqb j k) (ended (m.part k)) (m.part j) n in
            subst (λ (z : Part). is_lock (m.image a) (z.looked a) ≡ true) (sym q)
            (f.locked j a (subst (λ (z : Part). mem a z.changed ≡ true) q h))
      ];
      turns = omega (arith, sr, hi, t);
      losses = omega (arith, sr, co, l);
      pending = omega (arith, ss, pe, d);
      threads = omega (arith, th, pe, r);
    }

-- a conflict is noted, for which there is room
pub noted : {S : Type 0} (m : Meaning) (b b1 : Books S) → Whole m b →
    sum_by one_running b.hands.items < b.conflicts.room → b1 ≡ record b { conflicts = b1.conflicts } →
    b.conflicts.room ≤ b1.conflicts.room + 1 → Whole m b1
noted {S} m b b1 f lt eb room =
    let hs : b1.hands.items ≡ b.hands.items = ap (λ (z : Books S). z.hands.items) eb in
    let hi : b1.history.room ≡ b.history.room = ap (λ (z : Books S). z.history.room) eb in
    let th : b1.threads.room ≡ b.threads.room = ap (λ (z : Books S). z.threads.room) eb in
    let pe : b1.pending ≡ b.pending = ap (λ (z : Books S). z.pending) eb in
    let sr : sum_by one_running b1.hands.items ≡ sum_by one_running b.hands.items = ap (sum_by one_running) hs in
    let ss : sum_by one_started b1.hands.items ≡ sum_by one_started b.hands.items = ap (sum_by one_started) hs in
    let t = f.turns in let d = f.pending in let r = f.threads in
    record {
      hands = ap length hs ∙ f.hands;
      holders = λ j a h. ap (λ z. runs_at z j) hs ∙ f.holders j a h;
      works = λ j x h. f.works j x (sym (ap (λ z. slice_get z j) hs) ∙ h);
      locked = f.locked;
      turns = omega (arith, sr, hi, t);
      losses = omega (arith, sr, lt, room);
      pending = omega (arith, ss, pe, d);
      threads = omega (arith, th, pe, r);
    }

pub core_noted : {S : Type 0} (w : Worlds) (m : Meaning) (b b1 : Books S) (f : Conflict) →
    b1 ≡ record b { conflicts = b1.conflicts } → b1.conflicts.entries ≡ b.conflicts.entries ++ f ∷ [] →
    core_of w m b1 ≡ with_conflict f (core_of w m b)
core_noted {S} w m b b1 f eb ec i = record {
  image = m.image;
  threads = ap (λ (z : Books S). z.threads.entries) eb i;
  world = w.committed;
  history = ap (λ (z : Books S). z.history.entries) eb i;
  conflicts = ec i;
  begun = ap (λ (z : Books S). z.begun) eb i;
  last = ap (λ (z : Books S). z.last) eb i;
  cause = ap (λ (z : Books S). z.cause) eb i;
  segments = λ x. segment_of w.own (m.part x) (slice_get (ap (λ (z : Books S). z.hands.items) eb i) x);
}

-- while a transaction is out, there is room for its conflict
pub still_room : {S : Type 0} (k : ℕ) (m : Meaning) (b b1 : Books S) (p : Progress S) → Fit k m b p →
    b1 ≡ record b { pending = b1.pending } → sum_by one_running b1.hands.items < b1.conflicts.room
still_room {S} k m b b1 p f eb =
    let sr : sum_by one_running b1.hands.items ≡ sum_by one_running b.hands.items =
    ap (λ (z : Books S). sum_by one_running z.hands.items) eb in
    let co : b1.conflicts.room ≡ b.conflicts.room = ap (λ (z : Books S). z.conflicts.room) eb in
    let l = f.losses in
    omega (arith, sr, co, l)

pub some_room : {S : Type 0} (k : ℕ) (m : Meaning) (b b1 : Books S) (p : Progress S) → Fit k m b p →
    b1 ≡ record b { pending = b1.pending } → 0 < b1.conflicts.room
some_room k m b b1 p f eb = let l = still_room k m b b1 p f eb in omega (arith, l)
