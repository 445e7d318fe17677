-- Store and books still fit after each call of a segment's view.
use Rattle.std.proofs.Common.{◌≡◌, ◌≢◌, ◌<◌, ◌≤◌, ◌+◌, ◌-◌, ℕ, zero, suc, Bool, true, false, eqb, List, [], ◌∷◌, ◌++◌, length, take, slice_get, slice_set, Option, Some, None, Result, Ok, Err, OnOk, OnErr, refl, sym, ◌∙◌, ap, subst, inl, inr, arith, IsSome, unwrap_or, is_some, length-set, length-append}
use Rattle.std.specs.List.{sum_by}
use Rattle.std.proofs.lemmas.List.Sums.{sum_by-cons}
use Rattle.std.proofs.lemmas.Bool.{cases_Bool, both_ways, or_cases, or_left, or_right, eqb-true, eqb-false, eq-eqb, ne_eqb, cond-true, cond-false, and_from, and_parts}
use Rattle.std.proofs.lemmas.Option.{slice_get_within}
use Rattle.py_data.specs.declared.stop.Conflict.{Conflict}
use Rattle.py_data.specs.Heap.{Rec, Has, at, is_tracked, blank}
use Rattle.py_data.specs.Collection.{places}
use Rattle.py_data.specs.Sight.{mem, with_mark}
use Rattle.py_data.proofs.Grow.{mem_append}
use Rattle.seg_store.specs.Meaning.{Part, Meaning, sees, holds, over, with_part}
use Rattle.seg_store.specs.Calls.{marked, first_locked, ended, opened, undone, after_mark, after_lock, after_drop, after_open, after_undo}
use Rattle.seg_store.specs.Store.{IsStore}
use Rattle.stm_segment.specs.declared.books.Progress.{Progress}
use Rattle.stm_segment.specs.declared.books.Work.{Work}
use Rattle.stm_segment.specs.declared.books.Hand.{Hand}
use Rattle.stm_segment.specs.declared.books.Hand.TheVariants.{Idle, Doomed, Runs}
use Rattle.stm_segment.specs.declared.books.Books.{Books}
use Rattle.stm_segment.specs.Books.{WorkFits, is_running, started_of, runs_at, started_at, one_running, one_started, is_lock, Fit}

-- ---- lists

pub get_set_other : {X : Type 0} (xs : List X) (i j : ℕ) (x : X) → i ≢ j →
    slice_get (slice_set xs i x) j ≡ slice_get xs j
get_set_other [] i j x n = refl
get_set_other (y ∷ xs) zero zero x n = absurd (n refl)
get_set_other (y ∷ xs) zero (suc j) x n = refl
get_set_other (y ∷ xs) (suc i) zero x n = refl
get_set_other (y ∷ xs) (suc i) (suc j) x n = get_set_other xs i j x (λ e. n (ap suc e))

pub get_set_same : {X : Type 0} (xs : List X) (i : ℕ) (x : X) → i < length xs → slice_get (slice_set xs i x) i ≡ Some x
get_set_same [] i x h = absurd (omega arith)
get_set_same (y ∷ xs) zero x h = refl
get_set_same (y ∷ xs) (suc i) x h = get_set_same xs i x (omega arith)

pub sum_set : {X : Type 0} (f : X → ℕ) (xs : List X) (i : ℕ) (x y : X) → slice_get xs i ≡ Some x →
    sum_by f (slice_set xs i y) + f x ≡ sum_by f xs + f y
sum_set f [] i x y e = absurd cc
sum_set f (z ∷ xs) zero x y e =
    let q : z ≡ x = cc in
    let a = sum_by-cons f z xs in
    let b = sum_by-cons f y xs in
    let c : f z ≡ f x = ap f q in
    omega (arith, a, b, c)
sum_set f (z ∷ xs) (suc i) x y e =
    let a = sum_by-cons f z xs in
    let b = sum_by-cons f z (slice_set xs i y) in
    let c = sum_set f xs i x y e in
    omega (arith, a, b, c)

-- the work of a segment that runs
pub work_at : {S : Type 0} (hs : List (Hand S)) (j : ℕ) → runs_at hs j ≡ true →
    (w : Work S) × (slice_get hs j ≡ Some (Runs w))
work_at {S} hs j r = go (slice_get hs j) refl r
  where
    go : (o : Option (Hand S)) → slice_get hs j ≡ o → is_running o ≡ true →
        (w : Work S) × (slice_get hs j ≡ Some (Runs w))
    go None e t = absurd (both_ways false refl t)
    go (Some Idle) e t = absurd (both_ways false refl t)
    go (Some (Doomed f)) e t = absurd (both_ways false refl t)
    go (Some (Runs w)) e t = (w, e)

pub runs_within : {S : Type 0} (hs : List (Hand S)) (j : ℕ) → runs_at hs j ≡ true → j < length hs
runs_within hs j r = let w = work_at hs j r in slice_get_within hs j (Runs w.0) w.1

pub runs_other : {S : Type 0} (hs : List (Hand S)) (j k : ℕ) → runs_at hs j ≡ true → runs_at hs k ≡ false → j ≢ k
runs_other hs j k r o e = both_ways (runs_at hs j) (ap (runs_at hs) e ∙ o) r

-- ---- the segment's own part

own : (k : ℕ) (q : Part) (m : Meaning) → (with_part k q m).part k ≡ q
own k q m = cond-true (eqb k k) q (m.part k) (eq-eqb k k refl)

other : (j k : ℕ) (q : Part) (m : Meaning) → j ≢ k → (with_part k q m).part j ≡ m.part j
other j k q m n = cond-false (eqb j k) q (m.part j) (ne_eqb j k n)

-- only the segment's own part and the progress of its transaction changed
pub fit_own : {S : Type 0} (k : ℕ) (m : Meaning) (q : Part) (b : Books S) (p p1 : Progress S) → Fit k m b p →
    places p1.names ≡ q.made → places (take p1.kept_names p1.names) ≡ q.kept_made → p1.kept_names ≤ length p1.names
    → ((a : ℕ) → mem a q.changed ≡ true → is_lock (m.image a) (q.looked a) ≡ true) →
    length p1.started ≡ length p.started → Fit k (with_part k q m) b p1
fit_own k m q b p p1 f names kept within locks st = record {
  mine = f.mine;
  hands = f.hands;
  out = f.out;
  holders = λ j a n h. f.holders j a n (subst (λ (z : Part). holds z a ≡ true) (other j k q m n) h);
  works = λ j x e. subst (λ (z : Part). WorkFits z x)
      (sym (other j k q m (runs_other b.hands.items j k (ap is_running e) f.out))) (f.works j x e);
  own_names = names ∙ sym (ap (λ (z : Part). z.made) (own k q m));
  kept_names = kept ∙ sym (ap (λ (z : Part). z.kept_made) (own k q m));
  within = within;
  locked = λ j a h. elim (cases_Bool (eqb j k)) [
    | inl y ↦ let e : (with_part k q m).part j ≡ q = cond-true (eqb j k) q (m.part j) y in
        subst (λ (z : Part). is_lock (m.image a) (z.looked a) ≡ true) (sym e)
        (locks a (subst (λ (z : Part). mem a z.changed ≡ true) e h))
    | inr n ↦ let e : (with_part k q m).part j ≡ m.part j = cond-false (eqb j k) q (m.part j) n in
        subst (λ (z : Part). is_lock (m.image a) (z.looked a) ≡ true) (sym e)
        (f.locked j a (subst (λ (z : Part). mem a z.changed ≡ true) e h))
  ];
  turns = f.turns;
  losses = f.losses;
  pending = ap (λ n. sum_by one_started b.hands.items + n) st ∙ f.pending;
  threads = f.threads;
}

-- a lock with a mark more is a lock
lock_marked : (o : Option Rec) (a b : ℕ) (looked : ℕ → Bool) → is_lock o (looked b) ≡ true →
    is_lock o (with_mark a looked b) ≡ true
lock_marked None a b looked e = absurd (both_ways false refl e)
lock_marked (Some r) a b looked e = let t = and_parts (is_tracked r.kind) (looked b) e in
    and_from (is_tracked r.kind) (with_mark a looked b) t.0 (or_right (eqb b a) (looked b) t.1)

pub fit_mark : {S : Type 0} (k a : ℕ) (m : Meaning) (b : Books S) (p : Progress S) → Fit k m b p →
    Fit k (after_mark k a m) b p
fit_mark k a m b p f = fit_own k m (marked a (m.part k)) b p p f f.own_names f.kept_names f.within
    (λ c h. lock_marked (m.image c) a c (m.part k).looked (f.locked k c h)) refl

-- a record that no segment's change hides stands in the image
pub seen_image : (r : ℕ) (m : Meaning) (k a : ℕ) → IsStore r m → holds (m.part k) a ≡ false → sees m k a ≡ m.image a
seen_image r m k a s h = go ((m.part k).changes a) (s.changes k a ∙ h)
  where
    go : (o : Option Rec) → is_some o ≡ false → over o (m.image a) ≡ m.image a
    go None e = refl
    go (Some q) e = absurd (both_ways true e refl)

-- a tracked record that is there can be locked
tracked_lock : (o : Option Rec) (b : Bool) → IsSome o → is_tracked (unwrap_or o blank).kind ≡ true → b ≡ true →
    is_lock o b ≡ true
tracked_lock None b s t e = absurd cc
tracked_lock (Some r) b s t e = and_from (is_tracked r.kind) b t e

pub fit_lock : {S : Type 0} (r k a : ℕ) (m : Meaning) (b : Books S) (p : Progress S) → IsStore r m → Has (sees m k) a →
    is_tracked (at (sees m k) a).kind ≡ true → Fit k m b p → Fit k (after_lock k a m) b p
unfolding at
fit_lock {S} r k a m b p s there tracked f = go (holds (m.part k) a) refl
  where
    q : Part
    q = first_locked a (at (sees m k) a) (m.part k)

    lock : holds (m.part k) a ≡ false → (c : ℕ) → mem c ((m.part k).changed ++ a ∷ []) ≡ true →
        is_lock (m.image c) (with_mark a (m.part k).looked c) ≡ true
    lock n c h = elim (or_cases (mem c (m.part k).changed) (mem c (a ∷ []))
        (sym (mem_append c (m.part k).changed (a ∷ [])) ∙ h)) [
          | inl x ↦ lock_marked (m.image c) a c (m.part k).looked (f.locked k c x)
          | inr x ↦ elim (or_cases (eqb c a) false x) [
            | inl y ↦ let e : c ≡ a = eqb-true c a y in
                let i = seen_image r m k a s n in
                subst (λ z. is_lock (m.image z) (with_mark a (m.part k).looked z) ≡ true) (sym e)
                (tracked_lock (m.image a) (with_mark a (m.part k).looked a) (subst IsSome i there)
                (subst (λ o. is_tracked (unwrap_or o blank).kind ≡ true) i tracked)
                (or_left (eqb a a) ((m.part k).looked a) (eq-eqb a a refl)))
            | inr y ↦ absurd (both_ways false refl y)
          ]
        ]

    go : (h : Bool) → holds (m.part k) a ≡ h → Fit k (after_lock k a m) b p
    go true e = subst (λ z. Fit k (with_part k z m) b p)
        (sym (cond-true (holds (m.part k) a) (marked a (m.part k)) q e)) (fit_mark k a m b p f)
    go false e = subst (λ z. Fit k (with_part k z m) b p)
        (sym (cond-false (holds (m.part k) a) (marked a (m.part k)) q e))
        (fit_own k m q b p p f f.own_names f.kept_names f.within (lock e) refl)

pub fit_lock_result : {S E : Type 0} (x : Result (Unit {0}) E) (r k a : ℕ) (m m1 : Meaning) (b : Books S)
    (p : Progress S) → IsStore r m → Has (sees m k) a → is_tracked (at (sees m k) a).kind ≡ true → Fit k m b p
    → OnOk x (m1 ≡ after_lock k a m) → OnErr x (m1 ≡ m) → Fit k m1 b p
fit_lock_result (Ok u) r k a m m1 b p s there t f ok err =
    subst (λ z. Fit k z b p) (sym ok) (fit_lock r k a m b p s there t f)
fit_lock_result (Err u) r k a m m1 b p s there t f ok err = subst (λ z. Fit k z b p) (sym err) f

-- ---- a doom

started_work : {S : Type 0} (hs : List (Hand S)) (j : ℕ) (w : Work S) → slice_get hs j ≡ Some (Runs w) →
    started_at hs j ≡ length w.progress.started
started_work hs j w e = ap started_of e

-- what the transaction of a segment started is pending
pub started_pending : {S : Type 0} (k : ℕ) (m : Meaning) (b : Books S) (p : Progress S) (j : ℕ) → Fit k m b p →
    runs_at b.hands.items j ≡ true → started_at b.hands.items j ≤ b.pending
started_pending k m b p j f r =
    let w = work_at b.hands.items j r in
    let s = sum_set one_started b.hands.items j (Runs w.0) Idle w.1 in
    let t = started_work b.hands.items j w.0 w.1 in
    let q = f.pending in
    omega (arith, s, t, q)

pub fit_doom : {S : Type 0} (k : ℕ) (m : Meaning) (b b1 : Books S) (p : Progress S) (j : ℕ) (c : Conflict) →
    Fit k m b p → j ≢ k → runs_at b.hands.items j ≡ true
    → b1.hands.items ≡ slice_set b.hands.items j (Doomed c) → b1.pending + started_at b.hands.items j ≡ b.pending →
    b1.history.room ≡ b.history.room → b1.threads.room ≡ b.threads.room
    → b.conflicts.room ≤ b1.conflicts.room + 1 → Fit k (after_drop j m) b1 p
fit_doom {S} k m b b1 p j c f n r hs pe hi th co =
    let w = work_at b.hands.items j r in
    let running = sum_set one_running b.hands.items j (Runs w.0) (Doomed c) w.1 in
    let started = sum_set one_started b.hands.items j (Runs w.0) (Doomed c) w.1 in
    let pend = f.pending in
    let ws = started_work b.hands.items j w.0 w.1 in
    let sr : sum_by one_running b1.hands.items ≡ sum_by one_running (slice_set b.hands.items j (Doomed c)) =
    ap (sum_by one_running) hs in
    let ss : sum_by one_started b1.hands.items ≡ sum_by one_started (slice_set b.hands.items j (Doomed c)) =
    ap (sum_by one_started) hs in
    let kp : (after_drop j m).part k ≡ m.part k = other k j (ended (m.part j)) m (λ e. n (sym e)) in
    let at_other : (i : ℕ) → i ≢ j → slice_get b1.hands.items i ≡ slice_get b.hands.items i = λ i ne.
    ap (λ l. slice_get l i) hs ∙ get_set_other b.hands.items j i (Doomed c) (λ e. ne (sym e)) in
    let at_j : slice_get b1.hands.items j ≡ Some (Doomed c) = ap (λ l. slice_get l j) hs ∙
    get_set_same b.hands.items j (Doomed c) (slice_get_within b.hands.items j (Runs w.0) w.1) in
    let not_j : (i : ℕ) → runs_at b1.hands.items i ≡ true → i ≢ j = λ i ri e.
    both_ways (runs_at b1.hands.items i) (ap (runs_at b1.hands.items) e ∙ ap is_running at_j) ri in
    record {
      mine = f.mine;
      hands = ap length hs ∙ (let l = length-set b.hands.items j (Doomed c) in l ∙ f.hands);
      out = ap is_running (at_other k (λ e. n (sym e))) ∙ f.out;
      holders = λ i a ne h. elim (cases_Bool (eqb i j)) [
        | inl y ↦ absurd (both_ways false refl
            (subst (λ (z : Part). holds z a ≡ true) (cond-true (eqb i j) (ended (m.part j)) (m.part i) y) h))
        | inr y ↦ ap is_running (at_other i (eqb-false i j y)) ∙
            f.holders i a ne (subst (λ (z : Part). holds z a ≡ true)
            (cond-false (eqb i j) (ended (m.part j)) (m.part i) y) h)
      ];
      works = λ i x e. let ne = not_j i (ap is_running e) in
          subst (λ (z : Part). WorkFits z x) (sym (other i j (ended (m.part j)) m ne))
          (f.works i x (sym (at_other i ne) ∙ e));
      own_names = f.own_names ∙ sym (ap (λ (z : Part). z.made) kp);
      kept_names = f.kept_names ∙ sym (ap (λ (z : Part). z.kept_made) kp);
      within = f.within;
      locked = λ i a h. elim (cases_Bool (eqb i j)) [
        | inl y ↦ absurd (both_ways false refl
            (subst (λ (z : Part). mem a z.changed ≡ true) (cond-true (eqb i j) (ended (m.part j)) (m.part i) y) h))
        | inr y ↦ let e : (after_drop j m).part i ≡ m.part i = cond-false (eqb i j) (ended (m.part j)) (m.part i) y in
            subst (λ (z : Part). is_lock (m.image a) (z.looked a) ≡ true) (sym e)
            (f.locked i a (subst (λ (z : Part). mem a z.changed ≡ true) e h))
      ];
      turns = let t = f.turns in omega (arith, running, sr, hi, t);
      losses = let t = f.losses in omega (arith, running, sr, co, t);
      pending = omega (arith, started, ss, pe, pend, ws);
      threads = let t = f.threads in omega (arith, th, pe, t);
    }

-- ---- looks, and the brackets of a step

pub fit_mark_result : {S E : Type 0} (x : Result (Unit {0}) E) (k a : ℕ) (m m1 : Meaning) (b : Books S)
    (p : Progress S) → Fit k m b p → OnOk x (m1 ≡ after_mark k a m) → OnErr x (m1 ≡ m) → Fit k m1 b p
fit_mark_result (Ok u) k a m m1 b p h ok err = subst (λ z. Fit k z b p) (sym ok) (fit_mark k a m b p h)
fit_mark_result (Err u) k a m m1 b p h ok err = subst (λ z. Fit k z b p) (sym err) h

take_whole : {X : Type 0} (xs : List X) → take (length xs) xs ≡ xs
take_whole [] = refl
take_whole (x ∷ xs) = ap (λ z. x ∷ z) (take_whole xs)

take_twice : {X : Type 0} (n : ℕ) (xs : List X) → take n (take n xs) ≡ take n xs
take_twice zero xs = refl
take_twice (suc n) [] = refl
take_twice (suc n) (x ∷ xs) = ap (λ z. x ∷ z) (take_twice n xs)

within_take : {X : Type 0} (n : ℕ) (xs : List X) → n ≤ length xs → n ≤ length (take n xs)
within_take zero xs h = omega arith
within_take (suc n) [] h = absurd (omega arith)
within_take (suc n) (x ∷ xs) h = let r = within_take n xs (omega arith) in omega (arith, r)

pub fit_open : {S : Type 0} (k : ℕ) (m m1 : Meaning) (b : Books S) (p p1 : Progress S) → Fit k m b p →
    m1 ≡ after_open k m → p1 ≡ record p { kept_names = length p.names; kept_started = length p.started } → Fit k m1 b p1
fit_open {S} k m m1 b p p1 f em ep =
    let q : Progress S = record p { kept_names = length p.names; kept_started = length p.started } in
    subst (λ z. Fit k z b p1) (sym em) (subst (Fit k (after_open k m) b) (sym ep)
    (fit_own k m (opened (m.part k)) b p q f f.own_names (ap places (take_whole p.names) ∙ f.own_names) (omega arith)
    (λ c l. f.locked k c l) refl))

pub fit_undo : {S : Type 0} (k : ℕ) (m m1 : Meaning) (b b1 : Books S) (p p1 : Progress S) (n : ℕ) → Fit k m b p →
    m1 ≡ after_undo k m → p1 ≡ record p { names = take p.kept_names p.names; started = take p.kept_started p.started }
    → n + length p1.started ≡ length p.started
    → b1 ≡ record b { pending = b1.pending } → b1.pending + n ≡ b.pending → Fit k m1 b1 p1
fit_undo {S} k m m1 b b1 p p1 n f em ep en eb pe =
    let q : Progress S = record p { names = take p.kept_names p.names; started = p.started } in
    let g = fit_own k m (undone (m.part k)) b p q f f.kept_names (ap places (take_twice p.kept_names p.names) ∙
    f.kept_names) (within_take p.kept_names p.names f.within) (λ c l. f.locked k c l) refl in
    let hs : b1.hands.items ≡ b.hands.items = ap (λ (z : Books S). z.hands.items) eb in
    let names : p1.names ≡ take p.kept_names p.names = ap (λ (z : Progress S). z.names) ep in
    let kept : p1.kept_names ≡ p.kept_names = ap (λ (z : Progress S). z.kept_names) ep in
    let hi : b1.history.room ≡ b.history.room = ap (λ (z : Books S). z.history.room) eb in
    let co : b1.conflicts.room ≡ b.conflicts.room = ap (λ (z : Books S). z.conflicts.room) eb in
    let th : b1.threads.room ≡ b.threads.room = ap (λ (z : Books S). z.threads.room) eb in
    let sr : sum_by one_running b1.hands.items ≡ sum_by one_running b.hands.items = ap (sum_by one_running) hs in
    let ss : sum_by one_started b1.hands.items ≡ sum_by one_started b.hands.items = ap (sum_by one_started) hs in
    let t = f.turns in let l = f.losses in let d = f.pending in let r = f.threads in
    subst (λ z. Fit k z b1 p1) (sym em) (record {
      mine = g.mine;
      hands = ap length hs ∙ g.hands;
      out = ap (λ z. runs_at z k) hs ∙ g.out;
      holders = λ j a ne h. ap (λ z. runs_at z j) hs ∙ g.holders j a ne h;
      works = λ j x e. g.works j x (sym (ap (λ z. slice_get z j) hs) ∙ e);
      own_names = ap places names ∙ g.own_names;
      kept_names = ap (λ z. places (take z p1.names)) kept ∙ ap (λ z. places (take p.kept_names z)) names ∙
          g.kept_names;
      within = subst (λ z. z ≤ length p1.names) (sym kept) (subst (λ z. p.kept_names ≤ length z) (sym names) g.within);
      locked = g.locked;
      turns = omega (arith, sr, hi, t);
      losses = omega (arith, sr, co, l);
      pending = omega (arith, ss, pe, en, d);
      threads = omega (arith, th, pe, r);
    })

pub fit_start : {S E : Type 0} (x : Result (Unit {0}) E) (k : ℕ) (m : Meaning) (b b1 : Books S) (p p1 : Progress S)
    (s : S) → Fit k m b p → b1 ≡ record b { threads = b1.threads; pending = b1.pending } →
    b.threads.room ≤ b1.threads.room
    → OnOk x ((b1.pending ≡ b.pending + 1) × (b1.pending ≤ b1.threads.room) ×
    (p1 ≡ record p { started = p.started ++ s ∷ [] })) → OnErr x ((b1.pending ≡ b.pending) × (p1 ≡ p)) →
    Fit k m b1 p1
fit_start {S} x k m b b1 p p1 s f eb room ok err = go x ok err
  where
    with_books : (q : Progress S) → q.names ≡ p.names → q.kept_names ≡ p.kept_names →
        sum_by one_started b.hands.items + length q.started ≡ b1.pending → b1.pending ≤ b1.threads.room → Fit k m b1 q
    with_books q names kept pending threads =
        let hs : b1.hands.items ≡ b.hands.items = ap (λ (z : Books S). z.hands.items) eb in
        let hi : b1.history.room ≡ b.history.room = ap (λ (z : Books S). z.history.room) eb in
        let co : b1.conflicts.room ≡ b.conflicts.room = ap (λ (z : Books S). z.conflicts.room) eb in
        let sr : sum_by one_running b1.hands.items ≡ sum_by one_running b.hands.items = ap (sum_by one_running) hs in
        let ss : sum_by one_started b1.hands.items ≡ sum_by one_started b.hands.items = ap (sum_by one_started) hs in
        let t = f.turns in let l = f.losses in
        record {
          mine = f.mine;
          hands = ap length hs ∙ f.hands;
          out = ap (λ z. runs_at z k) hs ∙ f.out;
          holders = λ j a ne h. ap (λ z. runs_at z j) hs ∙ f.holders j a ne h;
          works = λ j y e. f.works j y (sym (ap (λ z. slice_get z j) hs) ∙ e);
          own_names = ap places names ∙ f.own_names;
          kept_names = ap (λ z. places (take z q.names)) kept ∙ ap (λ z. places (take p.kept_names z)) names ∙
              f.kept_names;
          within = subst (λ z. z ≤ length q.names) (sym kept)
              (subst (λ z. p.kept_names ≤ length z) (sym names) f.within);
          locked = f.locked;
          turns = omega (arith, sr, hi, t);
          losses = omega (arith, sr, co, l);
          pending = omega (arith, ss, pending);
          threads = threads;
        }

    go : {E : Type 0} (y : Result (Unit {0}) E) →
        OnOk y ((b1.pending ≡ b.pending + 1) × (b1.pending ≤ b1.threads.room) ×
        (p1 ≡ record p { started = p.started ++ s ∷ [] })) → OnErr y ((b1.pending ≡ b.pending) × (p1 ≡ p)) →
        Fit k m b1 p1
    go (Ok u) h g =
        let l : length p1.started ≡ length p.started + 1 = ap (λ (z : Progress S). length z.started) h.2 ∙
        length-append p.started (s ∷ []) in
        let d = f.pending in let e = h.0 in
        with_books p1 (ap (λ (z : Progress S). z.names) h.2) (ap (λ (z : Progress S). z.kept_names) h.2)
        (omega (arith, l, d, e)) h.1
    go (Err u) h g =
        let l : length p1.started ≡ length p.started = ap (λ (z : Progress S). length z.started) g.1 in
        let d = f.pending in let e = g.0 in let r = f.threads in
        with_books p1 (ap (λ (z : Progress S). z.names) g.1) (ap (λ (z : Progress S). z.kept_names) g.1)
        (omega (arith, l, d, e)) (omega (arith, e, r, room))

-- what the step started is no more than what is pending
pub undone_pending : {S : Type 0} (k : ℕ) (m : Meaning) (b : Books S) (p : Progress S) (n l : ℕ) → Fit k m b p →
    n + l ≡ length p.started → (b.pending - n) + n ≡ b.pending
undone_pending k m b p n l f e = let d = f.pending in omega (arith, d, e)
