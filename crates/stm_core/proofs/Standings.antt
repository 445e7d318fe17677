-- Which thread is next, and how a run stands.
use Rattle.std.proofs.Common.{◌≡◌, ◌⊎◌, ◌<◌, ◌≤◌, ◌+◌, ℕ, suc, true, ◌&&◌, ◌||◌, ltb, List, [], ◌∷◌, length, slice_get, Option, Some, None, refl, sym, ◌∙◌, subst, inl, inr, arith}
use Rattle.std.specs.List.{sum_by}
use Rattle.std.proofs.lemmas.Bool.{cases_Bool, and_parts, or_cases, cond-true, cond-false, ltb-true, ltb-false, lt-ltb, le-ltb}
use Rattle.std.proofs.lemmas.List.Sums.{sum_by-cons}
use Rattle.lock_run.specs.Client.{Waiting}
use Rattle.lock_run.specs.Prog.{Prog}
use Rattle.lock_run.specs.RunState.{SomeReady, AllWait}
use Rattle.seg_store.specs.Meaning.{Meaning}
use Rattle.stm_segment.specs.declared.books.Books.{Books}
use Rattle.stm_segment.specs.declared.books.Work.{Work}
use Rattle.stm_segment.specs.declared.books.Hand.{Hand}
use Rattle.stm_segment.specs.declared.books.Hand.TheVariants.{Idle, Doomed, Runs}
use Rattle.stm_segment.specs.CoreState.{CoreState, committed}
use Rattle.stm_segment.specs.Books.{Worlds, one_running, core_of}
use Rattle.stm_core.specs.Begun.{IsReady, IsUnready, UnreadyAt}
use Rattle.stm_core.specs.Standing.{sooner, IsNext, FirstReady, NoneRuns, IsAtRest}
use Rattle.stm_segment.proofs.Fits.{sum_set}
use Rattle.stm_core.proofs.Beginning.{beyond}
use Rattle.stm_core.proofs.Committing.{running_work}

-- ---- which thread is next

module _ {S : Type 0} (p : Prog S) (c : CoreState S) where
  past : (t : ℕ) → length c.threads ≤ t → IsUnready p c t
  past t h = subst (UnreadyAt p c t) (sym (beyond c.threads t h)) tt

  -- none of a part of the threads, and none of those behind
  all_past : (from n : ℕ) → n ≡ length c.threads → FirstReady p c from n None → (t : ℕ) → from ≤ t → IsUnready p c t
  all_past from n len f t a = elim (cases_Bool (ltb t n)) [
    | inl y ↦ f t a (ltb-true t n y)
    | inr y ↦ past t (let le = ltb-false t n y in omega (arith, len, le))
  ]

  -- looked for from the first thread on, where none comes first
  from_first : (n : ℕ) → n ≡ length c.threads → ((s t : ℕ) → t < n → sooner c.last s t ≡ true → (s < t) ⊎ (n ≤ s)) →
      (r : Option ℕ) → FirstReady p c 0 n r → IsNext p c r
  from_first n len before None f = λ t. all_past 0 n len f t (omega arith)
  from_first n len before (Some t) f = (
    f.2,
    λ s h. elim (before s t f.1 h) [
      | inl lt ↦ f.3 s (omega arith) lt
      | inr le ↦ past s (omega (arith, len, le))
    ],
  )

  pub next_none : (n : ℕ) → n ≡ length c.threads → c.last ≡ None → (r : Option ℕ) → FirstReady p c 0 n r → IsNext p c r
  next_none n len e = from_first n len (λ s t lt h. inl (ltb-true s t (subst (λ o. sooner o s t ≡ true) e h)))

  pub next_far : (n l : ℕ) → n ≡ length c.threads → c.last ≡ Some l → n ≤ l → (r : Option ℕ) → FirstReady p c 0 n r →
      IsNext p c r
  next_far n l len e far = from_first n len (λ s t lt h. after s t lt (subst (λ o. sooner o s t ≡ true) e h))
    where
      after : (s t : ℕ) → t < n → sooner (Some l) s t ≡ true → (s < t) ⊎ (n ≤ s)
      after s t lt h = elim (or_cases (ltb l s) (ltb s t)
          (sym (cond-false (ltb l t) (ltb l s && ltb s t) (ltb l s || ltb s t) (le-ltb l t (omega (arith, far, lt)))) ∙
          h)) [
            | inl y ↦ inr (let q = ltb-true l s y in omega (arith, far, q))
            | inr y ↦ inl (ltb-true s t y)
          ]

  pub next_above : (n l t : ℕ) → c.last ≡ Some l → FirstReady p c (l + 1) n (Some t) → IsNext p c (Some t)
  next_above n l t e f = (f.2, λ s h. between s (subst (λ o. sooner o s t ≡ true) e h))
    where
      between : (s : ℕ) → sooner (Some l) s t ≡ true → IsUnready p c s
      between s h =
          let a = f.0 in
          let q = and_parts (ltb l s) (ltb s t)
          (sym (cond-true (ltb l t) (ltb l s && ltb s t) (ltb l s || ltb s t) (lt-ltb l t (omega (arith, a)))) ∙ h)
          in
          let x = ltb-true l s q.0 in
          f.3 s (omega (arith, x)) (ltb-true s t q.1)

  pub next_below : (n l : ℕ) → n ≡ length c.threads → c.last ≡ Some l → FirstReady p c (l + 1) n None →
      (r : Option ℕ) → FirstReady p c 0 (l + 1) r → IsNext p c r
  next_below n l len e f None g = λ t. elim (cases_Bool (ltb t (l + 1))) [
    | inl y ↦ g t (omega arith) (ltb-true t (l + 1) y)
    | inr y ↦ all_past (l + 1) n len f t (let q = ltb-false t (l + 1) y in omega (arith, q))
  ]
  next_below n l len e f (Some t) g = (g.2, λ s h. before s (subst (λ o. sooner o s t ≡ true) e h))
    where
      before : (s : ℕ) → sooner (Some l) s t ≡ true → IsUnready p c s
      before s h =
          let a = g.1 in
          elim (or_cases (ltb l s) (ltb s t)
          (sym (cond-false (ltb l t) (ltb l s && ltb s t) (ltb l s || ltb s t) (le-ltb l t (omega (arith, a)))) ∙
          h)) [
            | inl y ↦ all_past (l + 1) n len f s (let q = ltb-true l s y in omega (arith, q))
            | inr y ↦ g.3 s (omega arith) (ltb-true s t y)
          ]

  -- ---- how the run stands

  pub all_wait : NoneRuns c → IsNext p c None → AllWait p (committed c)
  all_wait none next t q is lives = go (subst (UnreadyAt p c t) is (next t))
    where
      go : UnreadyAt p c t (Some q) → Waiting (p.row q) c.image
      go (inl n) = absurd (n lives)
      go (inr (inl r)) = absurd (none r.0 r.1 r.2)
      go (inr (inr w)) = w

  -- a thread that may begin can go on
  pub some_ready : (t : ℕ) → IsReady p c t → SomeReady p (committed c)
  some_ready t r = (t, r.state, r.is, (r.lives, r.goes))

-- a hand that runs counts
pub some_running : {S : Type 0} (hs : List (Hand S)) → 0 < sum_by one_running hs →
    (j : ℕ) × (y : Work S) × (slice_get hs j ≡ Some (Runs y))
some_running [] h = absurd (omega arith)
some_running {S} (Runs y ∷ hs) h = (0, y, refl)
some_running {S} (Idle ∷ hs) h = let x : Hand S = Idle in let s = sum_by-cons one_running x hs in let r =
    some_running hs (omega (arith, s, h)) in (suc r.0, r.1, r.2)
some_running {S} (Doomed f ∷ hs) h = let x : Hand S = Doomed f in let s = sum_by-cons one_running x hs in let r =
    some_running hs (omega (arith, s, h)) in (suc r.0, r.1, r.2)

none_running : {S : Type 0} (hs : List (Hand S)) → sum_by one_running hs ≤ 0 → (j : ℕ) (y : Work S) →
    slice_get hs j ≡ Some (Runs y) → ⊥
none_running hs h j y e = let s = sum_set one_running hs j (Runs y) Idle e in omega (arith, s, h)

-- the core rests where no cause is kept and no hand runs
pub at_rest : {S : Type 0} (w : Worlds) (m : Meaning) (b : Books S) {n : ℕ} → b.cause ≡ None →
    n ≡ sum_by one_running b.hands.items → n ≤ 0 → IsAtRest (core_of w m b)
at_rest w m b e count none = (
  e,
  λ j x runs.
      let r = running_work w (m.part j) (slice_get b.hands.items j) x runs in
      none_running b.hands.items (omega (arith, count, none)) j r.0 r.1,
)
