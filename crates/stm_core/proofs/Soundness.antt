-- What a client keeps between a heap and the states of the threads is kept by runs, and by the steps of a transaction.
use Rattle.std.proofs.Common.{◌≡◌, ℕ, zero, suc, List, [], ◌∷◌, ◌++◌, slice_get, slice_set, Some, refl, sym, ◌∙◌, ap, subst, append-nil, append_assoc}
use Rattle.py_data.specs.Heap.{Heap}
use Rattle.py_data.specs.Sight.{Sight, opened}
use Rattle.py_data.proofs.Mirror.{does_afresh}
use Rattle.lock_run.specs.Prog.{Prog}
use Rattle.lock_run.specs.Client.{StaysSound, Standing}
use Rattle.lock_run.specs.declared.turn.Turn.{Turn}
use Rattle.lock_run.specs.Machine.{Machine, Steps, DoesTurn, Runs}
use Rattle.lock_run.proofs.Stepping.{get_set, set_set}
use Rattle.seg_store.specs.Meaning.{overlay}
use Rattle.stm_segment.specs.CoreState.{Transaction, Running, CoreState}
use Rattle.stm_core.specs.Good.{Good}

set_self : {X : Type 0} (xs : List X) (i : ℕ) (x : X) → slice_get xs i ≡ Some x → slice_set xs i x ≡ xs
set_self [] i x e = refl
set_self (y ∷ xs) zero x e = let same : y ≡ x = cc in ap (λ z. z ∷ xs) (sym same)
set_self (y ∷ xs) (suc i) x e = ap (λ zs. y ∷ zs) (set_self xs i x e)

module _ {S : Type 0} (p : Prog S) (sound : Heap → List S → Type 0) (law : StaysSound p sound) where
  pub sound_steps : (ts : List S) (i n : ℕ) (before q : S) (s : Sight S) (q1 : S) (t : Sight S) →
      slice_get ts i ≡ Some before → sound s.heap (slice_set ts i q ++ s.started) → Steps p n q s q1 t →
      sound t.heap (slice_set ts i q1 ++ t.started)
  sound_steps ts i zero before q s q1 t is h d = subst (λ z. sound t.heap (slice_set ts i z ++ t.started)) (sym d.0)
      (subst (λ (u : Sight S). sound u.heap (slice_set ts i q ++ u.started)) (sym d.1) h)
  sound_steps ts i (suc n) before q s q1 t is h d =
      let r = d.0 in
      let u = d.1 in
      let front = sound_steps ts i n before q s r u is h d.2 in
      let a = does_afresh (p.row r) u t (d.3.outcome, q1) d.3.does in
      let there : slice_get (slice_set ts i r ++ u.started) i ≡ Some r = get_set ts u.started i before r is in
      let k = law (slice_set ts i r ++ u.started) i r u.heap u.world d.3.outcome q1 a.0 front there d.3.lives a.1.does
      in
      let heap : a.0.heap ≡ t.heap = λ j b. a.1.heap b j in
      let list : slice_set ((slice_set ts i r ++ u.started) ++ a.0.started) i q1 ≡ slice_set ts i q1 ++ t.started =
      ap (λ z. slice_set z i q1) (append_assoc (slice_set ts i r) u.started a.0.started) ∙
      set_set ts (u.started ++ a.0.started) i before r q1 is ∙ ap (λ z. slice_set ts i q1 ++ z) (sym a.1.started) in
      subst (λ z. sound z (slice_set ts i q1 ++ t.started)) heap (subst (sound a.0.heap) list k)

  pub first_sound : (h : Heap) (ts : List S) (i : ℕ) (q : S) → slice_get ts i ≡ Some q → sound h ts →
      sound h (slice_set ts i q ++ [])
  first_sound h ts i q is s = subst (sound h) (sym (append-nil (slice_set ts i q) ∙ set_self ts i q is)) s

  sound_turn : (m m1 : Machine S) (t : Turn) → sound m.heap m.threads → DoesTurn p m t m1 → sound m1.heap m1.threads
  sound_turn m m1 t h d = subst (λ (u : Machine S). sound u.heap u.threads) (sym d.gives)
      (sound_steps m.threads t.thread t.steps d.before d.before (opened S m.heap m.world) d.after d.sight d.is
      (first_sound m.heap m.threads t.thread d.before d.is h) d.steps)

  pub sound_run : (m m1 : Machine S) (ts : List Turn) → sound m.heap m.threads → Runs p m ts m1 →
      sound m1.heap m1.threads
  sound_run m m1 [] h r = subst (λ (u : Machine S). sound u.heap u.threads) (sym r) h
  sound_run m m1 (t ∷ ts) h r = sound_run r.0 m1 ts (sound_turn m r.0 t h r.1) r.2

  -- the state of a transaction that stands may stand over what it sees
  pub sound_transaction : (start : Machine S) (most : ℕ) (k : CoreState S) (i : ℕ) (x : Transaction S) →
      sound start.heap start.threads → Good p start most k → k.segments i ≡ Running x →
      Standing (sound (overlay k.image x.changes)) x.state
  sound_transaction start most k i x s0 g is =
      let st = g.stands i x is in
      let c = sound_run start (record { heap = k.image; threads = k.threads; world = k.world }) k.history s0 g.run in
      let h = sound_steps k.threads x.thread x.steps st.before st.before (opened S k.image k.world) x.state st.sight
      st.is (first_sound k.image k.threads x.thread st.before st.is c) st.steps in (
        slice_set k.threads x.thread x.state ++ st.sight.started,
        x.thread,
        get_set k.threads st.sight.started x.thread st.before x.state st.is,
        subst (λ z. sound z (slice_set k.threads x.thread x.state ++ st.sight.started)) (λ j a. st.shows.view a j) h,
      )
