-- What a core leaves at its end: the solo transaction is committed, and what else runs is dropped.
use Rattle.std.proofs.Common.{◌≡◌, ◌≢◌, ◌⊎◌, ◌<◌, ◌≤◌, ◌+◌, ℕ, zero, suc, Bool, true, false, cond, eqb, ltb, nat_lt, ◌&&◌, List, [], ◌∷◌, map, length, Option, Some, None, Result, Ok, Err, slice_get, refl, sym, ◌∙◌, ap, subst, inl, inr, arith}
use Rattle.std.specs.List.{range_with_len}
use Rattle.std.proofs.lemmas.Bool.{cases_Bool, both_ways, and_from, eqb-false, cond-true, cond-false, ltb-true, ltb-false, lt-ltb}
use Rattle.py_data.specs.declared.stop.Conflict.{Conflict}
use Rattle.py_data.specs.Heap.{Heap}
use Rattle.py_data.specs.World.{World}
use Rattle.stm_io.specs.Outside.{SourceState, SinkState}
use Rattle.lock_run.specs.RunState.{first_world}
use Rattle.lock_run.specs.Prog.{Prog}
use Rattle.lock_run.specs.Machine.{begin_with}
use Rattle.seg_store.specs.Meaning.{Meaning}
use Rattle.stm_segment.specs.declared.books.Work.{Work}
use Rattle.stm_segment.specs.declared.books.Hand.TheVariants.{Runs}
use Rattle.stm_segment.specs.declared.books.Books.{Books}
use Rattle.stm_segment.specs.declared.cause.Cause.{Cause}
use Rattle.stm_segment.specs.declared.cause.Cause.TheVariants.{Full, ReadFault, WriteFault, ErrFault, OutOfMemory}
use Rattle.stm_core.specs.declared.commit.Commit.{Commit}
use Rattle.stm_core.specs.declared.commit.Commit.TheVariants.{Committed as AtTurn, Nothing}
use Rattle.stm_core.specs.declared.standing.RunState.{RunState}
use Rattle.stm_core.specs.declared.transactions.Core.{Core}
use Rattle.stm_segment.specs.CoreState.{Transaction, Segment, Idle, Running, CoreState, with_segment}
use Rattle.stm_segment.specs.Conflict.{loser}
use Rattle.stm_core.specs.Moves.{Move, Drops, Follows}
use Rattle.stm_core.specs.Outside.{Outer, InCore, Inner, OuterFollows, told_through}
use Rattle.stm_segment.specs.Devices.{DeviceState, device_state}
use Rattle.stm_segment.specs.Books.{Worlds, transaction, segment_of, core_of, NoneSolo}
use Rattle.stm_core.specs.Passes.{doom_readers}
use Rattle.stm_core.specs.Committed.{Beaten, CommitEnds, CommitOf, Committed}
use Rattle.stm_core.specs.SaneCore.{StandsFor, CauseRose}
use Rattle.stm_core.specs.CoreHeld.{core_client, core_limits, core_devices, first_devices, CoreStands, Says, IsFullKept, IsGoodCore, SameJob}
use Rattle.stm_core.specs.Events.{Limits, is_busy}
use Rattle.stm_core.specs.Standing.{slot_of, IsOutcome}
use Rattle.stm_core.specs.Finishing.{idle_core, HasFailed, HasFailedIf, SettlesSolo, HandedOut}
use Rattle.stm_core.proofs.Beginning.{beyond}
use Rattle.stm_core.proofs.Committing.{running_work}
use Rattle.stm_core.proofs.Kept.{set_cases}
use Rattle.stm_core.proofs.InnerMoves.{inner_follows}
use Rattle.stm_core.proofs.SoloMoves.{mortal_loses}
use Rattle.stm_core.proofs.TwoPasses.{clears}
use Rattle.stm_core.proofs.StandsAgain.{stands_told}

-- a core with what these segments have in hand dropped
abbrev dropped_from : {S : Type 0} → List ℕ → CoreState S → CoreState S
dropped_from [] c = c
dropped_from (j ∷ js) c = dropped_from js (with_segment j Idle c)

abbrev drops : {S : Type 0} → List ℕ → List (Move S)
drops [] = []
drops (j ∷ js) = Drops j ∷ drops js

-- of which the devices are told nothing
drops_told : (S : Type 0) (js : List ℕ) (w : World) → told_through (drops {S = S} js) w ≡ w
drops_told S [] w = refl
drops_told S (j ∷ js) w = drops_told S js w

-- where all are, it is at rest
dropped_all : {S : Type 0} (n : ℕ) (c : CoreState S) → ((i : ℕ) → n ≤ i → c.segments i ≡ Idle) →
    dropped_from (range_with_len 0 n) c ≡ idle_core c
dropped_all {S} n c rest = go n 0 c (λ i h.
    elim h [ inl lt ↦ absurd (omega (arith, lt)) | inr le ↦ rest i (omega (arith, le)) ])
  where
    go : (k a : ℕ) (e : CoreState S) → ((i : ℕ) → (i < a) ⊎ (a + k ≤ i) → e.segments i ≡ Idle) →
        dropped_from (range_with_len a k) e ≡ idle_core e
    go zero a e h = λ i. record e { segments = λ j. h j (split j) i }
      where
        split : (j : ℕ) → (j < a) ⊎ (a + 0 ≤ j)
        split j = elim (cases_Bool (ltb j a)) [
          | inl y ↦ inl (ltb-true j a y)
          | inr y ↦
              inr (let le = ltb-false j a y in omega (arith, le))
        ]
    go (suc k) a e h = go k (a + 1) (with_segment a Idle e) (λ i q. set i q)
      where
        set : (i : ℕ) → (i < a + 1) ⊎ (a + 1 + k ≤ i) → (with_segment a Idle e).segments i ≡ Idle
        set i q = elim (cases_Bool (eqb i a)) [
          | inl y ↦ cond-true (eqb i a) Idle (e.segments i) y
          | inr n ↦ let d = eqb-false i a n in cond-false (eqb i a) Idle (e.segments i) n ∙
              h i (elim q [ inl lt ↦ inl (omega (arith, lt, d)) | inr le ↦ inr (omega (arith, le)) ])
        ]

module _ {S : Type 0} (p : Prog S) (most : ℕ) (first d : DeviceState) (m : Meaning) (b : Books S) (o : Outer S)
    (s : StandsFor p most first d m b o) where
  -- a hand that runs, as the core shows it
  shown : (k : ℕ) (x : Work S) → slice_get b.hands.items k ≡ Some (Runs x) →
      o.core.segments k ≡ Running (transaction s.worlds.own (m.part k) x)
  shown k x e = ap (λ (c : CoreState S). c.segments k) s.core ∙ ap (segment_of s.worlds.own (m.part k)) e

  -- no transaction is solo where no hand runs a solo one
  pub none_solo : NoneSolo b.hands.items → (i : ℕ) (x : Transaction S) → o.core.segments i ≡ Running x → x.solo ≡ false
  none_solo none i x e =
      let z = running_work s.worlds (m.part i) (slice_get b.hands.items i) x
      (sym (ap (λ (c : CoreState S). c.segments i) s.core) ∙ e) in
      ap (λ (r : Transaction S). r.solo) z.2 ∙ none i z.0 z.1

  pub none_settles : (n : ℕ) → NoneSolo b.hands.items → SettlesSolo p n o o
  none_settles n none = inl (none_solo none, refl)

  -- a solo transaction isn't beaten
  solo_wins : (k : ℕ) (x : Work S) → slice_get b.hands.items k ≡ Some (Runs x) → x.solo ≡ true → (f : Conflict) →
      Beaten p k (transaction s.worlds.own (m.part k) x) f o.core → ⊥
  solo_wins k x e solo f v =
      let at : (loser f).segment ≡ k = ap (λ l. (cond (eqb l 0) f.writer f.other).segment) v.lost ∙ v.writer in
      let r = mortal_loses p (begin_with p (first_world first.input first.ends)) most o.core f s.kept.good v.stands in
      both_ways x.solo (r.1 (transaction s.worlds.own (m.part k) x) (ap o.core.segments at ∙ shown k x e)) solo

  -- the commit of a solo transaction goes
  pub solo_settles : (k : ℕ) (x : Work S) → slice_get b.hands.items k ≡ Some (Runs x) → x.solo ≡ true →
      (r : Result Commit Conflict) (o1 : Outer S) → InCore (Committed p k m.segments r) o o1 →
      SettlesSolo p m.segments o o1
  solo_settles k x e solo r o1 h =
      let z = ended r (subst (λ (z : Segment S). CommitOf p k m.segments z r o.core o1.core) (shown k x e) h.0) h in
      inr (k, tx, shown k x e, solo, z.0, z.1)
    where
      tx : Transaction S
      tx = transaction s.worlds.own (m.part k) x

      ended : (q : Result Commit Conflict) → CommitEnds p k m.segments tx q o.core o1.core →
          InCore (Committed p k m.segments q) o o1 → (c : Commit) × InCore (Committed p k m.segments (Ok c)) o o1
      ended (Ok c) a i = (c, i)
      ended (Err f) a i = absurd (solo_wins k x e solo f a.1)

  -- none is solo afterwards
  pub none_after : (k : ℕ) (x : Work S) → slice_get b.hands.items k ≡ Some (Runs x) → x.solo ≡ true →
      (r : Result Commit Conflict) (o1 : Outer S) → InCore (Committed p k m.segments r) o o1
      → (w : Worlds) (m1 : Meaning) (b1 : Books S) → o1.core ≡ core_of w m1 b1 → NoneSolo b1.hands.items
  none_after k x e solo r o1 h w m1 b1 core j y f =
      mortal r (subst (λ (z : Segment S). CommitOf p k m.segments z r o.core o1.core) (shown k x e) h.0) j
      (transaction w.own (m1.part j) y) (ap (λ (c : CoreState S). c.segments j) core ∙
      ap (segment_of w.own (m1.part j)) f)
    where
      tx : Transaction S
      tx = transaction s.worlds.own (m.part k) x

      others : (j : ℕ) (z : Transaction S) → j ≢ k → o.core.segments j ≡ Running z → z.solo ≡ false
      others j z n q = (s.kept.good.apart k j tx z (λ i. n (sym i)) (shown k x e) q).solo solo

      mortal : (q : Result Commit Conflict) → CommitEnds p k m.segments tx q o.core o1.core →
          (j : ℕ) (z : Transaction S) → o1.core.segments j ≡ Running z → z.solo ≡ false
      mortal (Ok Nothing) a j z g = elim
          (set_cases k j Idle (Running z) o.core.segments (sym (ap (λ (c : CoreState S). c.segments j) a.1) ∙ g)) [
            | inl q ↦ (let w = q.1 in absurd cc)
            | inr q ↦ others j z q.0 q.1
          ]
      mortal (Ok (AtTurn i)) a j z g =
          let js = range_with_len 0 m.segments in
          let u = clears p most k tx js o.core (shown k x e) a.1 in
          elim (set_cases k j Idle (Running z) (doom_readers k tx js o.core).segments
          (sym (ap (λ (c : CoreState S). c.segments j) a.3) ∙ g)) [
            | inl q ↦ (let w = q.1 in absurd cc)
            | inr q ↦ others j z q.0 (u.fewer j z q.1)
          ]
      mortal (Err v) a j z g = absurd (solo_wins k x e solo v a.1)

  -- it may be committed
  pub may_commit : (l : Limits) (k : ℕ) (x : Work S) → slice_get b.hands.items k ≡ Some (Runs x) → k < l.segments →
      (nat_lt k l.segments && is_busy (slot_of (o.core.segments k))) ≡ true
  may_commit l k x e lt = and_from (nat_lt k l.segments) (is_busy (slot_of (o.core.segments k)))
      (lt-ltb k l.segments lt) (ap (λ (z : Segment S). is_busy (slot_of z)) (shown k x e))

  -- and what else runs is dropped
  rest_moves : (js : List ℕ) (c : CoreState S) →
      ((i : ℕ) (x : Transaction S) → c.segments i ≡ Running x → x.solo ≡ false) →
      Follows p most c (drops js) (dropped_from js c)
  rest_moves [] c mortal = refl
  rest_moves (j ∷ js) c mortal =
      let c1 = with_segment j Idle c in
      let still : (i : ℕ) (x : Transaction S) → c1.segments i ≡ Running x → x.solo ≡ false = λ i x e.
      elim (set_cases j i Idle (Running x) c.segments e) [
        | inl h ↦ (let w = h.1 in absurd cc)
        | inr h ↦
            mortal i x h.1
      ] in
      (c1, ((λ x e solo. absurd (both_ways x.solo (mortal j x e) solo)), refl), rest_moves js c1 still)

  -- dropping leads from the state for which the core stands to one at rest
  pub rest_stands : (m1 : Meaning) (b1 : Books S) → length b.hands.items ≡ m.segments → NoneSolo b.hands.items →
      b1.broken ≡ b.broken → ((w : Worlds) → core_of w m1 b1 ≡ idle_core (core_of w m b))
      → (o1 : Outer S) × StandsFor p most first d m1 b1 o1 × (o1 ≡ record o { core = idle_core o.core })
  rest_stands m1 b1 len none broken idle =
      let js = range_with_len 0 m.segments in
      let w = s.worlds in
      let ms : List (Move S) = drops js in
      let all : dropped_from js o.core ≡ idle_core o.core = dropped_all m.segments o.core (λ i lt. beyond_idle i lt) in
      let now : core_of w m1 b1 ≡ idle_core o.core = idle w ∙ ap idle_core (sym s.core) in
      let inner = inner_follows p most o ms (dropped_from js o.core) (rest_moves js o.core (none_solo none)) in
      let told : told_through ms o.told ≡ o.told = drops_told S js o.told in
      let end : record o { core = dropped_from js o.core; told = told_through ms o.told } ≡ record o
      { core = core_of w m1 b1 } = λ i. record o { core = (all ∙ sym now) i; told = told i } in
      let f = subst (OuterFollows p most o (map Inner ms)) end inner in (
        record o { core = core_of w m1 b1 },
        stands_told p most first d m m1 b b1 o s w broken (map Inner ms) f,
        ap (λ c. record o { core = c }) now,
      )
    where
      beyond_idle : (i : ℕ) → m.segments ≤ i → o.core.segments i ≡ Idle
      beyond_idle i le = ap (λ (c : CoreState S). c.segments i) s.core ∙
          ap (segment_of s.worlds.own (m.part i)) (beyond b.hands.items i (subst (λ n. n ≤ i) (sym len) le))

-- ---- what is handed out

has_failed_if : {S : Type 0} (p : Prog S) (c : CoreState S) (b : Bool) → (b ≡ true → HasFailed p c) →
    (b ≡ false → HasFailed p c → ⊥) → HasFailedIf p c b
has_failed_if p c true has hasnt = has refl
has_failed_if p c false has hasnt = hasnt refl

-- the devices without what a core keeps beside them
abbrev bare : DeviceState → DeviceState
bare d = record d { mid = false; was_mid = false }

rose_bare : (o : Option Cause) (first d : DeviceState) → CauseRose o first d → CauseRose o first (bare d)
rose_bare None first d h = tt
rose_bare (Some ReadFault) first d h = h
rose_bare (Some WriteFault) first d h = h
rose_bare (Some ErrFault) first d h = h
rose_bare (Some (Full r n l)) first d h = tt
rose_bare (Some OutOfMemory) first d h = tt

module _ {C S I O E T : Type 0} (input : I → SourceState) (out : O → SinkState) (err : E → SinkState)
    (prog : C → Prog T) (sound : C → Heap → List T → Type 0) (reserved : S → ℕ) (meaning : S → Meaning)
    (x z : Core C S I O E T) (job : SameJob meaning x z)
    (good : IsGoodCore input out err prog sound reserved meaning z) (state : RunState) (failed : Bool)
    (outcome : Says input out err prog meaning z
    (λ o. IsOutcome (prog (core_client z)) (core_limits meaning z).budget o.core state))
    (has : failed ≡ true → (w : Worlds) → HasFailed (prog z.client.now) (core_of w (meaning z.store) z.books))
    (hasnt : failed ≡ false → (w : Worlds) → HasFailed (prog z.client.now) (core_of w (meaning z.store) z.books) →
    ⊥) where
  abbrev Hands : C → Limits → DeviceState → Outer T → Outer T → Type 0
  Hands c l first o v = HandedOut (prog c) l.length l.budget l.segments first (bare (core_devices input out err z))
      state failed z.books.history.entries z.books.conflicts.entries (meaning z.store).image o v

  -- for its own job
  hands : (o u v : Outer T) → SettlesSolo (prog (core_client z)) (core_limits meaning z).segments o u →
      CoreStands input out err prog meaning z v → v ≡ record u { core = idle_core u.core } →
      Hands (core_client z) (core_limits meaning z) (first_devices input out err z) o v
  hands o u v settles t idle = record {
    settled = u;
    settles = settles;
    idle = idle;
    kept = t.kept;
    outcome = outcome v t;
    failed_is = has_failed_if (prog z.client.now) v.core failed
        (λ e. subst (HasFailed (prog z.client.now)) (sym t.core) (has e t.worlds))
        (λ e h. hasnt e t.worlds (subst (HasFailed (prog z.client.now)) t.core h));
    history_is = ap (λ (c : CoreState T). c.history) t.core;
    conflicts_are = ap (λ (c : CoreState T). c.conflicts) t.core;
    image_is = ap (λ (c : CoreState T). c.image) t.core;
    tells = record { input = t.tells.input; ends = t.tells.ends; out = t.tells.out; err = t.tells.err };
    counts = record { reads = good.sane.counts.reads; writes = good.sane.counts.writes; errs = good.sane.counts.errs };
    rose = subst (λ (e : Option Cause). CauseRose e (first_devices input out err z)
        (bare (core_devices input out err z))) (sym (ap (λ (c : CoreState T). c.cause) t.core))
        (rose_bare z.books.cause (first_devices input out err z) (core_devices input out err z) good.sane.rose);
  }

  pub handed_out : (o u v : Outer T) → SettlesSolo (prog (core_client x)) (core_limits meaning x).segments o u →
      CoreStands input out err prog meaning z v → v ≡ record u { core = idle_core u.core }
      → Hands (core_client x) (core_limits meaning x) (first_devices input out err x) o v × IsFullKept
      (reserved z.store) (meaning z.store).limit v.core.cause
  handed_out o u v settles t idle =
      let first : first_devices input out err z ≡ first_devices input out err x = λ i.
      device_state input out err (job.made_with i).value in
      let own : SettlesSolo (prog (core_client z)) (core_limits meaning z).segments o u =
      subst (λ (c : C). SettlesSolo (prog c) (core_limits meaning z).segments o u) (sym job.client)
      (subst (λ (l : Limits). SettlesSolo (prog (core_client x)) l.segments o u) (sym job.limits) settles) in (
        subst (λ (d : DeviceState). Hands (core_client x) (core_limits meaning x) d o v) first
            (subst (λ (l : Limits). Hands (core_client x) l (first_devices input out err z) o v) job.limits
            (subst (λ (c : C). Hands c (core_limits meaning z) (first_devices input out err z) o v) job.client
            (hands o u v own t idle))),
        subst (IsFullKept (reserved z.store) (meaning z.store).limit) (sym (ap (λ (c : CoreState T). c.cause) t.core))
            good.kept,
      )
