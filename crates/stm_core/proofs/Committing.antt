-- The two passes of a commit, as store and books show them.
use Rattle.std.proofs.Common.{◌≡◌, ◌≢◌, ◌<◌, ◌≤◌, ◌+◌, ◌-◌, ℕ, zero, suc, Bool, true, false, cond, not, ◌||◌, ◌&&◌, eqb, ltb, List, [], ◌∷◌, ◌++◌, length, drop, slice_get, slice_set, Option, Some, None, refl, sym, ◌∙◌, ap, subst, inl, inr, arith}
use Rattle.std.specs.List.{range_with_len}
use Rattle.std.proofs.lemmas.Bool.{cases_Bool, both_ways, eqb-false, eq-eqb, ne_eqb, cond-true, cond-false}
use Rattle.std.proofs.lemmas.Bool.Decides.{nat_tests}
use Rattle.std.proofs.lemmas.List.{drop_all}
use Rattle.py_data.specs.declared.stop.Side.{Side}
use Rattle.py_data.specs.declared.stop.Conflict.{Conflict}
use Rattle.py_data.specs.declared.value.Addr.{Addr}
use Rattle.py_data.specs.Heap.{Marks}
use Rattle.py_data.specs.World.{World}
use Rattle.seg_store.specs.Meaning.{Part, Meaning}
use Rattle.seg_store.specs.Calls.{ended, after_drop}
use Rattle.stm_segment.specs.declared.books.Work.{Work}
use Rattle.stm_segment.specs.declared.books.Hand.{Hand}
use Rattle.stm_segment.specs.declared.books.Hand.TheVariants.{Idle as IdleHand, Doomed as DoomedHand, Runs}
use Rattle.stm_segment.specs.declared.books.Books.{Books}
use Rattle.stm_segment.specs.CoreState.{no_world, Transaction, Doomed, Running, CoreState, with_segment, with_conflict}
use Rattle.stm_segment.specs.Conflict.{conflict, side, wins, IsStanding}
use Rattle.stm_segment.specs.Books.{Worlds, is_running, runs_at, side_of, transaction, segment_of, core_of}
use Rattle.stm_core.specs.Passes.{met, doom_met, doom_one, doom_readers, NoneWins}
use Rattle.stm_core.specs.inner.Trying.{core_with}
use Rattle.stm_core.specs.inner.Readers.{read_at, work_side, Beats, FirstBeats}
use Rattle.lock_run.specs.Prog.{Prog}
use Rattle.stm_core.specs.Committed.{Beaten}
use Rattle.stm_core.proofs.TwoPasses.{met_some}
use Rattle.stm_segment.proofs.Fits.{work_at, runs_within}
use Rattle.stm_core.proofs.Stepping.{set_swap}
use Rattle.stm_segment.proofs.Holding.{core_doomed}

-- ---- the first record that was looked at

get_drop : {X : Type 0} (xs : List X) (i : ℕ) (a : X) → slice_get xs i ≡ Some a → drop i xs ≡ a ∷ drop (i + 1) xs
get_drop [] i a e = absurd cc
get_drop (x ∷ xs) zero a e = let same : x ≡ a = cc in ap (λ z. z ∷ xs) same
get_drop (x ∷ xs) (suc i) a e = let n : suc (i + 1) ≡ suc i + 1 = omega arith in get_drop xs i a e ∙
    ap (λ z. a ∷ drop z (x ∷ xs)) n

pub met_here : (xs : List ℕ) (i a : ℕ) (m : Marks) → slice_get xs i ≡ Some a → m a ≡ true → met (drop i xs) m ≡ Some a
met_here xs i a m e t = ap (λ z. met z m) (get_drop xs i a e) ∙ cond-true (m a) (Some a) (met (drop (i + 1) xs) m) t

pub met_next : (xs : List ℕ) (i a : ℕ) (m : Marks) → slice_get xs i ≡ Some a → m a ≡ false →
    met (drop (i + 1) xs) m ≡ met (drop i xs) m
met_next xs i a m e f = sym (ap (λ z. met z m) (get_drop xs i a e) ∙
    cond-false (m a) (Some a) (met (drop (i + 1) xs) m) f)

pub met_end : (xs : List ℕ) (i : ℕ) (m : Marks) → length xs ≤ i → met (drop i xs) m ≡ None
met_end xs i m h = ap (λ z. met z m) (drop_all i xs h)

-- ---- who has looked

module _ {S : Type 0} (hs : List (Hand S)) (m : Meaning) (k j : ℕ) where
  pub reads : (z : Work S) (a : ℕ) → j ≢ k → slice_get hs j ≡ Some (Runs z) →
      met (m.part k).changed (m.part j).looked ≡ Some a → read_at hs m k j ≡ Some a
  reads z a n e h = ap (λ b. cond (not b && runs_at hs j) (met (m.part k).changed (m.part j).looked) None)
      (ne_eqb j k n) ∙ ap (λ o. cond (is_running o) (met (m.part k).changed (m.part j).looked) None) e ∙ h

  own : eqb j k ≡ true → read_at hs m k j ≡ None
  own y = ap (λ b. cond (not b && runs_at hs j) (met (m.part k).changed (m.part j).looked) None) y

  resting : runs_at hs j ≡ false → eqb j k ≡ false → read_at hs m k j ≡ None
  resting r n = ap (λ b. cond (not b && runs_at hs j) (met (m.part k).changed (m.part j).looked) None) n ∙
      ap (λ b. cond b (met (m.part k).changed (m.part j).looked) None) r

  other : runs_at hs j ≡ true → eqb j k ≡ false → read_at hs m k j ≡ met (m.part k).changed (m.part j).looked
  other r n = ap (λ b. cond (not b && runs_at hs j) (met (m.part k).changed (m.part j).looked) None) n ∙
      ap (λ b. cond b (met (m.part k).changed (m.part j).looked) None) r

  pub unread_own : j ≡ k → read_at hs m k j ≡ None
  unread_own e = own (eq-eqb j k e)

  pub unread_resting : runs_at hs j ≡ false → read_at hs m k j ≡ None
  unread_resting r = elim (cases_Bool (eqb j k)) [
    | inl y ↦ own y
    | inr n ↦ resting r n
  ]

  pub read_other : j ≢ k → runs_at hs j ≡ true → read_at hs m k j ≡ met (m.part k).changed (m.part j).looked
  read_other n r = other r (ne_eqb j k n)

  -- a segment that has looked is another one, and runs
  pub reader_is : (a : ℕ) → read_at hs m k j ≡ Some a →
      (j ≢ k) × (runs_at hs j ≡ true) × (met (m.part k).changed (m.part j).looked ≡ Some a)
  reader_is a e = elim (cases_Bool (eqb j k)) [
    | inl y ↦ absurd (let q = own y in let w : None ≡ Some a = sym q ∙ e in cc)
    | inr n ↦ elim (cases_Bool (runs_at hs j)) [
      | inl r ↦ (eqb-false j k n, r, sym (other r n) ∙ e)
      | inr r ↦ absurd (let q = resting r n in let w : None ≡ Some a = sym q ∙ e in cc)
    ]
  ]

-- a reader that wins
pub beats_some : {S : Type 0} (hs : List (Hand S)) (m : Meaning) (k j : ℕ) (me other : Side) (at : Addr) →
    read_at hs m k j ≡ Some at.0 → other ≡ side_of j other (slice_get hs j) → wins other me ≡ true
    → Beats hs m k me j (Some (record { at = at; writer = me; other = other; asks = false; lost = 0 }))
beats_some hs m k j me other at e o w =
    let z = work_at hs j (reader_is hs m k j at.0 e).1 in
    let same : other ≡ work_side j z.0 = o ∙ ap (side_of j other) z.1 in (
      z.0,
      z.1,
      e,
      ap (λ t. record { at = at; writer = me; other = t; asks = false; lost = 0 }) same,
      ap (λ t. wins t me) (sym same) ∙ w,
    )

-- a transaction that runs is the work in a hand
pub running_work : {S : Type 0} (w : Worlds) (p : Part) (o : Option (Hand S)) (y : Transaction S) →
    segment_of w.own p o ≡ Running y → (z : Work S) × (o ≡ Some (Runs z)) × (y ≡ transaction w.own p z)
running_work w p None y e = absurd cc
running_work w p (Some IdleHand) y e = absurd cc
running_work w p (Some (DoomedHand f)) y e = absurd cc
running_work w p (Some (Runs z)) y e = (z, refl, (cc))

-- the world of a transaction that isn't solo doesn't matter
pub mortal_segment : {S : Type 0} (v w : World) (p : Part) (o : Option (Hand S)) →
    ((x : Work S) → o ≡ Some (Runs x) → x.solo ≡ false) → segment_of v p o ≡ segment_of w p o
mortal_segment v w p None f = refl
mortal_segment v w p (Some IdleHand) f = refl
mortal_segment v w p (Some (DoomedHand g)) f = refl
mortal_segment {S} v w p (Some (Runs x)) f =
    ap (λ z. Running (with_world z)) (cond-false x.solo v no_world (f x refl) ∙
    sym (cond-false x.solo w no_world (f x refl)))
  where
    with_world : World → Transaction S
    with_world z = record (transaction v p x) { world = z }

-- ---- the first pass

-- of two numbers one is less
one_less : (a b : ℕ) → a ≢ b → ltb b a ≡ false → ltb a b ≡ true
one_less a b n e = grind (arith, nat_tests)

-- of two sides that began at different times one wins
pub wins_back : (x y : Side) → x.begun ≢ y.begun → wins y x ≡ false → wins x y ≡ true
wins_back x y n h = go x.solo y.solo h
  where
    go : (a b : Bool) → (b || (not a && ltb y.begun x.begun)) ≡ false → (a || (not b && ltb x.begun y.begun)) ≡ true
    go true b e = refl
    go false true e = absurd (both_ways true e refl)
    go false false e = one_less x.begun y.begun n e

module _ {S : Type 0} (w : Worlds) (k : ℕ) (m : Meaning) (b : Books S) (x : Work S) where
  other_segment : (j : ℕ) → j ≢ k → (core_with w k m b x).segments j ≡ segment_of w.own (m.part j)
      (slice_get b.hands.items j)
  other_segment j n = cond-false (eqb j k) (Running (transaction w.own (m.part k) x))
      (segment_of w.own (m.part j) (slice_get b.hands.items j)) (ne_eqb j k n)

  -- another transaction that runs is the work in a hand
  pub other_work : (j : ℕ) (y : Transaction S) → j ≢ k → (core_with w k m b x).segments j ≡ Running y →
      (z : Work S) × (slice_get b.hands.items j ≡ Some (Runs z)) × (y ≡ transaction w.own (m.part j) z)
  other_work j y n e = running_work w (m.part j) (slice_get b.hands.items j) y (sym (other_segment j n) ∙ e)

  -- a segment that isn't beaten by any
  loses_to_me : (j : ℕ) (y : Transaction S) (a : ℕ) → Beats b.hands.items m k (work_side k x) j None → j ≢ k →
      (core_with w k m b x).segments j ≡ Running y → met (m.part k).changed y.looked ≡ Some a
      → (z : Work S) × (slice_get b.hands.items j ≡ Some (Runs z)) × (y ≡ transaction w.own (m.part j) z) ×
      (wins (work_side j z) (work_side k x) ≡ false)
  loses_to_me j y a f ne e h =
      let r = other_work j y ne e in
      let h1 : met (m.part k).changed (m.part j).looked ≡ Some a =
      ap (λ (t : Transaction S). met (m.part k).changed t.looked) (sym r.2) ∙ h in
      (r.0, r.1, r.2, f r.0 a r.1 (reads b.hands.items m k j r.0 a ne r.1 h1))

  pub none_wins : (n : ℕ) → length b.hands.items ≡ n → FirstBeats b.hands.items m k (work_side k x) n None
      → ((j : ℕ) (y : Work S) → slice_get b.hands.items j ≡ Some (Runs y) → y.begun ≢ x.begun) →
      NoneWins k (transaction w.own (m.part k) x) (core_with w k m b x)
  none_wins n len f numbers j y a ne e h =
      let r = other_work j y ne e in
      let lt : j < length b.hands.items = runs_within b.hands.items j (ap is_running r.1) in
      let p = loses_to_me j y a (f j (subst (λ z. j < z) len lt)) ne e h in
      subst (λ (t : Transaction S). wins (side k (transaction w.own (m.part k) x)) (side j t) ≡ true) (sym p.2)
      (wins_back (work_side k x) (work_side j p.0) (λ q. numbers j p.0 p.1 (sym q)) p.3)

  pub beaten_is : (p : Prog S) (n : ℕ) (f : Conflict) → FirstBeats b.hands.items m k (work_side k x) n (Some f) →
      Beaten p k (transaction w.own (m.part k) x) f (core_with w k m b x)
  beaten_is p n f h =
      let j = h.0 in
      let z = h.1.0 in
      let c = core_with w k m b x in
      let tx = transaction w.own (m.part k) x in
      let r = reader_is b.hands.items m k j f.at.0 h.1.2 in
      let q = met_some (m.part k).changed (m.part j).looked f.at.0 r.2 in
      let f1 : Conflict = record { at = f.at; writer = work_side k x; other = work_side j z; asks = false; lost = 0 } in
      let stands : IsStanding p c f1 = record {
        x = tx;
        y = transaction w.own (m.part j) z;
        writes = cond-true (eqb k k) (Running tx) ((core_of w m b).segments k) (eq-eqb k k refl);
        reads = other_segment j r.0 ∙ ap (segment_of w.own (m.part j)) h.1.1;
        is = refl;
        differ = λ e. r.0 (sym e);
        held = q.0;
        met = q.1;
        lost = omega arith;
        loses = h.1.4;
      } in
      let one : Beaten p k tx f1 c = record {
        stands = stands;
        writer = refl;
        looked = refl;
        lost = refl;
        first_record = r.2;
        first_reader = λ i y a lt ne e d. let s = loses_to_me i y a (h.2 i lt) ne e d in
            subst (λ (t : Transaction S). wins (side i t) (work_side k x) ≡ false) (sym s.2) s.3;
      } in
      subst (λ (g : Conflict). Beaten p k tx g c) (sym h.1.3) one

  -- ---- the second pass

  -- a segment that has not looked stays as it is
  pub doom_none : (j : ℕ) → read_at b.hands.items m k j ≡ None → core_with w k m b x
      ≡ cond (eqb j k) (core_with w k m b x)
      (doom_one k (transaction w.own (m.part k) x) j (core_with w k m b x) ((core_with w k m b x).segments j))
  doom_none j e = elim (cases_Bool (eqb j k)) [
    | inl y ↦ sym (cond-true (eqb j k) (core_with w k m b x)
        (doom_one k (transaction w.own (m.part k) x) j (core_with w k m b x) ((core_with w k m b x).segments j)) y)
    | inr n ↦ sym (cond-false (eqb j k) (core_with w k m b x)
        (doom_one k (transaction w.own (m.part k) x) j (core_with w k m b x) ((core_with w k m b x).segments j)) n
        ∙ ap (doom_one k (transaction w.own (m.part k) x) j (core_with w k m b x)) (other_segment j (eqb-false j k n))
        ∙ go (slice_get b.hands.items j) refl (eqb-false j k n))
  ]
    where
      go : (o : Option (Hand S)) → slice_get b.hands.items j ≡ o → j ≢ k →
          doom_one k (transaction w.own (m.part k) x) j (core_with w k m b x)
          (segment_of w.own (m.part j) (slice_get b.hands.items j)) ≡ core_with w k m b x
      go None q n = ap (λ o. doom_one k (transaction w.own (m.part k) x) j (core_with w k m b x)
          (segment_of w.own (m.part j) o)) q
      go (Some IdleHand) q n = ap (λ o. doom_one k (transaction w.own (m.part k) x) j (core_with w k m b x)
          (segment_of w.own (m.part j) o)) q
      go (Some (DoomedHand f)) q n = ap (λ o. doom_one k (transaction w.own (m.part k) x) j (core_with w k m b x)
          (segment_of w.own (m.part j) o)) q
      go (Some (Runs z)) q n = ap (λ o. doom_one k (transaction w.own (m.part k) x) j (core_with w k m b x)
          (segment_of w.own (m.part j) o)) q
          ∙ ap (doom_met k (transaction w.own (m.part k) x) j (transaction w.own (m.part j) z) (core_with w k m b x))
          (sym (read_other b.hands.items m k j n (ap is_running q)) ∙ e)

  -- a reader is doomed
  pub doom_some : (j : ℕ) (a : ℕ) (f : Conflict) (b1 : Books S) → read_at b.hands.items m k j ≡ Some a →
      f ≡ record { at = record { 0 = a }; writer = work_side k x; other = f.other; asks = false; lost = 1 }
      → ((z : Work S) → slice_get b.hands.items j ≡ Some (Runs z) → f.other ≡ work_side j z) →
      b1 ≡ record b { hands = b1.hands; pending = b1.pending; conflicts = b1.conflicts }
      → b1.hands.items ≡ slice_set b.hands.items j (DoomedHand f) → b1.conflicts.entries ≡ b.conflicts.entries ++ f ∷ []
      → core_with w k (after_drop j m) b1 x ≡ cond (eqb j k) (core_with w k m b x)
      (doom_one k (transaction w.own (m.part k) x) j (core_with w k m b x) ((core_with w k m b x).segments j))
  doom_some j a f b1 e is other rest hs cs =
      let r = reader_is b.hands.items m k j a e in
      let n = r.0 in
      let z = work_at b.hands.items j r.1 in
      let tx = transaction w.own (m.part k) x in
      let ty = transaction w.own (m.part j) z.0 in
      let c = core_with w k m b x in
      let g = conflict k tx j ty a false 1 in
      let fg : f ≡ g = is ∙ ap (λ o. record {
        at = record { 0 = a };
        writer = work_side k x;
        other = o;
        asks = false;
        lost = 1;
      }) (other z.0 z.1) in
      let lt = runs_within b.hands.items j r.1 in
      let own_part : (after_drop j m).part k ≡ m.part k =
      cond-false (eqb k j) (ended (m.part j)) (m.part k) (ne_eqb k j (λ q. n (sym q))) in
      let left : core_with w k (after_drop j m) b1 x ≡ with_conflict f (with_segment j (Doomed f) c) =
      ap (λ p. with_segment k (Running (transaction w.own p x)) (core_of w (after_drop j m) b1)) own_part
      ∙ ap (with_segment k (Running tx)) (core_doomed w j f m b b1 lt rest hs cs)
      ∙ (λ i. record (with_conflict f (core_of w m b))
      { segments = set_swap k j (Running tx) (Doomed f) (core_of w m b).segments (λ q. n (sym q)) i }) in
      let right : doom_one k tx j c (c.segments j) ≡ with_conflict g (with_segment j (Doomed g) c) =
      ap (doom_one k tx j c) (other_segment j n ∙ ap (segment_of w.own (m.part j)) z.1) ∙
      ap (doom_met k tx j ty c) r.2 in
      left ∙ ap (λ (h : Conflict). with_conflict h (with_segment j (Doomed h) c)) fg ∙
      sym (cond-false (eqb j k) c (doom_one k tx j c (c.segments j)) (ne_eqb j k n) ∙ right)

-- the second pass over the segments from one on is that over it and then over the others
pub dooms_on : {S : Type 0} (k : ℕ) (x : Transaction S) (i n : ℕ) (c : CoreState S) → i < n
    → doom_readers k x (range_with_len (i + 1) (n - (i + 1))) (cond (eqb i k) c (doom_one k x i c (c.segments i))) ≡
    doom_readers k x (range_with_len i (n - i)) c
dooms_on k x i n c lt =
    let e : suc (n - (i + 1)) ≡ n - i = omega (arith, lt) in
    ap (λ z. doom_readers k x (range_with_len i z) c) e

pub dooms_end : {S : Type 0} (k : ℕ) (x : Transaction S) (i n : ℕ) (c : CoreState S) → n ≤ i →
    doom_readers k x (range_with_len i (n - i)) c ≡ c
dooms_end k x i n c le = let e : n - i ≡ 0 = omega (arith, le) in ap (λ z. doom_readers k x (range_with_len i z) c) e
