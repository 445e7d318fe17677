-- One step of a client over a segment's view, as the core sees it.
use Rattle.std.proofs.Common.{◌≡◌, ℕ, ◌+◌, ◌/◌, ◌≤◌, true, false, cond, List, [], ◌∷◌, length, take, Option, refl, sym, ◌∙◌, ap, subst, inl, inr, arith, Result, Ok, Err, IfOk, IfErr, OnErr, All}
use Rattle.std.proofs.lemmas.Bool.{cases_Bool, both_ways, or_left, cond-true, cond-false}
use Rattle.std.proofs.lemmas.List.{take_all}
use Rattle.py_data.specs.declared.value.Addr.{Addr}
use Rattle.py_data.specs.declared.stop.Side.{Side}
use Rattle.py_data.specs.declared.stop.Conflict.{Conflict}
use Rattle.py_data.specs.declared.stop.Stop.{Stop}
use Rattle.py_data.specs.World.{World}
use Rattle.py_data.specs.Collection.{places}
use Rattle.py_data.specs.Heap.{Heap}
use Rattle.py_data.specs.Row.{Call, Reply, Row, Ret, Do, Read, Find, Edit, Make, Start, Put, Take, MidLine, SetMidLine}
use Rattle.py_data.specs.Sense.{Run, Stopped, Upto}
use Rattle.py_data.specs.Sight.{Sight, Does, mem, pure}
use Rattle.py_data.specs.Steady.{AsksToPrint, Writes}
use Rattle.lock_run.specs.declared.client.Outcome.{Outcome}
use Rattle.lock_run.specs.declared.client.Outcome.TheVariants.{Waits as WaitsNow}
use Rattle.lock_run.specs.declared.client.Life.TheVariants.{Lives}
use Rattle.lock_run.specs.Prog.{Prog}
use Rattle.lock_run.specs.Client.{Stepped, LifeAfter, TellsLife, Unchanged, WaitsQuietly, Waiting}
use Rattle.lock_run.proofs.Following.{run_upto}
use Rattle.seg_store.specs.Meaning.{Part, Meaning, sees, saw, holds}
use Rattle.seg_store.specs.Calls.{opened, undone}
use Rattle.seg_store.specs.Store.{IsStore}
use Rattle.seg_store.proofs.Sees.{own_part, step_shows}
use Rattle.stm_segment.specs.declared.books.Work.{Work}
use Rattle.stm_segment.specs.declared.books.Books.{Books}
use Rattle.stm_segment.specs.declared.halt.Halt.{Halt}
use Rattle.stm_segment.specs.declared.halt.LastStop.{LastStop}
use Rattle.stm_segment.specs.declared.halt.Halt.TheVariants.{Lost, NeedSolo, Full, ReadFault, WriteFault, ErrFault, OutOfMemory}
use Rattle.stm_segment.specs.CoreState.{Running, sight_of}
use Rattle.stm_segment.specs.Conflict.{side}
use Rattle.stm_core.specs.Moves.{Stays}
use Rattle.stm_segment.specs.Asking.{Reaches, AsksToChange, AsksOutside, AsksRoom, AskedFor}
use Rattle.stm_segment.specs.Books.{runs_at, Worlds, transaction, core_of, Fit}
use Rattle.stm_segment.specs.Devices.{DeviceState, ShowsWorld, Shown}
use Rattle.stm_segment.specs.inner.Halts.{halt_for}
use Rattle.stm_segment.specs.inner.Hold.{Hold, holding, sight, Dooms, SegOpens, SegUndoes, LosesTo}
use Rattle.stm_segment.specs.InUse.{core_use, next_more, IfTold}
use Rattle.stm_core.specs.inner.Rising.{RisesInStep}
use Rattle.stm_segment.specs.inner.SegSense.{seg_use, seg_sense, seg_bracket}
use Rattle.stm_core.specs.inner.Trying.{core_with}
use Rattle.stm_core.specs.inner.Whole.{stepped, StepDone, StepCut, StepBroke, StopsAt, StopOf, CutWhy}
use Rattle.stm_segment.proofs.Holding.{core_own}
use Rattle.stm_core.proofs.Telling.{world_now, shown_now, tells_same}
use Rattle.stm_segment.proofs.Used.{use_apart}
use Rattle.stm_segment.proofs.Peaks.{told_weaker, beside_less}
use Rattle.stm_core.proofs.RowPeaks.{UsedAt, RisesOn}
use Rattle.stm_core.proofs.Way.{at_used, Way, way, RowDone, row_done}
use Rattle.stm_core.proofs.Keeping.{upto_keeps, stop_keeps}
use Rattle.stm_core.proofs.Stepping.{world_of, sight_is, advances}
use Rattle.stm_core.proofs.Stopping.{Stops, row_stopped, stays}
use Rattle.stm_core.proofs.Afresh.{waits_afresh}

places_same : (xs ys : List Addr) → places xs ≡ places ys → xs ≡ ys
places_same [] [] e = refl
places_same [] (y ∷ ys) e = absurd cc
places_same (x ∷ xs) [] e = absurd cc
places_same (x ∷ xs) (y ∷ ys) e =
    let h : x.0 ≡ y.0 = cc in
    let t : places xs ≡ places ys = cc in
    let a : x ≡ y = ap (λ n. record { 0 = n }) h in
    ap (λ z. z ∷ xs) a ∙ ap (λ z. y ∷ z) (places_same xs ys t)

take_whole : {X : Type 0} (n : ℕ) (xs : List X) → n ≡ length xs → take n xs ≡ xs
take_whole n xs e = ap (λ z. take z xs) e ∙ take_all (length xs) xs (omega arith)

pub if_err_on : {T E : Type 0} {P Q : E → Type 0} {R : Type 0} (r : Result T E) → ((e : E) → P e → R → Q e) →
    IfErr r P → OnErr r R → IfErr r Q
if_err_on (Ok x) f p q = tt
if_err_on (Err e) f p q = f e p q

pub by_result : {T E : Type 0} {P : T → Type 0} {Q : E → Type 0} {R : Type 0} (r : Result T E) → IfOk r P → IfErr r Q →
    ((x : T) → P x → R) → ((e : E) → Q e → R) → R
by_result (Ok x) p q f g = f x p
by_result (Err e) p q f g = g e q

-- the side of a transaction on its segment
pub side_is : (s : Side) (k : ℕ) → s.segment ≡ k → s ≡ record s { segment = k }
side_is s k e i = record s { segment = e i }

-- ---- what is in use

le_three : (x y z v : ℕ) → x ≤ y → y ≡ z → z ≤ v → x ≤ v
le_three x y z v a b c = omega arith

le_both : (n x y z v : ℕ) → n ≤ x + y → x ≤ z → y ≤ v → n ≤ z + v
le_both n x y z v a b c = omega arith

-- a row that writes next wants no words
writes_nothing : {S A : Type 0} (row : Row S A) (h : Heap) (c : ℕ) → Writes row → next_more row h c ≡ 0
writes_nothing (Do (Put on bytes) f) h c y = refl
writes_nothing (Ret a) h c y = absurd y
writes_nothing (Do (Take most) f) h c y = absurd y
writes_nothing (Do MidLine f) h c y = absurd y
writes_nothing (Do (SetMidLine b) f) h c y = absurd y
writes_nothing (Do (Read a) f) h c y = absurd y
writes_nothing (Do (Find a x) f) h c y = absurd y
writes_nothing (Do (Edit a x) f) h c y = absurd y
writes_nothing (Do (Make x) f) h c y = absurd y
writes_nothing (Do (Start x) f) h c y = absurd y

-- ---- why a step was cut

-- the row comes to the call that was refused
reaches_call : {S A : Type 0} {k : ℕ} {s : Side} {row : Row S A} {z z1 : Sight S} {y : Halt} {d0 d : Hold S}
    (kind : Call S → Sight S → Type 0) → z ≡ z1 → (a : StopsAt k s row z y d0 d) → (c : Call S) (f : Reply c → Row S A)
    → a.left ≡ Do c f → kind c a.place → Reaches row z1 kind
reaches_call {row = row} {z = z} kind e a c f q h =
    subst (λ v. Reaches row v kind) e (record {
      call = c;
      next = f;
      place = a.place;
      upto =
          subst (λ l. Upto pure row z l a.place) q a.upto;
      is = h;
    })

cut_why : {S A : Type 0} (w : Worlds) (k : ℕ) (s : Side) (m1 : Meaning) (r1 : ℕ) (b1 : Books S) {row : Row S A}
    {z z1 : Sight S} (y : Halt) {d0 d : Hold S} → z ≡ z1 → core_of w d.meaning d.books ≡ core_of w m1 b1 →
    r1 ≡ d.reserved → m1.limit ≡ d.meaning.limit → StopsAt k s row z y d0 d
    → CutWhy k s y row z1 (core_of w m1 b1) r1 m1.limit
cut_why w k s m1 r1 b1 (Lost f) e c r l a =
    elim a.why [
      | inl q ↦ (let p = q in absurd cc)
      | inr q ↦
          (subst (LosesTo k s f) c (q.3.1 w), reaches_call (AsksToChange f.at.0) e a q.0 q.1 q.2 q.3.0)
    ]
cut_why w k s m1 r1 b1 NeedSolo e c r l a =
    elim a.why [ inl q ↦ (let p = q in absurd cc) | inr q ↦ (q.3.0, reaches_call AsksOutside e a q.0 q.1 q.2 q.3.1) ]
cut_why w k s m1 r1 b1 (Full i n j) e c r l a =
    elim a.why [
      | inl q ↦ (let p = q in absurd cc)
      | inr q ↦
          (reaches_call (AsksRoom n) e a q.0 q.1 q.2 q.3.0, q.3.1 ∙ sym r, q.3.2 ∙ sym l, q.3.3)
    ]
cut_why w k s m1 r1 b1 OutOfMemory e c r l a = tt
cut_why w k s m1 r1 b1 ReadFault e c r l a = elim a.why [ inl q ↦ (let p = q in absurd cc) | inr q ↦ q.3.0 ]
cut_why w k s m1 r1 b1 WriteFault e c r l a = elim a.why [ inl q ↦ (let p = q in absurd cc) | inr q ↦ q.3.0 ]
cut_why w k s m1 r1 b1 ErrFault e c r l a = elim a.why [ inl q ↦ (let p = q in absurd cc) | inr q ↦ q.3.0 ]

-- ---- steps

module _ {S X : Type 0} (hold : X → Hold S) (devices : X → DeviceState) (segment : X → ℕ) (me : X → Side)
    (same : X → X → Type 0) (same_refl : (v : X) → same v v) (same_then : (u v w : X) → same u v → same v w → same u w)
  where
    -- how a step ended tells whether the thread lives on: the devices always show a world
    pub step_lives : (prog : Prog S) (k : ℕ) (s : Side) (q q1 : S) (v : X) (o : Outcome) (u : X) → segment v ≡ k →
        me v ≡ s → prog.life q ≡ Lives → AsksToPrint (prog.row q) → TellsLife prog
        → Stepped (seg_sense hold devices segment me same) (seg_bracket hold devices segment me same) (prog.row q) v o
        q1
        u → LifeAfter o (prog.life q1)
    step_lives prog k s q q1 v o u ek es lives asks tells h =
        let v1 = h.0 in
        let p = devices v1 in
        let r = row_done hold devices segment me same p.out p.err k s (prog.row q) v1 (o, q1) u (world_now p) false
        (h.1.2.segment_is ∙ ek) (h.1.2.me_is ∙ es) (λ solo. shown_now p) asks h.2 in
        tells q q1 (at_used (world_now p) false (sight k (hold v1))) (at_used r.world r.used (sight k (hold u))) o lives
        r.does

    -- A step of the transaction x of segment k, which was taken out of its hand: the view v is over the store's meaning
    -- m, the books b and the devices p, whatever it gave before, and was opened as v1. The step leaves the view u and
    -- the state q.
    module _ (t e : Option (List ℕ)) (prog : Prog S) (w : Worlds) (k : ℕ) (m : Meaning) (r : ℕ) (b : Books S)
        (x : Work S) (before : LastStop) (p : DeviceState) (v v1 u : X) (q : S)
        (ev : hold v ≡ holding m r b x.progress before) (pv : devices v ≡ p) (ek : segment v ≡ k)
        (es : me v ≡ side k (transaction w.own (m.part k) x))
        (opens : (seg_bracket hold devices segment me same).opens v v1)
        (fit : Fit k m b x.progress) (fit1 : Fit k (hold u).meaning (hold u).books (hold u).progress)
        (store : IsStore (hold u).reserved (hold u).meaning)
        (lives : prog.life x.state ≡ Lives) (asks : AsksToPrint (prog.row x.state)) (shown : Shown x.solo t e p w.own)
      where
        abbrev pub s : Side
        s = side k (transaction w.own (m.part k) x)

        -- what is left then
        abbrev pub m1 : Meaning
        m1 = (hold u).meaning

        abbrev pub b1 : Books S
        b1 = (hold u).books

        abbrev pub x1 : Work S
        x1 = record x { state = q; progress = (hold u).progress }

        op : SegOpens k (holding m r b x.progress before) (hold v1)
        op = subst (λ d. SegOpens k d (hold v1)) ev (subst (λ i. SegOpens i (hold v) (hold v1)) ek opens.0)

        part_begins : (hold v1).meaning.part k ≡ opened (m.part k)
        part_begins = ap (λ (z : Hold S). z.meaning.part k) op ∙ own_part k (opened (m.part k)) m

        -- what the opened step begins with
        abbrev first : Sight S
        first = at_used (world_of w x.solo) x.solo (sight k (hold v1))

        begins : first ≡ sight_of m.image w.committed (transaction w.own (m.part k) x)
        begins = sight_is w k m x (hold v1) fit.own_names (ap (λ (z : Hold S). sees z.meaning k) op ∙
            (step_shows k m).opened) (ap (λ (z : Part). z.looked) part_begins) (ap (λ (z : Part). holds z) part_begins)
            (ap (λ (z : Part). z.made) part_begins)
            (ap (λ (z : Hold S). z.progress.started) op)

        -- and the devices show its world
        shown_begins : Shown x.solo t e (devices v1) (world_of w x.solo)
        shown_begins solo =
            let y = shown solo in
            let z : ShowsWorld t e (devices v1) w.own =
            subst (λ (d : DeviceState). ShowsWorld t e d w.own)
            (sym (opens.1 ∙ ap (λ (d : DeviceState). record d { was_mid = d.mid }) pv))
            (record {
              tells = record { input = y.tells.input; ends = y.tells.ends; out = y.tells.out; err = y.tells.err };
              mid = y.mid;
            }) in
            subst (ShowsWorld t e (devices v1)) (sym (cond-true x.solo w.own w.committed solo)) z

        -- the core's state once the step was opened
        core_begins : core_of w (hold v1).meaning (hold v1).books ≡ core_of w m b
        core_begins = ap (λ (z : Hold S). core_of w z.meaning z.books) op ∙ core_own w k (opened (m.part k)) m b fit.out

        -- ---- how far the peaks of the view's store rise

        -- a place of the row over the view is one of the row over what the segment sees
        module _ (peaks : X → Option (ℕ → ℕ)) (c n : ℕ)
            (h : UsedAt hold devices segment me same peaks w (prog.row x.state) v1 c n) where
          at_k : segment h.place ≡ k
          at_k = (upto_keeps hold devices segment me same same_refl same_then k s (prog.row x.state) v1 h.left h.place
              h.upto (opens.2.segment_is ∙ ek) (opens.2.me_is ∙ es)).segment_is

          on_way : Way t e k s (prog.row x.state) (world_of w x.solo) x.solo (hold v1) h.left (hold h.place)
              (devices h.place)
          on_way = way hold devices segment me same t e k s (prog.row x.state) v1 h.left h.place (world_of w x.solo)
              x.solo (opens.2.segment_is ∙ ek) (opens.2.me_is ∙ es) shown_begins asks h.upto

          abbrev own_view : Heap
          own_view = sees (hold h.place).meaning k

          -- the other segments as they were before the step
          use_le : seg_use w k (hold h.place).meaning (hold h.place).books c ≤
              core_use (m.limit / 2) m.segments k own_view (core_with w k m b x) c
          use_le =
              let a = beside_less _ k s (hold v1) (hold h.place) on_way.beside w own_view c in
              let l = ap (λ (z : Hold S). core_use (z.meaning.limit / 2) z.meaning.segments k own_view
              (core_of w (hold v1).meaning (hold v1).books) c) op ∙
              ap (λ z. core_use (m.limit / 2) m.segments k own_view z c) core_begins in
              let d = use_apart (m.limit / 2) m.segments k own_view (Running (transaction w.own (m.part k) x))
              (core_of w m b) c in
              le_three _ _ _ _ a l d

          next_le : next_more h.left own_view c ≤ next_more on_way.next own_view c
          next_le = elim on_way.ends [
            | inl z ↦ subst (λ (y : Row S (Outcome × S)). next_more h.left own_view c ≤ next_more y own_view c)
                (sym z.0) (omega arith)
            | inr z ↦ let e = writes_nothing h.left own_view c z.2 in omega arith
          ]

          used_in_step : (left : Row S (Outcome × S)) × (place : Sight S) ×
              Upto pure (prog.row x.state) (sight_of m.image w.committed (transaction w.own (m.part k) x)) left place ×
              (n ≤ core_use (m.limit / 2) m.segments k place.heap (core_with w k m b x) c + next_more left place.heap c)
          used_in_step = (
            on_way.next,
            at_used on_way.world on_way.used (sight k (hold h.place)),
            subst (λ z. Upto pure (prog.row x.state) z on_way.next
                (at_used on_way.world on_way.used (sight k (hold h.place)))) begins on_way.upto,
            le_both _ _ _ _ _ (subst (λ i. n ≤ seg_use w i (hold h.place).meaning (hold h.place).books c +
                next_more h.left (sees (hold h.place).meaning i) c) at_k h.most) use_le next_le,
          )

        pub step_rises : (peaks : X → Option (ℕ → ℕ)) (old : Option (ℕ → ℕ)) (u1 : X) → peaks v1 ≡ old →
            IfTold (peaks v1) (peaks u1) (RisesOn hold devices segment me same peaks w (prog.row x.state) v1) →
            peaks u ≡ peaks u1 → IfTold old (peaks u) (RisesInStep prog w k m b x)
        step_rises peaks old u1 first rises last =
            subst (λ z. IfTold z (peaks u) (RisesInStep prog w k m b x)) first
            (subst (λ z. IfTold (peaks v1) z (RisesInStep prog w k m b x)) (sym last)
            (told_weaker (peaks v1) (peaks u1) (RisesOn hold devices segment me same peaks w (prog.row x.state) v1)
            (RisesInStep prog w k m b x)
            (λ f g a c lo. elim (a c lo) [ inl z ↦ inl z | inr z ↦ inr (used_in_step peaks c (g c) z) ]) rises))

        -- ---- a step that was done

        module _ (o : Outcome) (quiet : WaitsQuietly prog)
            (run : Run (seg_sense hold devices segment me same) (prog.row x.state) v1 (o, q) u) where
          done : RowDone hold devices segment me same t e k s (prog.row x.state) (world_of w x.solo) x.solo (hold v1)
              (o, q) (hold u) (devices u)
          done = row_done hold devices segment me same t e k s (prog.row x.state) v1 (o, q) u (world_of w x.solo) x.solo
              (opens.2.segment_is ∙ ek) (opens.2.me_is ∙ es) shown_begins asks run

          abbrev last : Sight S
          last = at_used done.world done.used (sight k (hold u))

          -- the world of the transaction then
          abbrev own : World
          own = cond x.solo done.world w.own

          shown_done : Shown x.solo t e (devices u) own
          shown_done solo = subst (ShowsWorld t e (devices u)) (sym (cond-true x.solo done.world w.own solo))
              (done.shown solo)

          im : m1.image ≡ m.image
          im = done.beside.image ∙ ap (λ (z : Hold S). z.meaning.image) op

          waits_there : (o ≡ WaitsNow) → (q ≡ x.state) × Unchanged first last
          waits_there n = quiet x.state q first last
              (subst (λ z. Does (prog.row x.state) first (z, q) last) n done.does)

          waits_own : (o ≡ WaitsNow) → own ≡ w.own
          waits_own n = elim (cases_Bool x.solo) [
            | inl y ↦ cond-true x.solo done.world w.own y ∙ (waits_there n).1.world ∙
                cond-true x.solo w.own w.committed y
            | inr y ↦ cond-false x.solo done.world w.own y
          ]

          waits_stays : (o ≡ WaitsNow) →
              Stays m.image (transaction w.own (m.part k) x) (transaction w.own (m1.part k) x1)
          waits_stays n =
              let z = waits_there n in
              let made : (m1.part k).made ≡ (m.part k).made = z.1.made ∙ ap (λ (z : Part). z.made) part_begins in
              stays w.own k m m1 (hold u).reserved x x1 im (z.1.heap ∙ ap (λ (z : Hold S). sees z.meaning k) op ∙
              (step_shows k m).opened) fit.own_names fit1.own_names store (fit1.locked k) refl refl refl refl z.0
              (places_same x1.progress.names x.progress.names (fit1.own_names ∙ made ∙ sym fit.own_names))
              (z.1.started ∙ ap (λ (z : Hold S). z.progress.started) op)
              (λ a l. done.beside.looked a (ap (λ (z : Part). z.looked a) part_begins ∙ l))
              (λ a l. done.beside.locks a (ap (λ (z : Part). mem a z.changed) part_begins ∙ l))

          -- it waits in any world, unless it is solo
          waits_any : (o ≡ WaitsNow) → x.solo ≡ false → Waiting (prog.row x.state) (sees m k)
          waits_any n mortal w1 =
              let y = row_done hold devices segment me same t e k s (prog.row x.state) v1 (o, q) u w1 false
              (opens.2.segment_is ∙ ek) (opens.2.me_is ∙ es) (λ solo. absurd (both_ways x.solo mortal solo)) asks run in
              let from = at_used w1 false (sight k (hold v1)) in
              let to = at_used y.world y.used (sight k (hold u)) in
              waits_afresh (prog.row x.state) from to (sees m k) w1 q (ap (λ (z : Hold S). sees z.meaning k) op ∙
              (step_shows k m).opened) refl (subst (λ z. Does (prog.row x.state) from (z, q) to) n y.does)

          done_there : StepDone prog w own k s o m b x m1 b1 x1
          done_there = record {
            dooms = done.beside.dooms;
            others = subst (λ c. Dooms k s done.beside.dooms c (core_of w m1 b1)) core_begins (done.beside.others w);
            goes = λ n. advances prog w own k m m1 (hold u).reserved x (stepped x1) (hold v1) (hold u) o done.world
                done.used lives n done.does begins refl refl im fit1.own_names store (fit1.locked k) refl refl refl refl
                (λ y. cond-true x.solo done.world w.own y) (λ y. (done.mortal y).1 ∙ y);
            waits = λ n. (waits_own n, waits_stays n);
            mortal = λ y. cond-false x.solo done.world w.own y;
            waiting = λ n. record {
              mortal = waits_any n;
              solo = λ y. (
                q,
                last,
                subst (λ z. Does (prog.row x.state) z (WaitsNow, q) last) begins
                    (subst (λ z. Does (prog.row x.state) first (z, q) last) n done.does),
              );
            };
            last = (o, q);
            went = record {
              place = last;
              upto = run_upto pure (prog.row x.state) (sight_of m.image w.committed (transaction w.own (m.part k) x))
                  (o, q) last (subst (λ z. Does (prog.row x.state) z (o, q) last) begins done.does);
              looks = λ a l. inl l;
              locks = λ a l. inl (or_left (mem a ((hold u).meaning.part k).changed)
                  (mem a ((hold u).meaning.part k).made)
                  l);
              asked = subst (λ z. All (λ (f : Conflict). AskedFor (prog.row x.state) z (Ret (o, q)) last f.at.0)
                  done.beside.dooms) begins done.beside.asked;
            };
          }

          pub step_done : (z : World) × Shown x.solo t e (devices u) z × StepDone prog w z k s o m b x m1 b1 x1
          step_done = (own, shown_done, done_there)

        -- ---- a step that was cut, and taken back

        module _ (stop : Stop) (state : q ≡ x.state) (u1 : X)
            (stopped : Stopped (seg_sense hold devices segment me same) (prog.row x.state) v1 stop u1)
            (undoes : (seg_bracket hold devices segment me same).undoes u1 u) where
          -- why it was cut
          abbrev pub halt : Halt
          halt = halt_for stop (hold u).last.halt

          cut : Stops t e k s (prog.row x.state) (world_of w x.solo) x.solo (hold v1)
              (halt_for stop (hold u1).last.halt) (hold u1) (devices u1)
          cut = row_stopped hold devices segment me same same_refl same_then t e k s (prog.row x.state) v1 stop u1
              (world_of w x.solo) x.solo (opens.2.segment_is ∙ ek) (opens.2.me_is ∙ es) shown_begins asks stopped

          at_end : segment u1 ≡ k
          at_end = (stop_keeps hold devices segment me same same_refl same_then k s (prog.row x.state) v1 stop u1
              stopped
              (opens.2.segment_is ∙ ek) (opens.2.me_is ∙ es)).0.segment_is

          un : SegUndoes k (hold u1) (hold u)
          un = subst (λ i. SegUndoes i (hold u1) (hold u)) at_end undoes.0

          halt_same : halt_for stop (hold u1).last.halt ≡ halt
          halt_same = ap (λ (z : Hold S). halt_for stop z.last.halt) (sym un)

          part_ends : m1.part k ≡ undone ((hold u1).meaning.part k)
          part_ends = ap (λ (z : Hold S). z.meaning.part k) un ∙
              own_part k (undone ((hold u1).meaning.part k)) (hold u1).meaning

          core_ends : core_of w m1 b1 ≡ core_of w (hold u1).meaning (hold u1).books
          core_ends =
              let out : runs_at (hold u1).books.hands.items k ≡ false =
              ap (λ (z : Hold S). runs_at z.books.hands.items k) (sym un) ∙ fit1.out in
              ap (λ (z : Hold S). core_of w z.meaning z.books) un ∙
              core_own w k (undone ((hold u1).meaning.part k)) (hold u1).meaning (hold u1).books out

          stays_cut : Stays m.image (transaction w.own (m.part k) x) (transaction w.own (m1.part k) x1)
          stays_cut =
              let z = cut.at.beside in
              let im : m1.image ≡ m.image = ap (λ (z : Hold S). z.meaning.image) un ∙ z.image ∙
              ap (λ (z : Hold S). z.meaning.image) op in
              let seen : sees m1 k ≡ sees m k = ap (λ (z : Hold S). sees z.meaning k) un ∙
              (step_shows k (hold u1).meaning).undone ∙ z.saw ∙ ap (λ (z : Hold S). saw z.meaning k) op ∙
              (step_shows k m).kept in
              let kn : (hold v1).progress.kept_names ≡ length (hold v1).progress.names =
              ap (λ (z : Hold S). z.progress.kept_names) op ∙ sym (ap (λ (z : Hold S). length z.progress.names) op) in
              let ks : (hold v1).progress.kept_started ≡ length (hold v1).progress.started =
              ap (λ (z : Hold S). z.progress.kept_started) op ∙ sym (ap (λ (z : Hold S). length z.progress.started) op)
              in
              let named : x1.progress.names ≡ x.progress.names = ap (λ (z : Hold S). z.progress.names) un ∙
              (z.names (omega (arith, kn))).1 ∙ take_whole (hold v1).progress.kept_names (hold v1).progress.names kn ∙
              ap (λ (z : Hold S). z.progress.names) op in
              let started : x1.progress.started ≡ x.progress.started = ap (λ (z : Hold S). z.progress.started) un ∙
              (z.started (omega (arith, ks))).1 ∙ take_whole (hold v1).progress.kept_started (hold v1).progress.started
              ks ∙ ap (λ (z : Hold S). z.progress.started) op in
              stays w.own k m m1 (hold u).reserved x x1 im seen fit.own_names fit1.own_names store (fit1.locked k) refl
              refl refl refl state named started
              (λ a l. ap (λ (z : Part). z.looked a) part_ends ∙
              z.looked a (ap (λ (z : Part). z.looked a) part_begins ∙ l))
              (λ a l. ap (λ (z : Part). mem a z.changed) part_ends ∙
              z.locks a (ap (λ (z : Part). mem a z.changed) part_begins ∙ l))

          pub step_cut : StepCut prog w k s halt m b x m1 (hold u).reserved b1 x1
          step_cut =
              let z = cut.at in
              record {
                dooms = z.beside.dooms;
                others = subst (λ c. Dooms k s z.beside.dooms c (core_of w m1 b1)) core_begins
                    (subst (Dooms k s z.beside.dooms (core_of w (hold v1).meaning (hold v1).books)) (sym core_ends)
                    (z.beside.others w));
                stays = stays_cut;
                left = z.left;
                went = record {
                  place = z.place;
                  upto = subst (λ y. Upto pure (prog.row x.state) y z.left z.place) begins z.upto;
                  looks = λ a l. z.looks a (ap (λ (y : Part). y.looked a) (sym part_ends) ∙ l);
                  locks = λ a l. z.locks a (ap (λ (y : Part). mem a y.changed) (sym part_ends) ∙ l);
                  asked = subst (λ y. All (λ (f : Conflict). AskedFor (prog.row x.state) y z.left z.place f.at.0)
                      z.beside.dooms) begins z.beside.asked;
                };
                why = subst (λ h. CutWhy k s h (prog.row x.state) (sight_of m.image w.committed
                    (transaction w.own (m.part k) x)) (core_of w m1 b1) (hold u).reserved m1.limit) halt_same
                    (cut_why w k s m1 (hold u).reserved b1 (halt_for stop (hold u1).last.halt) begins (sym core_ends)
                    (ap (λ (y : Hold S). y.reserved) un) (ap (λ (y : Hold S). y.meaning.limit) un) z);
              }

          -- of a solo one, and what the devices were told
          pub step_broke : x.solo ≡ true → StepBroke prog t e m.image w.committed (transaction w.own (m.part k) x) halt
              (devices u)
          step_broke solo =
              let y = cut.told solo in
              let undo = undoes.1 in
              record {
                told = y.told;
                tells = tells_same t e (devices u1) (devices u) y.told y.tells (ap (λ (d : DeviceState). d.input) undo)
                    (ap (λ (d : DeviceState). d.ends) undo)
                    (ap (λ (d : DeviceState). d.out) undo) (ap (λ (d : DeviceState). d.err) undo);
                cut = record {
                  left = cut.at.left;
                  place = cut.at.place;
                  upto =
                      subst (λ z. Upto pure (prog.row x.state) z cut.at.left cut.at.place) begins cut.at.upto;
                  part =
                      y.part;
                };
                fault = subst (λ h. StopOf h cut.at.left) halt_same cut.fault;
              }
