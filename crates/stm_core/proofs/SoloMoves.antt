-- A solo transaction wins, so that it is never doomed and its commit always goes. What a call of `solo` does is a list
-- of moves, and so is what comes of a step of a solo transaction that was cut: dooms of readers and a commit, or a
-- drop, and then the break.
use Rattle.std.proofs.Common.{◌≡◌, ◌≢◌, ◌<◌, ◌≤◌, ◌&&◌, not, ltb, eqb, ℕ, zero, suc, Bool, true, false, cond, List, [], ◌∷◌, ◌++◌, length, slice_get, slice_set, Option, Some, None, Result, Ok, Err, refl, sym, ◌∙◌, ap, subst, inl, inr, arith}
use Rattle.std.specs.List.{range_with_len}
use Rattle.std.proofs.lemmas.Bool.{both_ways, cond-true, false_from_ne_true, or_left}
use Rattle.py_data.specs.declared.stop.Conflict.{Conflict}
use Rattle.py_data.specs.Heap.{Heap}
use Rattle.py_data.specs.World.{World}
use Rattle.py_data.specs.Sight.{Sight, opened, mem}
use Rattle.lock_run.specs.Prog.{Prog}
use Rattle.lock_run.specs.Machine.{Machine, Steps}
use Rattle.lock_run.specs.Cut.{PartOf, RowCut, Broken}
use Rattle.lock_run.proofs.Stepping.{get_set}
use Rattle.stm_segment.specs.declared.cause.Cause.{Cause}
use Rattle.stm_core.specs.declared.solo.SoloError.{SoloError}
use Rattle.stm_core.specs.declared.solo.SoloError.TheVariants.{Over, Lost, Taken}
use Rattle.seg_store.specs.Meaning.{overlay}
use Rattle.stm_segment.specs.CoreState.{Transaction, Segment, Idle, Doomed, Running, CoreState, world_after, sight_of, with_segment, first_cause}
use Rattle.stm_segment.specs.Conflict.{side, loser, wins, IsStanding}
use Rattle.stm_core.specs.Good.{Good}
use Rattle.stm_segment.specs.inner.Hold.{LosesTo}
use Rattle.stm_core.specs.Moves.{Drops}
use Rattle.stm_core.specs.Passes.{met, doom_met, doom_one, doom_readers, after_commit, NoneWins}
use Rattle.stm_core.specs.Outside.{Outer, Kept, Inner, Solos, Breaks, IsFreeThread, OuterNext, OuterLed}
use Rattle.stm_core.specs.Solo.{SoloedFrom, Soloed, up_to_whole, SoloFailed}
use Rattle.stm_core.proofs.Kept.{set_cases, same_run, loser_runs, is_conflict}
use Rattle.stm_core.proofs.TwoPasses.{clears}
use Rattle.stm_core.proofs.Publishing.{mem_range}
use Rattle.stm_core.proofs.Afresh.{upto_afresh}
use Rattle.stm_core.proofs.OutsideLemmas.{unstepped, solo_told}
use Rattle.stm_core.proofs.InnerMoves.{outer_append, commit_led}

-- ---- who wins

-- the first pass of the commit of a solo transaction meets no reader that wins
pub solo_beats : {S : Type 0} (i : ℕ) (x : Transaction S) (c : CoreState S) → x.solo ≡ true → NoneWins i x c
solo_beats i x c solo j y a n e h = or_left x.solo (not y.solo && ltb x.begun y.begun) solo

-- a transaction that loses by its own step isn't solo
pub solo_keeps : {S : Type 0} (k : ℕ) (x : Transaction S) (f : Conflict) (c : CoreState S) → LosesTo k (side k x) f c →
    x.solo ≡ false
solo_keeps k x f c h = false_from_ne_true x.solo
    (λ s. both_ways (wins (side k x) f.writer) h.loses
    (or_left x.solo (not f.writer.solo && ltb x.begun f.writer.begun) s))

-- the loser of a conflict that stands isn't solo, and neither is the transaction that runs there
pub mortal_loses : {S : Type 0} (p : Prog S) (first : Machine S) (most : ℕ) (c : CoreState S) (f : Conflict) →
    Good p first most c → IsStanding p c f
    → ((loser f).solo ≡ false) × ((x : Transaction S) → c.segments (loser f).segment ≡ Running x → x.solo ≡ false)
mortal_loses {S} p first most c f g v =
    let r = loser_runs p first most c f g v in (
      (is_conflict p first most c f g v).mortal,
      λ x e.
          ap (λ (z : Transaction S). z.solo) (same_run x r.run (sym e ∙ r.is)) ∙ r.mortal,
    )

-- ---- a call of `solo`

no_runs : {S : Type 0} (s : Segment S) (f : Conflict) (x : Transaction S) → s ≡ Doomed f → s ≡ Running x → ⊥
no_runs s f x e g = let q : Doomed f ≡ Running x = sym e ∙ g in cc

-- what a doomed segment has in hand is dropped
pub doomed_moves : {S : Type 0} (p : Prog S) (most k : ℕ) (f : Conflict) (o o1 : Outer S) →
    o.core.segments k ≡ Doomed f → o1 ≡ record o { core = with_segment k Idle o.core } → OuterLed p most o o1
doomed_moves p most k f o o1 e q = (
  Inner (Drops k) ∷ [],
  (
    o1,
    (with_segment k Idle o.core, ((λ x w. absurd (no_runs (o.core.segments k) f x e w)), refl), tt, q),
    refl,
  ),
)

pub soloed_moves : {S : Type 0} (p : Prog S) (most k : ℕ) (r : Result (Unit {0}) SoloError) (o o1 : Outer S) →
    Soloed k r o o1 → OuterLed p most o o1
soloed_moves {S} p most k r o o1 h = go (o.core.segments k) refl r h
  where
    go : (s : Segment S) → o.core.segments k ≡ s → (q : Result (Unit {0}) SoloError) → SoloedFrom s k q o o1 →
        OuterLed p most o o1
    go (Doomed f) e (Err (Over c)) q = ([], q.1)
    go (Running x) e (Err (Over c)) q = ([], q.1)
    go (Running x) e (Err (Taken j)) q = ([], q.2)
    go (Doomed f) e (Err (Lost g)) q = doomed_moves p most k f o o1 e q.2
    go (Running x) e (Ok u) q = (Solos k x ∷ [], (o1, (q.0, e, q.1, q.2), refl))
    go Idle e q z = absurd z
    go (Doomed f) e (Err (Taken j)) z = absurd z
    go (Doomed f) e (Ok u) z = absurd z
    go (Running x) e (Err (Lost g)) z = absurd z

-- ---- a step that was cut

-- what dooms leave as it was
pub record SameBase {S : Type 0} (c d : CoreState S) : Type 0 where
  pub image : d.image ≡ c.image
  pub threads : d.threads ≡ c.threads
  pub world : d.world ≡ c.world
  pub cause : d.cause ≡ c.cause

pub doom_leaves : {S : Type 0} (i : ℕ) (x : Transaction S) (js : List ℕ) (c : CoreState S) →
    SameBase c (doom_readers i x js c)
doom_leaves i x [] c = record { image = refl; threads = refl; world = refl; cause = refl }
doom_leaves {S} i x (j ∷ js) c =
    let a = choice (eqb j i) (c.segments j) in
    let b = doom_leaves i x js (cond (eqb j i) c (doom_one i x j c (c.segments j))) in
    record {
      image = b.image ∙ a.image;
      threads = b.threads ∙ a.threads;
      world = b.world ∙ a.world;
      cause = b.cause ∙
          a.cause;
    }
  where
    by_met : (y : Transaction S) (q : Option ℕ) → SameBase c (doom_met i x j y c q)
    by_met y None = record { image = refl; threads = refl; world = refl; cause = refl }
    by_met y (Some a) = record { image = refl; threads = refl; world = refl; cause = refl }

    by_segment : (s : Segment S) → SameBase c (doom_one i x j c s)
    by_segment Idle = record { image = refl; threads = refl; world = refl; cause = refl }
    by_segment (Doomed f) = record { image = refl; threads = refl; world = refl; cause = refl }
    by_segment (Running y) = by_met y (met x.changed y.looked)

    choice : (b : Bool) (s : Segment S) → SameBase c (cond b c (doom_one i x j c s))
    choice true s = record { image = refl; threads = refl; world = refl; cause = refl }
    choice false s = by_segment s

-- Moves up to the last whole step of x lead from o to c: there the thread is free, no transaction is solo, and the
-- committed state is what x saw.
record WentUp {S : Type 0} (p : Prog S) (most : ℕ) (o : Outer S) (x : Transaction S) (c : CoreState S) : Type 0 where
  pub moved : OuterLed p most o (record o { core = c })
  pub state : slice_get c.threads x.thread ≡ Some x.state
  pub others : (j : ℕ) (y : Transaction S) → c.segments j ≡ Running y → (x.thread ≢ y.thread) × (y.solo ≡ false)
  pub image : c.image ≡ overlay o.core.image x.changes
  pub world : c.world ≡ world_after o.core.world x
  pub cause : c.cause ≡ o.core.cause

module _ {S : Type 0} (p : Prog S) (first : Machine S) (most k n : ℕ) (o : Outer S) (x : Transaction S)
    (h : Kept p first most o) (is : o.core.segments k ≡ Running x) (solo : x.solo ≡ true)
    (within : (j : ℕ) (y : Transaction S) → o.core.segments j ≡ Running y → j < n) where
  apart_from : (j : ℕ) (y : Transaction S) → j ≢ k → o.core.segments j ≡ Running y →
      (x.thread ≢ y.thread) × (y.solo ≡ false)
  apart_from j y d e = let a = h.good.apart k j x y (λ q. d (sym q)) is e in (a.threads, a.solo solo)

  dropped : x.steps ≡ 0 → WentUp p most o x (with_segment k Idle o.core)
  dropped none =
      let s = h.good.stands k x is in
      let z : Steps p 0 s.before (opened S o.core.image o.core.world) x.state s.sight =
      subst (λ i. Steps p i s.before (opened S o.core.image o.core.world) x.state s.sight) none s.steps in
      let same : (y : Transaction S) → o.core.segments k ≡ Running y → y.steps ≡ 0 = λ y e.
      ap (λ (t : Transaction S). t.steps) (same_run y x (sym e ∙ is)) ∙ none in
      let c1 = with_segment k Idle o.core in
      record {
        moved = (Inner (Drops k) ∷ [], (record o { core = c1 }, (c1, ((λ y e f. same y e), refl), tt, refl), refl));
        state = s.is ∙ ap Some (sym z.0);
        others = λ j y e. elim (set_cases k j Idle (Running y) o.core.segments e) [
          | inl q ↦ (let w = q.1 in absurd cc)
          | inr q ↦ apart_from j y q.0 q.1
        ];
        image = λ i a. (ap (λ (v : Sight S). v.heap a) (sym z.1) ∙ s.shows.view a) i;
        world = sym (unstepped p first most o.core k x h.good is solo none) ∙
            sym (cond-true x.solo x.world o.core.world solo);
        cause = refl;
      }

  was_committed : 1 ≤ x.steps → WentUp p most o x (after_commit k x (range_with_len 0 n) o.core)
  was_committed some =
      let js = range_with_len 0 n in
      let wins = solo_beats k x o.core solo in
      let r = clears p most k x js o.core is wins in
      let u = doom_readers k x js o.core in
      let d = doom_leaves k x js o.core in
      let s = h.good.stands k x is in
      let all : (j : ℕ) (y : Transaction S) → o.core.segments j ≡ Running y → mem j js ≡ true = λ j y e.
      mem_range 0 n j (omega arith) (let lt = within j y e in omega (arith, lt)) in
      record {
        moved = commit_led p most k x js o is some wins all;
        state = ap (λ (ts : List S). slice_get (slice_set ts x.thread x.state ++ x.started) x.thread) d.threads ∙
            get_set o.core.threads x.started x.thread s.before x.state s.is;
        others = λ j y e. elim (set_cases k j Idle (Running y) u.segments e) [
          | inl q ↦ (let w = q.1 in absurd cc)
          | inr q ↦ apart_from j y q.0 (r.fewer j y q.1)
        ];
        image = ap (λ (m : Heap). overlay m x.changes) d.image;
        world = ap (λ (w : World). world_after w x) d.world;
        cause = d.cause;
      }

  went_up : (i : ℕ) → x.steps ≡ i → WentUp p most o x (up_to_whole k n x i o.core)
  went_up zero e = dropped e
  went_up (suc i) e = was_committed (omega (arith, e))

  pub failed_moves : (e : Cause) (o1 : Outer S) → SoloFailed p k n e o x o1 → OuterLed p most o o1
  failed_moves e o1 f =
      let c = up_to_whole k n x x.steps o.core in
      let w = went_up x.steps refl in
      let b : Broken = record { thread = x.thread; turns = length c.history } in
      let free : IsFreeThread p c x.thread =
      record { state = x.state; is = w.state; lives = f.lives; rests = λ j y q. (w.others j y q).0 } in
      let there = upto_afresh (p.row x.state) f.cut.left (sight_of o.core.image o.core.world x)
      (opened S c.image c.world) f.cut.place w.image w.world f.cut.upto in
      let cut : RowCut (p.row x.state) (opened S c.image c.world) f.told =
      record {
        left = f.cut.left;
        place = there.0;
        upto = there.1;
        part =
            subst (λ v. PartOf f.cut.left v f.told) (sym there.2) f.cut.part;
      } in
      let gives : o1 ≡ record { core = record c { cause = first_cause c.cause e }; told = f.told; broken = Some b } =
      f.gives ∙ (λ i. record {
        core = record c { cause = first_cause (sym w.cause i) e };
        told = f.told;
        broken =
            Some b;
      }) in
      let v : Outer S = record o { core = c } in
      let breaks : OuterNext p most v (Breaks e b f.told) o1 =
      (free, cut, f.fault, (solo_told p first most k o x h is solo).0, refl, (λ j y q. (w.others j y q).1), gives)
      in (
        w.moved.0 ++ Breaks e b f.told ∷ [],
        outer_append p most o v o1 w.moved.0 (Breaks e b f.told ∷ []) w.moved.1
            (o1, breaks, refl),
      )
