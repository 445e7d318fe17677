-- Moves of transactions are moves of the core with what lies outside of it, and what the devices were told by them.
use Rattle.std.proofs.Common.{◌≡◌, ◌≢◌, ◌≤◌, ℕ, Bool, true, false, cond, eqb, List, [], ◌∷◌, ◌++◌, map, Option, Some, None, All, refl, sym, ◌∙◌, ap, subst, inl, inr, arith}
use Rattle.std.proofs.lemmas.Bool.{cases_Bool, eqb-false, eq-eqb, ne_eqb, cond-true, cond-false}
use Rattle.std.proofs.lemmas.List.Elements.{All-append, All-cons, All-nil, All-head, All-tail}
use Rattle.py_data.specs.declared.stop.Side.{Side}
use Rattle.py_data.specs.declared.stop.Conflict.{Conflict}
use Rattle.py_data.specs.Heap.{Heap}
use Rattle.py_data.specs.World.{World}
use Rattle.py_data.specs.Sight.{mem}
use Rattle.lock_run.specs.Prog.{Prog}
use Rattle.stm_segment.specs.declared.cause.Cause.TheVariants.{Full, ReadFault, WriteFault, ErrFault, OutOfMemory}
use Rattle.stm_segment.specs.CoreState.{Transaction, Segment, Idle, Doomed, Running, CoreState, set_segment, with_segment, with_conflict}
use Rattle.stm_segment.specs.Conflict.{conflict, loser, IsStanding, AsksFrom}
use Rattle.stm_core.specs.Moves.{Move, Begins, Drops, Dooms, Loses, Goes, Rests, Commits, Keeps, Next, Follows}
use Rattle.stm_core.specs.Passes.{met, doom_met, doom_one, doom_readers, after_commit, NoneWins}
use Rattle.stm_core.specs.Advance.{Try, moves_of, IsStepOf, IsTry, Tried, Gone}
use Rattle.stm_core.specs.Advanced.{IsOwn, Led}
use Rattle.stm_core.specs.Outside.{Outer, told_after, told_through, IsInner, OuterMove, Inner, OuterFollows, OuterLed}
use Rattle.stm_core.proofs.Kept.{set_cases, same_run}
use Rattle.stm_core.proofs.TwoPasses.{clears, follows_append, met_none, met_some}

-- ---- they are moves

pub outer_append : {S : Type 0} (p : Prog S) (most : ℕ) (o u v : Outer S) (ms ns : List (OuterMove S)) →
    OuterFollows p most o ms u → OuterFollows p most u ns v → OuterFollows p most o (ms ++ ns) v
outer_append p most o u v [] ns f g = subst (λ w. OuterFollows p most w ns v) f g
outer_append p most o u v (m ∷ ms) ns f g = (f.0, f.1, outer_append p most f.0 u v ms ns f.2 g)

-- a cause that is kept by a move of transactions is no device's
always_inner : {S : Type 0} (p : Prog S) (most : ℕ) (c c1 : CoreState S) (m : Move S) → Next p most c m c1 → IsInner m
always_inner p most c c1 (Keeps (Full r n l)) h = refl
always_inner p most c c1 (Keeps OutOfMemory) h = refl
always_inner p most c c1 (Keeps ReadFault) h = absurd h.5
always_inner p most c c1 (Keeps WriteFault) h = absurd h.5
always_inner p most c c1 (Keeps ErrFault) h = absurd h.5
always_inner p most c c1 (Begins i t q) h = tt
always_inner p most c c1 (Drops i) h = tt
always_inner p most c c1 (Dooms f) h = tt
always_inner p most c c1 (Loses f) h = tt
always_inner p most c c1 (Goes i x x1) h = tt
always_inner p most c c1 (Rests i x x1) h = tt
always_inner p most c c1 (Commits i x) h = tt

pub inner_follows : {S : Type 0} (p : Prog S) (most : ℕ) (o : Outer S) (ms : List (Move S)) (c1 : CoreState S) →
    Follows p most o.core ms c1 → OuterFollows p most o (map Inner ms)
    (record o { core = c1; told = told_through ms o.told })
inner_follows p most o [] c1 f = λ i. record o { core = f i }
inner_follows {S} p most o (m ∷ ms) c1 f =
    let u : Outer S = record o { core = f.0; told = told_after m o.told } in
    (u, (f.0, f.1, always_inner p most o.core f.0 m f.1, refl), inner_follows p most u ms c1 f.2)

-- such moves, by which the devices were told this
inner_led : {S : Type 0} (p : Prog S) (most : ℕ) (o : Outer S) (ms : List (Move S)) (c1 : CoreState S) (w : World) →
    Follows p most o.core ms c1 → told_through ms o.told ≡ w → OuterLed p most o (record o { core = c1; told = w })
inner_led p most o ms c1 w f e = (
  map Inner ms,
  subst (λ t. OuterFollows p most o (map Inner ms) (record o { core = c1; told = t })) e
      (inner_follows p most o ms c1 f),
)

-- ---- a segment whose transaction isn't solo tells the devices nothing

module _ {S : Type 0} (p : Prog S) (most k : ℕ) where
  abbrev Mortal : CoreState S → Type 0
  Mortal c = (x : Transaction S) → c.segments k ≡ Running x → x.solo ≡ false

  set_mortal : (i : ℕ) (s : Segment S) (c c1 : CoreState S) → c1.segments ≡ set_segment i s c.segments →
      ((x : Transaction S) → s ≡ Running x → x.solo ≡ false) → Mortal c → Mortal c1
  set_mortal i s c c1 e here h x q = elim
      (set_cases i k s (Running x) c.segments (ap (λ (g : ℕ → Segment S). g k) (sym e) ∙ q)) [
        | inl a ↦ here x a.1
        | inr a ↦ h x a.1
      ]

  -- the transaction of segment k in the place of one that isn't solo
  still_mortal : (i : ℕ) (x x1 : Transaction S) (c : CoreState S) → i ≡ k → c.segments i ≡ Running x →
      x1.solo ≡ x.solo → Mortal c → (y : Transaction S) → Running x1 ≡ Running y → y.solo ≡ false
  still_mortal i x x1 c o is same h y e = ap (λ (z : Transaction S). z.solo) (sym (same_run x1 y e)) ∙
      (same ∙ h x (ap c.segments (sym o) ∙ is))

  mortal_next : (m : Move S) (c c1 : CoreState S) → IsOwn k m → Next p most c m c1 → Mortal c → Mortal c1
  mortal_next (Begins i t q) c c1 o n h = absurd o
  mortal_next (Commits i x) c c1 o n h = absurd o
  mortal_next (Drops i) c c1 o n h = set_mortal i Idle c c1 (ap (λ (z : CoreState S). z.segments) n.1)
      (λ x e. absurd cc) h
  mortal_next (Dooms f) c c1 o n h = set_mortal (loser f).segment (Doomed f) c c1
      (ap (λ (z : CoreState S). z.segments) n.1) (λ x e. absurd cc) h
  mortal_next (Loses f) c c1 o n h = set_mortal (loser f).segment Idle c c1 (ap (λ (z : CoreState S). z.segments) n.1)
      (λ x e. absurd cc) h
  mortal_next (Goes i x x1) c c1 o n h = set_mortal i (Running x1) c c1 (ap (λ (z : CoreState S). z.segments) n.4)
      (still_mortal i x x1 c o n.0 n.2.solo h) h
  mortal_next (Rests i x x1) c c1 o n h = set_mortal i (Running x1) c c1 (ap (λ (z : CoreState S). z.segments) n.3)
      (still_mortal i x x1 c o n.0 n.1.solo h) h
  mortal_next (Keeps e) c c1 o n h = λ x q. h x (ap (λ (z : CoreState S). z.segments k) (sym n.6) ∙ q)

  mortal_told : (m : Move S) (c c1 : CoreState S) (w : World) → IsOwn k m → Next p most c m c1 → Mortal c →
      told_after m w ≡ w
  mortal_told (Begins i t q) c c1 w o n h = refl
  mortal_told (Commits i x) c c1 w o n h = refl
  mortal_told (Drops i) c c1 w o n h = refl
  mortal_told (Dooms f) c c1 w o n h = refl
  mortal_told (Loses f) c c1 w o n h = refl
  mortal_told (Goes i x x1) c c1 w o n h = cond-false x.solo x1.world w (h x (ap c.segments (sym o) ∙ n.0))
  mortal_told (Rests i x x1) c c1 w o n h = refl
  mortal_told (Keeps e) c c1 w o n h = refl

  mortal_through : (ms : List (Move S)) (c c1 : CoreState S) (w : World) → All (IsOwn k) ms → Follows p most c ms c1 →
      Mortal c → told_through ms w ≡ w
  mortal_through [] c c1 w o f h = refl
  mortal_through (m ∷ ms) c c1 w o f h =
      let one = All-head (IsOwn k) m ms o in
      mortal_through ms f.0 c1 (told_after m w) (All-tail (IsOwn k) m ms o) f.2 (mortal_next m c f.0 one f.1 h) ∙
      mortal_told m c f.0 w one f.1 h

  pub mortal_led : (o : Outer S) (c1 : CoreState S) → Led p most k o.core c1 → Mortal o.core →
      OuterLed p most o (record o { core = c1 })
  mortal_led o c1 l h = inner_led p most o l.moves c1 o.told l.follows
      (mortal_through l.moves o.core c1 o.told l.own l.follows h)

-- ---- steps of one segment

module _ {S : Type 0} (p : Prog S) (most k : ℕ) where
  -- a doom that the segment won, or a step of it
  abbrev pub IsGoing : Move S → Type 0
  IsGoing (Dooms f) = AsksFrom k 0 f
  IsGoing (Goes i x x1) = i ≡ k
  IsGoing (Rests i x x1) = i ≡ k
  IsGoing _ = ⊥

  -- A transaction runs on the segment, which is solo or not. Of a solo one the devices were told its world, and
  -- otherwise `first`.
  record Tells (solo : Bool) (first : World) (c : CoreState S) (w : World) : Type 0 where
    pub runs : Transaction S
    pub is : c.segments k ≡ Running runs
    pub same : runs.solo ≡ solo
    pub told : w ≡ cond runs.solo runs.world first

  -- the segment k was set to another state of the transaction
  tells_set : (solo : Bool) (first : World) (i : ℕ) (x x1 : Transaction S) (c c1 : CoreState S) (t t1 : World) →
      i ≡ k → c.segments i ≡ Running x → c1 ≡ with_segment i (Running x1) c → x1.solo ≡ x.solo
      → Tells solo first c t → (t ≡ cond x.solo x.world first → t1 ≡ cond x1.solo x1.world first) →
      Tells solo first c1 t1
  tells_set solo first i x x1 c c1 t t1 o is e same h told =
      let mine : h.runs ≡ x = same_run h.runs x (sym h.is ∙ (ap c.segments (sym o) ∙ is)) in
      record {
        runs = x1;
        is = ap (λ (z : CoreState S). z.segments k) e ∙
            cond-true (eqb k i) (Running x1) (c.segments k) (ap (eqb k) o ∙ eq-eqb k k refl);
        same = same ∙ (ap (λ (z : Transaction S). z.solo) (sym mine) ∙ h.same);
        told = told (h.told ∙ ap (λ (z : Transaction S). cond z.solo z.world first) mine);
      }

  tells_next : (solo : Bool) (first : World) (m : Move S) (c c1 : CoreState S) (t : World) → IsGoing m →
      Next p most c m c1 → Tells solo first c t → Tells solo first c1 (told_after m t)
  tells_next solo first (Dooms f) c c1 t g n h =
      let l : loser f ≡ f.writer = cond-true (eqb f.lost 0) f.writer f.other (ap (λ i. eqb i 0) g.lost_is) in
      let d : k ≢ (loser f).segment = λ e. n.0.differ (sym (e ∙ ap (λ (z : Side). z.segment) l) ∙ sym g.segment) in
      record {
        runs = h.runs;
        is = ap (λ (z : CoreState S). z.segments k) n.1 ∙
            (cond-false (eqb k (loser f).segment) (Doomed f) (c.segments k) (ne_eqb k (loser f).segment d) ∙ h.is);
        same = h.same;
        told = h.told;
      }
  tells_next solo first (Goes i x x1) c c1 t g n h = tells_set solo first i x x1 c c1 t (cond x.solo x1.world t) g n.0
      n.4 n.2.solo h (λ e. elim (cases_Bool x.solo) [
        | inl y ↦ cond-true x.solo x1.world t y ∙ sym (cond-true x1.solo x1.world first (n.2.solo ∙ y))
        | inr y ↦ cond-false x.solo x1.world t y ∙
            (e ∙ (cond-false x.solo x.world first y ∙ sym (cond-false x1.solo x1.world first (n.2.solo ∙ y))))
      ])
  tells_next solo first (Rests i x x1) c c1 t g n h = tells_set solo first i x x1 c c1 t t g n.0 n.3 n.1.solo h
      (λ e. e ∙ sym (λ i. cond (n.1.solo i) (n.1.world i) first))
  tells_next solo first (Begins i t q) c c1 w g n h = absurd g
  tells_next solo first (Drops i) c c1 w g n h = absurd g
  tells_next solo first (Loses f) c c1 w g n h = absurd g
  tells_next solo first (Commits i x) c c1 w g n h = absurd g
  tells_next solo first (Keeps e) c c1 w g n h = absurd g

  tells_through : (solo : Bool) (first : World) (ms : List (Move S)) (c c1 : CoreState S) (t : World) →
      All IsGoing ms → Follows p most c ms c1 → Tells solo first c t → Tells solo first c1 (told_through ms t)
  tells_through solo first [] c c1 t g f h = subst (λ z. Tells solo first z t) (sym f) h
  tells_through solo first (m ∷ ms) c c1 t g f h =
      tells_through solo first ms f.0 c1 (told_after m t) (All-tail IsGoing m ms g) f.2
      (tells_next solo first m c f.0 t (All-head IsGoing m ms g) f.1 h)

  -- the moves of tries
  dooms_going : (fs : List Conflict) → All (AsksFrom k 0) fs → All IsGoing (map Dooms fs)
  dooms_going [] h = All-nil IsGoing
  dooms_going (f ∷ fs) h = All-cons IsGoing (Dooms f) (map Dooms fs) (All-head (AsksFrom k 0) f fs h)
      (dooms_going fs (All-tail (AsksFrom k 0) f fs h))

  step_going : (image : Heap) (w : World) (done : Bool) (fs : List Conflict) (m : Move S) →
      IsStepOf p image w k fs m done → IsGoing m
  step_going image w true fs (Goes i x x1) h = h.0
  step_going image w false fs (Goes i x x1) h = absurd h
  step_going image w true fs (Rests i x x1) h = absurd h
  step_going image w false fs (Rests i x x1) h = h.0
  step_going image w done fs (Dooms f) h = absurd h
  step_going image w done fs (Begins i t q) h = absurd h
  step_going image w done fs (Drops i) h = absurd h
  step_going image w done fs (Loses f) h = absurd h
  step_going image w done fs (Commits i x) h = absurd h
  step_going image w done fs (Keeps e) h = absurd h

  tries_going : (image : Heap) (w : World) (done : Bool) (ts : List (Try S)) → All (IsTry p image w k done) ts →
      All IsGoing (moves_of ts)
  tries_going image w done [] h = All-nil IsGoing
  tries_going image w done (t ∷ ts) h =
      let one = All-head (IsTry p image w k done) t ts h in
      All-append IsGoing (map Dooms t.dooms) (t.move ∷ moves_of ts) (dooms_going t.dooms one.wins)
      (All-cons IsGoing t.move (moves_of ts) (step_going image w done t.dooms t.move one.step)
      (tries_going image w done ts (All-tail (IsTry p image w k done) t ts h)))

  -- The transaction stays solo or not, and of a solo one the devices were told its world, as they were before.
  pub going_led : (o : Outer S) (ms : List (Move S)) (c1 : CoreState S) (x x1 : Transaction S) → All IsGoing ms →
      Follows p most o.core ms c1 → o.core.segments k ≡ Running x → (x.solo ≡ true → o.told ≡ x.world) →
      c1.segments k ≡ Running x1
      → (x1.solo ≡ x.solo) × OuterLed p most o (record o { core = c1; told = cond x1.solo x1.world o.told })
  going_led o ms c1 x x1 g f is told is1 =
      let begin : o.told ≡ cond x.solo x.world o.told = elim (cases_Bool x.solo) [
        | inl y ↦ told y ∙ sym (cond-true x.solo x.world o.told y)
        | inr y ↦ sym (cond-false x.solo x.world o.told y)
      ] in
      let e = tells_through x.solo o.told ms o.core c1 o.told g f
      (record { runs = x; is = is; same = refl; told = begin }) in
      let same : e.runs ≡ x1 = same_run e.runs x1 (sym e.is ∙ is1) in (
        ap (λ (z : Transaction S). z.solo) (sym same) ∙ e.same,
        inner_led p most o ms c1 (cond x1.solo x1.world o.told) f
            (e.told ∙ ap (λ (z : Transaction S). cond z.solo z.world o.told) same),
      )

  pub tried_led : (done : Bool) (n : ℕ) (o : Outer S) (c1 : CoreState S) (x x1 : Transaction S) →
      Tried p most k done n o.core c1 → o.core.segments k ≡ Running x → (x.solo ≡ true → o.told ≡ x.world) →
      c1.segments k ≡ Running x1
      → (x1.solo ≡ x.solo) × OuterLed p most o (record o { core = c1; told = cond x1.solo x1.world o.told })
  tried_led done n o c1 x x1 t is told is1 =
      going_led o (moves_of t.tries) c1 x x1 (tries_going o.core.image o.core.world done t.tries t.kinds) t.follows is
      told is1

  pub gone_led : (n more : ℕ) (o : Outer S) (c1 : CoreState S) (x x1 : Transaction S) → Gone p most k n more o.core c1
      → o.core.segments k ≡ Running x → (x.solo ≡ true → o.told ≡ x.world) → c1.segments k ≡ Running x1
      → (x1.solo ≡ x.solo) × OuterLed p most o (record o { core = c1; told = cond x1.solo x1.world o.told })
  gone_led n more o c1 x x1 t is told is1 =
      let a = t.steps in
      let b = t.rest in
      going_led o (moves_of a.tries ++ moves_of b.tries) c1 x x1
      (All-append IsGoing (moves_of a.tries) (moves_of b.tries)
      (tries_going o.core.image o.core.world true a.tries a.kinds)
      (tries_going t.reached.image t.reached.world false b.tries b.kinds))
      (follows_append p most o.core t.reached c1 (moves_of a.tries) (moves_of b.tries) a.follows b.follows) is told is1

-- ---- a commit tells nothing

module _ {S : Type 0} (p : Prog S) (most i : ℕ) (x : Transaction S) where
  abbrev Cleared : Outer S → CoreState S → Type 0
  Cleared o c = OuterLed p most o (record o { core = c })

  doom_led : (j : ℕ) (o : Outer S) → o.core.segments i ≡ Running x → NoneWins i x o.core → j ≢ i → (s : Segment S) →
      o.core.segments j ≡ s → Cleared o (doom_one i x j o.core s)
  doom_led j o mine wins ne Idle is = ([], refl)
  doom_led j o mine wins ne (Doomed f) is = ([], refl)
  doom_led j o mine wins ne (Running z) is = go (met x.changed z.looked) refl
    where
      go : (q : Option ℕ) → met x.changed z.looked ≡ q → Cleared o (doom_met i x j z o.core q)
      go None e = ([], refl)
      go (Some a) e =
          let f = conflict i x j z a false 1 in
          let r = met_some x.changed z.looked a e in
          let c1 : CoreState S = with_conflict f (with_segment j (Doomed f) o.core) in
          let stands : IsStanding p o.core f =
          record {
            x = x;
            y = z;
            writes = mine;
            reads = is;
            is = refl;
            differ = λ q. ne (sym q);
            held = r.0;
            met =
                r.1;
            lost = omega arith;
            loses = wins j z a ne is e;
          } in
          inner_led p most o (Dooms f ∷ []) c1 o.told (c1, (stands, refl), refl) refl

  dooms_led : (js : List ℕ) (o : Outer S) → o.core.segments i ≡ Running x → NoneWins i x o.core →
      Cleared o (doom_readers i x js o.core)
  dooms_led [] o mine wins = ([], refl)
  dooms_led (j ∷ js) o mine wins =
      let u : CoreState S = cond (eqb j i) o.core (doom_one i x j o.core (o.core.segments j)) in
      let v : Outer S = record o { core = u } in
      let r = clears p most i x (j ∷ []) o.core mine wins in
      let one : Cleared o u = elim (cases_Bool (eqb j i)) [
        | inl y ↦ subst (λ b. Cleared o (cond b o.core (doom_one i x j o.core (o.core.segments j)))) (sym y) ([], refl)
        | inr n ↦ subst (λ b. Cleared o (cond b o.core (doom_one i x j o.core (o.core.segments j)))) (sym n)
            (doom_led j o mine wins (eqb-false j i n) (o.core.segments j) refl)
      ] in
      let rest = dooms_led js v r.mine (λ l y a d e. wins l y a d (r.fewer l y e)) in
      (one.0 ++ rest.0, outer_append p most o v (record o { core = doom_readers i x js u }) one.0 rest.0 one.1 rest.1)

  pub commit_led : (js : List ℕ) (o : Outer S) → o.core.segments i ≡ Running x → 1 ≤ x.steps → NoneWins i x o.core →
      ((j : ℕ) (y : Transaction S) → o.core.segments j ≡ Running y → mem j js ≡ true)
      → Cleared o (after_commit i x js o.core)
  commit_led js o mine some wins all =
      let r = clears p most i x js o.core mine wins in
      let u = doom_readers i x js o.core in
      let c1 = after_commit i x js o.core in
      let last : Next p most u (Commits i x) c1 = (
        r.mine,
        some,
        λ j y d e a m. met_none x.changed y.looked a (r.unread j y (all j y (r.fewer j y e)) d e) m,
        refl,
      ) in
      let ds = dooms_led js o mine wins in
      let end = inner_led p most (record o { core = u }) (Commits i x ∷ []) c1 o.told (c1, last, refl) refl in
      (ds.0 ++ end.0, outer_append p most o (record o { core = u }) (record o { core = c1 }) ds.0 end.0 ds.1 end.1)
