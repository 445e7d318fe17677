-- A call of advance is a list of moves, and leaves all but its own segment alone.
use Rattle.std.proofs.Common.{◌≡◌, ◌≢◌, ◌<◌, ℕ, zero, suc, false, true, Bool, cond, eqb, List, [], ◌∷◌, ◌++◌, map, Result, Ok, Err, All, refl, sym, ◌∙◌, ap, subst, inl, inr, append-nil, append_assoc, arith}
use Rattle.std.specs.List.{range_with_len}
use Rattle.std.proofs.lemmas.Bool.{cases_Bool, cases_eq, both_ways, ne_eqb, cond-true, cond-false}
use Rattle.std.proofs.lemmas.List.Elements.{All-append, All-cons, All-nil, All-head, All-tail, All-weaker, Contains-append_left, Contains-append_right, Contains-push}
use Rattle.py_data.specs.declared.stop.Side.{Side}
use Rattle.py_data.specs.declared.stop.Conflict.{Conflict}
use Rattle.py_data.specs.Heap.{Heap}
use Rattle.py_data.specs.World.{World}
use Rattle.py_data.specs.Sight.{opened}
use Rattle.lock_run.specs.declared.client.Life.{Life}
use Rattle.lock_run.specs.declared.client.Life.TheVariants.{Lives, Ended as EndedLife, Failed as FailedLife}
use Rattle.lock_run.specs.Prog.{Prog}
use Rattle.lock_run.specs.Machine.{Machine}
use Rattle.lock_run.proofs.StepsMirror.{steps_grows}
use Rattle.stm_core.specs.declared.answers.Advance.{Advance}
use Rattle.stm_core.specs.declared.answers.Advance.TheVariants.{Ran, Waits, Ended, NeedSolo}
use Rattle.stm_core.specs.declared.answers.AdvanceError.{AdvanceError}
use Rattle.stm_core.specs.declared.answers.AdvanceError.TheVariants.{Lost, Failed}
use Rattle.stm_segment.specs.declared.cause.Cause.{Cause}
use Rattle.stm_segment.specs.declared.cause.Cause.TheVariants.{Full, ReadFault, WriteFault, ErrFault, OutOfMemory}
use Rattle.stm_segment.specs.CoreState.{IsShort, Transaction, Segment, Idle, Doomed, Running, CoreState, sight_of, world_after, set_segment, with_segment, with_conflict, first_cause}
use Rattle.stm_segment.specs.Conflict.{loser, IsStanding, AsksFrom}
use Rattle.stm_core.specs.Good.{Stands, Good}
use Rattle.stm_core.specs.Moves.{ComesToWant, IsMetBy, published, Move, Begins, Drops, Dooms, Loses, Goes, Rests, Commits, Keeps, Next, Follows}
use Rattle.stm_core.specs.Passes.{doom_readers, after_commit}
use Rattle.stm_segment.specs.Asking.{Reaches, AsksRoom}
use Rattle.stm_core.specs.Advance.{Try, moves_of, IsStepOf, IsTry, Tried, Gone}
use Rattle.stm_core.specs.Advanced.{IsLeft, StoodBetween, OnlyOwn, IsOwn, CountsDone, tried_after, IsStepCause, with_cause, Fails, Ends, StepsTaken, AdvancedFrom, Advanced, EndsSo, Led}
use Rattle.stm_core.specs.Outside.{Outer, Kept, Inner, OuterLed}
use Rattle.stm_core.specs.Solo.{up_to_whole}
use Rattle.stm_core.proofs.Afresh.{reaches_afresh, room_of_heap}
use Rattle.stm_core.proofs.TwoPasses.{follows_append, clears}
use Rattle.stm_core.proofs.Kept.{set_cases, same_run}
use Rattle.stm_core.proofs.OutsideLemmas.{kept_after, solo_told}
use Rattle.stm_core.proofs.InnerMoves.{outer_append, mortal_led, gone_led as outer_gone}
use Rattle.stm_core.proofs.SoloMoves.{doom_leaves, solo_beats, failed_moves}

-- a transaction that stands, and whose next step comes to a call that wants words, comes to it from the committed state
comes_to_want : {S : Type 0} (p : Prog S) (most : ℕ) (u : CoreState S) (x : Transaction S) (n : ℕ) →
    (st : Stands p u.image u.threads u.world x) → IsShort most (suc x.steps) → p.life x.state ≡ Lives
    → Reaches (p.row x.state) (sight_of u.image u.world x) (AsksRoom n) → ComesToWant p most u.image u.world st.before n
comes_to_want {S} p most u x n st short lives r =
    let grown = steps_grows p x.steps st.before (opened S u.image u.world) x.state st.sight st.steps in
    let same : st.sight.world ≡ world_after u.world x = elim (cases_Bool x.solo) [
      | inl y ↦ st.shows.world_is y ∙ sym (cond-true x.solo x.world u.world y)
      | inr m ↦ grown.world (st.shows.quiet m) ∙ sym (cond-false x.solo x.world u.world m)
    ] in
    record {
      done = x.steps;
      after = x.state;
      sight = st.sight;
      short = short;
      steps = st.steps;
      lives = lives;
      wants = reaches_afresh (p.row x.state) (sight_of u.image u.world x) st.sight (AsksRoom n) (room_of_heap n)
          (λ i a. st.shows.view a i) same r;
    }

-- after both passes of a commit the cause that is kept is the first one still
pub cut_kept : {S : Type 0} (k : ℕ) (x : Transaction S) (js : List ℕ) (u : CoreState S) (y : Cause) →
    record (after_commit k x js u) { cause = first_cause u.cause y } ≡ with_cause y
    (published k x (doom_readers k x js u))
cut_kept k x js u y = λ i. record (after_commit k x js u) { cause = first_cause (sym (doom_leaves k x js u).cause i) y }

module _ {S : Type 0} (p : Prog S) (most k : ℕ) where
  -- ---- what such moves leave alone

  abbrev pub none_led : (c c1 : CoreState S) → c1 ≡ c → Led p most k c c1
  none_led c c1 e = record { moves = []; follows = e; own = All-nil (IsOwn k) }

  abbrev pub one_led : (mv : Move S) (c c1 : CoreState S) → IsOwn k mv → Next p most c mv c1 → Led p most k c c1
  one_led mv c c1 o n = record {
    moves = mv ∷ [];
    follows = (c1, n, refl);
    own =
        All-cons (IsOwn k) mv [] o (All-nil (IsOwn k));
  }

  abbrev pub led_then : (c u v : CoreState S) → Led p most k c u → Led p most k u v → Led p most k c v
  led_then c u v a b = record {
    moves = a.moves ++ b.moves;
    follows =
        follows_append p most c u v a.moves b.moves a.follows b.follows;
    own =
        All-append (IsOwn k) a.moves b.moves a.own b.own;
  }

  abbrev Stood : CoreState S → CoreState S → Conflict → Type 0
  Stood c c1 f = StoodBetween p most k c c1 f

  -- nothing was done
  own_none : (c : CoreState S) → OnlyOwn p most k c c
  own_none c = record {
    image = refl;
    threads = refl;
    world = refl;
    history = refl;
    begun = refl;
    last = refl;
    new =
        [];
    conflicts = sym (append-nil c.conflicts);
    stood = All-nil (Stood c c);
    others = λ j n. inl refl;
  }

  -- the segment itself was set
  own_set : (s : Segment S) (c c1 : CoreState S) → c1 ≡ with_segment k s c → OnlyOwn p most k c c1
  own_set s c c1 e = record {
    image = ap (λ (z : CoreState S). z.image) e;
    threads = ap (λ (z : CoreState S). z.threads) e;
    world = ap (λ (z : CoreState S). z.world) e;
    history = ap (λ (z : CoreState S). z.history) e;
    begun = ap (λ (z : CoreState S). z.begun) e;
    last = ap (λ (z : CoreState S). z.last) e;
    new = [];
    conflicts = ap (λ (z : CoreState S). z.conflicts) e ∙ sym (append-nil c.conflicts);
    stood = All-nil (Stood c c1);
    others = λ j n. inl (ap (λ (z : CoreState S). z.segments j) e ∙
        cond-false (eqb j k) s (c.segments j) (ne_eqb j k n));
  }

  -- a conflict that stands was added, and its loser's segment set
  own_conflict : (f : Conflict) (s : Segment S) (c c1 : CoreState S) → IsStanding p c f → Led p most k c c1 →
      c1 ≡ with_conflict f (with_segment (loser f).segment s c)
      → ((j : ℕ) → j ≢ k → IsLeft (f ∷ []) (c.segments j) (cond (eqb j (loser f).segment) s (c.segments j))) →
      OnlyOwn p most k c c1
  own_conflict f s c c1 st on e left = record {
    image = ap (λ (z : CoreState S). z.image) e;
    threads = ap (λ (z : CoreState S). z.threads) e;
    world = ap (λ (z : CoreState S). z.world) e;
    history = ap (λ (z : CoreState S). z.history) e;
    begun = ap (λ (z : CoreState S). z.begun) e;
    last = ap (λ (z : CoreState S). z.last) e;
    new = f ∷ [];
    conflicts = ap (λ (z : CoreState S). z.conflicts) e;
    stood = All-cons (Stood c c1) f [] (record { state = c; before = none_led c c refl; after = on; stands = st })
        (All-nil (Stood c c1));
    others = λ j n. subst (IsLeft (f ∷ []) (c.segments j)) (sym (ap (λ (z : CoreState S). z.segments j) e)) (left j n);
  }

  -- one such move
  own_next : (mv : Move S) (c c1 : CoreState S) → IsOwn k mv → Next p most c mv c1 → OnlyOwn p most k c c1
  own_next (Begins i t q) c c1 o n = absurd o
  own_next (Commits i x) c c1 o n = absurd o
  own_next (Drops i) c c1 o n = own_set Idle c c1 (n.1 ∙ ap (λ z. with_segment z Idle c) o)
  own_next (Goes i x x1) c c1 o n = own_set (Running x1) c c1 (n.4 ∙ ap (λ z. with_segment z (Running x1) c) o)
  own_next (Rests i x x1) c c1 o n = own_set (Running x1) c c1 (n.3 ∙ ap (λ z. with_segment z (Running x1) c) o)
  own_next (Dooms f) c c1 o n = own_conflict f (Doomed f) c c1 n.0 (one_led (Dooms f) c c1 o n) n.1
      (λ j d. go j (eqb j (loser f).segment))
    where
      go : (j : ℕ) (b : Bool) → IsLeft (f ∷ []) (c.segments j) (cond b (Doomed f) (c.segments j))
      go j true = inr (f, Contains-push [] f, refl)
      go j false = inl refl
  own_next (Loses f) c c1 o n = own_conflict f Idle c c1 n.0 (one_led (Loses f) c c1 o n) n.1
      (λ j d. inl (cond-false (eqb j (loser f).segment) Idle (c.segments j)
      (ne_eqb j (loser f).segment (λ e. d (e ∙ o)))))
  own_next (Keeps y) c c1 o n =
      let e = n.6 in
      record {
        image = ap (λ (z : CoreState S). z.image) e;
        threads = ap (λ (z : CoreState S). z.threads) e;
        world = ap (λ (z : CoreState S). z.world) e;
        history = ap (λ (z : CoreState S). z.history) e;
        begun = ap (λ (z : CoreState S). z.begun) e;
        last = ap (λ (z : CoreState S). z.last) e;
        new = [];
        conflicts = ap (λ (z : CoreState S). z.conflicts) e ∙ sym (append-nil c.conflicts);
        stood = All-nil (Stood c c1);
        others = λ j d. inl (ap (λ (z : CoreState S). z.segments j) e);
      }

  -- some moves, and then more
  own_then : (c u v : CoreState S) → Led p most k c u → Led p most k u v → OnlyOwn p most k c u → OnlyOwn p most k u v
      → OnlyOwn p most k c v
  own_then c u v lu lv a b = record {
    image = b.image ∙ a.image;
    threads = b.threads ∙ a.threads;
    world = b.world ∙ a.world;
    history = b.history ∙ a.history;
    begun = b.begun ∙ a.begun;
    last = b.last ∙ a.last;
    new = a.new ++ b.new;
    conflicts = b.conflicts ∙ ap (λ l. l ++ b.new) a.conflicts ∙ append_assoc c.conflicts a.new b.new;
    stood = All-append (Stood c v) a.new b.new
        (All-weaker (Stood c u) (Stood c v)
        (λ f h. record {
          state = h.state;
          before = h.before;
          after = led_then h.state u v h.after lv;
          stands =
              h.stands;
        }) a.new a.stood)
        (All-weaker (Stood u v) (Stood c v)
        (λ f h. record {
          state = h.state;
          before = led_then c u h.state lu h.before;
          after = h.after;
          stands =
              h.stands;
        }) b.new b.stood);
    others = λ j n. left (c.segments j) (u.segments j) (v.segments j) (a.others j n) (b.others j n);
  }
    where
      left : (s r t : Segment S) → IsLeft a.new s r → IsLeft b.new r t → IsLeft (a.new ++ b.new) s t
      left s r t x y = elim y [
        | inl e ↦ elim x [ inl d ↦ inl (e ∙ d) | inr d ↦ inr (d.0, Contains-append_left a.new b.new d.0 d.1, e ∙ d.2) ]
        | inr d ↦ inr (d.0, Contains-append_right a.new b.new d.0 d.1, d.2)
      ]

  own_follows : (ms : List (Move S)) (c c1 : CoreState S) → All (IsOwn k) ms → Follows p most c ms c1 →
      OnlyOwn p most k c c1
  own_follows [] c c1 o f = subst (OnlyOwn p most k c) (sym f) (own_none c)
  own_follows (m ∷ ms) c c1 o f =
      own_then c f.0 c1 (one_led m c f.0 (All-head (IsOwn k) m ms o) f.1)
      (record { moves = ms; follows = f.2; own = All-tail (IsOwn k) m ms o })
      (own_next m c f.0 (All-head (IsOwn k) m ms o) f.1) (own_follows ms f.0 c1 (All-tail (IsOwn k) m ms o) f.2)

  -- ---- a call is such moves

  step_own : (image : Heap) (w : World) (done : Bool) (fs : List Conflict) (mv : Move S) →
      IsStepOf p image w k fs mv done → IsOwn k mv
  step_own image w true fs (Goes i x x1) h = h.0
  step_own image w false fs (Goes i x x1) h = absurd h
  step_own image w true fs (Rests i x x1) h = absurd h
  step_own image w false fs (Rests i x x1) h = h.0
  step_own image w done fs (Dooms f) h = absurd h
  step_own image w done fs (Begins i t q) h = absurd h
  step_own image w done fs (Drops i) h = absurd h
  step_own image w done fs (Loses f) h = absurd h
  step_own image w done fs (Commits i x) h = absurd h
  step_own image w done fs (Keeps e) h = absurd h

  dooms_own : (fs : List Conflict) → All (IsOwn {S = S} k) (map Dooms fs)
  dooms_own [] = All-nil (IsOwn k)
  dooms_own (f ∷ fs) = All-cons (IsOwn {S = S} k) (Dooms f) (map Dooms fs) tt (dooms_own fs)

  tries_own : (image : Heap) (w : World) (done : Bool) (ts : List (Try S)) → All (IsTry p image w k done) ts →
      All (IsOwn k) (moves_of ts)
  tries_own image w done [] h = All-nil (IsOwn k)
  tries_own image w done (t ∷ ts) h = All-append (IsOwn k) (map Dooms t.dooms) (t.move ∷ moves_of ts)
      (dooms_own t.dooms)
      (All-cons (IsOwn k) t.move (moves_of ts)
      (step_own image w done t.dooms t.move (All-head (IsTry p image w k done) t ts h).step)
      (tries_own image w done ts (All-tail (IsTry p image w k done) t ts h)))

  tried_led : (done : Bool) (n : ℕ) (c c1 : CoreState S) → Tried p most k done n c c1 → Led p most k c c1
  tried_led done n c c1 g = record {
    moves = moves_of g.tries;
    follows = g.follows;
    own =
        tries_own c.image c.world done g.tries g.kinds;
  }

  pub gone_led : (n more : ℕ) (c c1 : CoreState S) → Gone p most k n more c c1 → Led p most k c c1
  gone_led n more c c1 g = led_then c g.reached c1 (tried_led true n c g.reached g.steps)
      (tried_led false more g.reached c1 g.rest)

  -- such moves leave all but the segment itself alone
  pub led_own : (c c1 : CoreState S) → Led p most k c c1 → OnlyOwn p most k c c1
  led_own c c1 l = own_follows l.moves c c1 l.own l.follows

  -- ---- what comes after the steps

  -- how a call went: such moves lead to a state, and there it ended so
  abbrev pub WentSo : CoreState S → CoreState S → Type 0
  WentSo c c1 = (u : CoreState S) × Led p most k c u × EndsSo k u c1

  -- a conflict that the segment lost by its request is its own
  pub asker_loses : (f : Conflict) → AsksFrom k 1 f → (loser f).segment ≡ k
  asker_loses f asks = ap (λ (z : Side). z.segment)
      (cond-false (eqb f.lost 0) f.writer f.other (ap (λ n. eqb n 0) asks.lost_is)) ∙ asks.segment

  lost_next : (u c1 : CoreState S) (f : Conflict) → IsStanding p u f → AsksFrom k 1 f →
      c1 ≡ with_conflict f (with_segment k Idle u) → Next p most u (Loses f) c1
  lost_next u c1 f st asks is = (st, is ∙ ap (λ i. with_conflict f (with_segment i Idle u)) (sym (asker_loses f asks)))

  -- a transaction that isn't solo, or has done no step, may be dropped
  pub may_drop : (u : CoreState S) (x : Transaction S) → u.segments k ≡ Running x → (x.solo ≡ true → x.steps ≡ 0) →
      Next p most u (Drops k) (with_segment k Idle u)
  may_drop u x runs none = (λ z e s. fits z (same_run x z (sym runs ∙ e)) s, refl)
    where
      fits : (z : Transaction S) → x ≡ z → z.solo ≡ true → z.steps ≡ 0
      fits z same s = ap (λ (q : Transaction S). q.steps) (sym same) ∙
          none (ap (λ (q : Transaction S). q.solo) same ∙ s)

  drop_led : (u : CoreState S) (x : Transaction S) → u.segments k ≡ Running x → (x.solo ≡ true → x.steps ≡ 0) →
      Led p most k u (with_segment k Idle u)
  drop_led u x runs none = one_led (Drops k) u (with_segment k Idle u) refl (may_drop u x runs none)

  ends_so : (n reserved limit : ℕ) (u : Outer S) (x : Transaction S) (r : Result Advance AdvanceError) (o1 : Outer S) →
      u.core.segments k ≡ Running x → Ends p k n reserved limit u x r o1 → WentSo u.core o1.core
  ends_so n reserved limit u x (Ok (Ran i)) o1 runs h =
      (u.core, none_led u.core u.core refl, inl (ap (λ (z : Outer S). z.core) h.1))
  ends_so n reserved limit u x (Ok (Waits i)) o1 runs h =
      (u.core, none_led u.core u.core refl, inl (ap (λ (z : Outer S). z.core) h.2))
  ends_so n reserved limit u x (Ok (Ended i)) o1 runs h =
      (u.core, none_led u.core u.core refl, inl (ap (λ (z : Outer S). z.core) h.1))
  ends_so n reserved limit u x (Ok (NeedSolo i)) o1 runs h =
      (u.core, none_led u.core u.core refl, inl (ap (λ (z : Outer S). z.core) h.3))
  ends_so n reserved limit u x (Err (Lost f)) o1 runs h = (
    o1.core,
    one_led (Loses f) u.core o1.core (asker_loses f h.3)
        (lost_next u.core o1.core f h.2 h.3 (ap (λ (z : Outer S). z.core) h.4)),
    inl refl,
  )
  ends_so n reserved limit u x (Err (Failed y)) o1 runs h = fails x.solo refl h.1
    where
      whole : x.solo ≡ true → (i : ℕ) → x.steps ≡ i →
          o1.core ≡ record (up_to_whole k n x i u.core) { cause = first_cause u.core.cause y } → WentSo u.core o1.core
      whole solo zero steps is = (with_segment k Idle u.core, drop_led u.core x runs (λ s. steps), inr (y, inl is))
      whole solo (suc i) steps is =
          let js = range_with_len 0 n in
          let r = clears p most k x js u.core runs (solo_beats k x u.core solo) in
          let d = doom_readers k x js u.core in (
            d,
            record { moves = r.moves; follows = r.follows; own = r.own },
            inr (y, inr (x, r.mine, solo, omega (arith, steps), is ∙ cut_kept k x js u.core y)),
          )

      fails : (b : Bool) → x.solo ≡ b → Fails b p k n reserved limit y u x o1 → WentSo u.core o1.core
      fails false e f = (
        with_segment k Idle u.core,
        drop_led u.core x runs (λ s. absurd (both_ways x.solo e s)),
        inr (y, inl (ap (λ (z : Outer S). z.core) f.1)),
      )
      fails true e f = whole e x.steps refl (ap (λ (z : Outer S). z.core) f.1.gives)

  went_from : (n m reserved limit : ℕ) (o : Outer S) (r : Result Advance AdvanceError) (o1 : Outer S) (s : Segment S) →
      o.core.segments k ≡ s → AdvancedFrom s p most k n m reserved limit o r o1 → WentSo o.core o1.core
  went_from n m reserved limit o r o1 Idle is a = absurd a
  went_from n m reserved limit o r o1 (Doomed f) is a = (
    o1.core,
    one_led (Drops k) o.core o1.core refl
        (λ z e s. absurd (let q : Doomed f ≡ Running z = sym is ∙ e in cc), ap (λ (z : Outer S). z.core) a.1),
    inl refl,
  )
  went_from n m reserved limit o r o1 (Running x) is a = go (p.life x.state) refl
    where
      ended : (p.life x.state ≢ Lives) → WentSo o.core o1.core
      ended d = (o.core, none_led o.core o.core refl, inl (ap (λ (z : Outer S). z.core) (a.0 d).1))

      taken : StepsTaken p most k n m reserved limit o r o1 → WentSo o.core o1.core
      taken t =
          let e = ends_so n reserved limit (record o { core = t.before; told = cond t.last.solo t.last.world o.told })
          t.last r o1 t.runs t.ends in
          (e.0, led_then o.core t.before e.0 (gone_led t.steps (tried_after r) o.core t.before t.gone) e.1, e.2)

      go : (l : Life) → p.life x.state ≡ l → WentSo o.core o1.core
      go Lives e = taken (a.1 e)
      go EndedLife e = ended (λ h. let q : EndedLife ≡ Lives = sym e ∙ h in cc)
      go FailedLife e = ended (λ h. let q : FailedLife ≡ Lives = sym e ∙ h in cc)

  -- a call is moves of its segment, and then an end
  pub advanced_so : (n m reserved limit : ℕ) (o o1 : Outer S) (r : Result Advance AdvanceError) →
      Advanced p most k n m reserved limit o r o1 → WentSo o.core o1.core
  advanced_so n m reserved limit o o1 r a = went_from n m reserved limit o r o1 (o.core.segments k) refl a

-- ---- with what the devices were told

module _ {S : Type 0} (p : Prog S) (first : Machine S) (most k n : ℕ) where
  -- Moves led to u, where x runs on segment k, and no segment from n on runs anything.
  record Reached (o u : Outer S) (x : Transaction S) : Type 0 where
    kept : Kept p first most u
    moved : OuterLed p most o u
    runs : u.core.segments k ≡ Running x
    below : (j : ℕ) (y : Transaction S) → u.core.segments j ≡ Running y → j < n

  -- no other segment began to run
  still_below : (c c1 : CoreState S) → OnlyOwn p most k c c1 → k < n →
      ((j : ℕ) (y : Transaction S) → c.segments j ≡ Running y → j < n) → (j : ℕ) (y : Transaction S) →
      c1.segments j ≡ Running y → j < n
  still_below c c1 own mine below j y e = elim (cases_eq j k) [
    | inl same ↦ subst (λ i. i < n) (sym same) mine
    | inr d ↦ elim (own.others j d) [
      | inl q ↦ below j y (sym q ∙ e)
      | inr q ↦ absurd (let w : Doomed q.0 ≡ Running y = sym q.2 ∙ e in cc)
    ]
  ]

  taken_reached : (m reserved limit : ℕ) (o : Outer S) (x : Transaction S) (r : Result Advance AdvanceError)
      (o1 : Outer S) → Reached o o x → (t : StepsTaken p most k n m reserved limit o r o1)
      → Reached o (record o { core = t.before; told = cond t.last.solo t.last.world o.told }) t.last
  taken_reached m reserved limit o x r o1 at t =
      let u : Outer S = record o { core = t.before; told = cond t.last.solo t.last.world o.told } in
      let moved = (outer_gone p most k t.steps (tried_after r) o t.before x t.last t.gone at.runs
      (λ s. (solo_told p first most k o x at.kept at.runs s).1) t.runs).1 in
      record {
        kept = kept_after p first most o u moved.0 at.kept moved.1;
        moved = moved;
        runs = t.runs;
        below = still_below o.core t.before
            (led_own p most k o.core t.before (gone_led p most k t.steps (tried_after r) o.core t.before t.gone))
            (at.below k x at.runs) at.below;
      }

  -- dropped, where it isn't solo, and a cause kept that its thread met
  pub dropped_led : (u : CoreState S) (x : Transaction S) (y : Cause) (g : Good p first most u)
      (runs : u.segments k ≡ Running x) → x.solo ≡ false
      → IsMetBy p most (with_segment k Idle u) (g.stands k x runs).before y →
      Led p most k u (with_cause y (with_segment k Idle u))
  dropped_led u x y g runs mortal met =
      let v = with_segment k Idle u in
      let st = g.stands k x runs in
      let keeps : Next p most v (Keeps y) (with_cause y v) =
      (x.thread, st.before, st.is, st.lives, λ j z e. rests j z e, met, refl) in
      led_then p most k u v (with_cause y v) (drop_led p most k u x runs (λ s. absurd (both_ways x.solo mortal s)))
      (one_led p most k (Keeps y) v (with_cause y v) tt keeps)
    where
      rests : (j : ℕ) (z : Transaction S) → set_segment k Idle u.segments j ≡ Running z → x.thread ≢ z.thread
      rests j z e = elim (set_cases k j Idle (Running z) u.segments e) [
        | inl q ↦ absurd (let d : Idle ≡ Running z = q.1 in cc)
        | inr q ↦ (g.apart k j x z (λ d. q.0 (sym d)) runs q.1).threads
      ]

  -- so it is for a cause that its next step met
  failed_led : (reserved limit : ℕ) (u : CoreState S) (x : Transaction S) (y : Cause) → Good p first most u →
      u.segments k ≡ Running x → x.solo ≡ false → IsShort most (suc x.steps) → p.life x.state ≡ Lives
      → IsStepCause p u x reserved limit y → Led p most k u (with_cause y (with_segment k Idle u))
  failed_led reserved limit u x y g runs mortal short lives why = dropped_led u x y g runs mortal (met_by y why)
    where
      met_by : (e : Cause) → IsStepCause p u x reserved limit e →
          IsMetBy p most (with_segment k Idle u) (g.stands k x runs).before e
      met_by (Full i a l) w = (comes_to_want p most u x a (g.stands k x runs) short lives w.0, w.3)
      met_by OutOfMemory w = tt
      met_by ReadFault w = w
      met_by WriteFault w = w
      met_by ErrFault w = w

  ends_moved : (reserved limit : ℕ) (o u : Outer S) (x : Transaction S) (r : Result Advance AdvanceError)
      (o1 : Outer S) → Reached o u x → ((e : AdvanceError) → r ≡ Err e → IsShort most (suc x.steps))
      → Ends p k n reserved limit u x r o1 → OuterLed p most u o1
  ends_moved reserved limit o u x (Ok (Ran i)) o1 at room h = ([], h.1)
  ends_moved reserved limit o u x (Ok (Waits i)) o1 at room h = ([], h.2)
  ends_moved reserved limit o u x (Ok (Ended i)) o1 at room h = ([], h.1)
  ends_moved reserved limit o u x (Ok (NeedSolo i)) o1 at room h = ([], h.3)
  ends_moved reserved limit o u x (Err (Lost f)) o1 at room h = (
    Inner (Loses f) ∷ [],
    (
      o1,
      (
        with_conflict f (with_segment k Idle u.core),
        lost_next p most k u.core (with_conflict f (with_segment k Idle u.core)) f h.2 h.3 refl,
        tt,
        h.4,
      ),
      refl,
    ),
  )
  ends_moved reserved limit o u x (Err (Failed y)) o1 at room h = fails x.solo refl h.1
    where
      mortal : x.solo ≡ false → (z : Transaction S) → u.core.segments k ≡ Running z → z.solo ≡ false
      mortal e z is = ap (λ (q : Transaction S). q.solo) (sym (same_run x z (sym at.runs ∙ is))) ∙ e

      fails : (b : Bool) → x.solo ≡ b → Fails b p k n reserved limit y u x o1 → OuterLed p most u o1
      fails false e f =
          let c1 = with_cause y (with_segment k Idle u.core) in
          subst (OuterLed p most u) (sym f.1)
          (mortal_led p most k u c1 (failed_led reserved limit u.core x y at.kept.good at.runs e
          (room (Failed y) refl) h.0 f.0) (mortal e))
      fails true e f = failed_moves p first most k n u x at.kept at.runs e at.below y o1 f.1

  moved_from : (m reserved limit : ℕ) (o : Outer S) (r : Result Advance AdvanceError) (o1 : Outer S) (s : Segment S) →
      o.core.segments k ≡ s → Kept p first most o →
      ((j : ℕ) (y : Transaction S) → o.core.segments j ≡ Running y → j < n)
      → AdvancedFrom s p most k n m reserved limit o r o1 → OuterLed p most o o1
  moved_from m reserved limit o r o1 Idle is h below a = absurd a
  moved_from m reserved limit o r o1 (Doomed f) is h below a = (
    Inner (Drops k) ∷ [],
    (
      o1,
      (
        with_segment k Idle o.core,
        ((λ x e s. absurd (let q : Doomed f ≡ Running x = sym is ∙ e in cc)), refl),
        tt,
        a.1,
      ),
      refl,
    ),
  )
  moved_from m reserved limit o r o1 (Running x) is h below a = go (p.life x.state) refl
    where
      ended : (p.life x.state ≢ Lives) → OuterLed p most o o1
      ended d = ([], (a.0 d).1)

      taken : StepsTaken p most k n m reserved limit o r o1 → OuterLed p most o o1
      taken t =
          let u : Outer S = record o { core = t.before; told = cond t.last.solo t.last.world o.told } in
          let at = taken_reached m reserved limit o x r o1
          (record { kept = h; moved = ([], refl); runs = is; below = below }) t in
          let end = ends_moved reserved limit o u t.last r o1 at
          (λ e q. t.room (subst (CountsDone m t.steps) q t.count)) t.ends in
          (at.moved.0 ++ end.0, outer_append p most o u o1 at.moved.0 end.0 at.moved.1 end.1)

      go : (l : Life) → p.life x.state ≡ l → OuterLed p most o o1
      go Lives e = taken (a.1 e)
      go EndedLife e = ended (λ q. let w : EndedLife ≡ Lives = sym e ∙ q in cc)
      go FailedLife e = ended (λ q. let w : FailedLife ≡ Lives = sym e ∙ q in cc)

  -- a call is a list of moves of the core with what the devices were told
  pub advanced_led : (m reserved limit : ℕ) (o o1 : Outer S) (r : Result Advance AdvanceError) → Kept p first most o →
      ((j : ℕ) (y : Transaction S) → o.core.segments j ≡ Running y → j < n)
      → Advanced p most k n m reserved limit o r o1 → OuterLed p most o o1
  advanced_led m reserved limit o o1 r h below a = moved_from m reserved limit o r o1 (o.core.segments k) refl h below a
