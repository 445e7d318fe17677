-- What moves of one segment, and dooms of others, lead to.
use Rattle.std.proofs.Common.{◌≡◌, ◌≢◌, ◌⊎◌, ℕ, suc, ◌+◌, ◌<◌, ◌≤◌, false, true, Bool, cond, eqb, List, [], ◌∷◌, ◌++◌, map, length, Option, Some, None, All, refl, sym, ◌∙◌, ap, subst, inl, inr, append-nil, append_assoc, zero-add, arith}
use Rattle.std.specs.List.{sum_by}
use Rattle.std.proofs.lemmas.Bool.{eqb-true, eqb-false, ne_eqb, cond-true, cond-false, eq-eqb}
use Rattle.std.proofs.lemmas.List.Elements.{All-append, All-cons, All-nil, All-head, All-tail, All-weaker, Contains-append_left, Contains-append_right, Contains-push}
use Rattle.std.proofs.lemmas.List.Sums.{sum_by-append}
use Rattle.py_data.specs.declared.stop.Conflict.{Conflict}
use Rattle.py_data.specs.Heap.{Heap}
use Rattle.py_data.specs.World.{World}
use Rattle.lock_run.specs.Prog.{Prog}
use Rattle.stm_segment.specs.CoreState.{Transaction, Segment, Idle, Doomed, Running, CoreState, with_segment, with_conflict}
use Rattle.stm_segment.specs.Conflict.{side, conflict, loser, IsStanding, AsksFrom}
use Rattle.stm_core.specs.Moves.{Move, Begins, Drops, Dooms, Loses, Goes, Rests, Commits, Keeps, Next, Follows}
use Rattle.stm_core.specs.Passes.{met, doom_met, doom_one, doom_readers, NoneWins}
use Rattle.stm_core.specs.Advance.{Try, moves_of, IsStepOf, IsTry, Tried}
use Rattle.stm_core.specs.Advanced.{IsOwn, Led, StoodBetween}
use Rattle.stm_core.specs.History.{IsQuiet, IsAsked, steps_of, IsDoomed}
use Rattle.stm_core.proofs.Advanced.{none_led, one_led, led_then}
use Rattle.stm_core.proofs.Kept.{set_cases, same_run}
use Rattle.stm_core.proofs.TwoPasses.{met_some, Clears, clears}

pub quiet_none : {S : Type 0} (c : CoreState S) → IsQuiet c c
quiet_none c = record { image = refl; threads = refl; world = refl; history = refl }

pub quiet_then : {S : Type 0} (c u v : CoreState S) → IsQuiet c u → IsQuiet u v → IsQuiet c v
quiet_then c u v a b =
    record {
      image = b.image ∙ a.image;
      threads = b.threads ∙ a.threads;
      world = b.world ∙ a.world;
      history =
          b.history ∙ a.history;
    }

-- another segment, through two lists of conflicts
pub left_then : {S : Type 0} (j : ℕ) (fs gs : List Conflict) (s r t : Segment S) → (r ≡ s) ⊎ IsDoomed j fs s r
    → (t ≡ r) ⊎ IsDoomed j gs r t → (t ≡ s) ⊎ IsDoomed j (fs ++ gs) s t
left_then j fs gs s r t (inl d) (inl e) = inl (e ∙ d)
left_then j fs gs s r t (inr d) (inl e) =
    inr (record {
      conflict = d.conflict;
      new = Contains-append_left fs gs d.conflict d.new;
      y = d.y;
      ran = d.ran;
      lost = d.lost;
      now = e ∙ d.now;
    })
left_then j fs gs s r t (inl d) (inr e) =
    inr (record {
      conflict = e.conflict;
      new = Contains-append_right fs gs e.conflict e.new;
      y = e.y;
      ran = sym d ∙
          e.ran;
      lost = e.lost;
      now = e.now;
    })
left_then j fs gs s r t (inr d) (inr e) =
    absurd (let clash : Doomed d.conflict ≡ Running e.y = sym d.now ∙ e.ran in cc)

-- the transaction that loses a conflict that stands
loses_it : {S : Type 0} (p : Prog S) (c : CoreState S) (f : Conflict) → IsStanding p c f
    → (y : Transaction S) × (c.segments (loser f).segment ≡ Running y) × (loser f ≡ side (loser f).segment y)
loses_it {S} p c f st = by_side (eqb f.lost 0)
  where
    by_side : (b : Bool)
        → (y : Transaction S) × (c.segments (cond b f.writer f.other).segment ≡ Running y) ×
        (cond b f.writer f.other ≡ side (cond b f.writer f.other).segment y)
    by_side true = (st.x, st.writes, ap (λ (z : Conflict). z.writer) st.is)
    by_side false = (st.y, st.reads, ap (λ (z : Conflict). z.other) st.is)

-- the transaction x1 is x, with so many steps more
pub record IsOn {S : Type 0} (k n : ℕ) (x x1 : Transaction S) : Type 0 where
  pub same : side k x1 ≡ side k x
  pub steps : x1.steps ≡ x.steps + n

-- In the segment's hand is a transaction that was there, with so many steps more, or none that runs.
pub record GoesOn {S : Type 0} (k n : ℕ) (s s1 : Segment S) : Type 0 where
  pub on : (x1 : Transaction S) → s1 ≡ Running x1 → (x : Transaction S) × (s ≡ Running x) × IsOn k n x x1

pub nothing_runs : {S : Type 0} (x : Transaction S) → Idle ≡ Running x → ⊥
nothing_runs x e = cc

goes_same : {S : Type 0} (k : ℕ) (s : Segment S) → GoesOn k 0 s s
goes_same k s = record { on = λ x e. (x, e, record { same = refl; steps = omega arith }) }

goes_idle : {S : Type 0} (k n : ℕ) (s : Segment S) → GoesOn k n s Idle
goes_idle k n s = record { on = λ x e. absurd (nothing_runs x e) }

goes_to : {S : Type 0} (k n : ℕ) (x x1 : Transaction S) → IsOn k n x x1 → GoesOn k n (Running x) (Running x1)
goes_to {S} k n x x1 h = record { on = λ y e. (x, refl, subst (IsOn k n x) (same_run x1 y e) h) }

pub goes_then : {S : Type 0} (k m n : ℕ) (s r t : Segment S) → GoesOn k m s r → GoesOn k n r t → GoesOn k (m + n) s t
goes_then k m n s r t a b = record {
  on = λ z e.
      let u = b.on z e in
      let v = a.on u.0 u.1 in (
        v.0,
        v.1,
        record {
          same = u.2.same ∙ v.2.same;
          steps = let f = u.2.steps in let g = v.2.steps in
              omega (arith, f, g);
        },
      );
}

module _ {S : Type 0} (p : Prog S) (most k : ℕ) (M : Conflict → Type 0) where
  -- a conflict stood between two states, before which the segment did fewer steps than so many
  pub record StoodWithin (bound : ℕ) (c u : CoreState S) (f : Conflict) : Type 0 where
    pub stood : StoodBetween p most k c u f
    pub few : sum_by steps_of stood.before.moves < bound

  -- What moves of the segment, of which so many are steps, and dooms of others lead to: nothing is committed, what the
  -- segment runs went on, each new conflict is one of M, and stood after fewer steps than the bound says.
  pub record Came (steps bound : ℕ) (c u : CoreState S) : Type 0 where
    pub way : Led p most k c u
    pub count : sum_by steps_of way.moves ≡ steps
    pub goes : GoesOn k steps (c.segments k) (u.segments k)
    pub quiet : IsQuiet c u
    pub new : List Conflict
    pub conflicts : u.conflicts ≡ c.conflicts ++ new
    pub made : All M new
    pub stood : All (StoodWithin bound c u) new
    pub others : (j : ℕ) → j ≢ k → (u.segments j ≡ c.segments j) ⊎ IsDoomed j new (c.segments j) (u.segments j)

  pub came_none : (c : CoreState S) → Came 0 0 c c
  came_none c = record {
    way = none_led p most k c c refl;
    count = refl;
    goes = goes_same k (c.segments k);
    quiet = quiet_none c;
    new = [];
    conflicts = sym (append-nil c.conflicts);
    made = All-nil M;
    stood = All-nil (StoodWithin 0 c c);
    others = λ j d. inl refl;
  }

  pub came_same : (c u : CoreState S) → u ≡ c → Came 0 0 c u
  came_same c u is = subst (Came 0 0 c) (sym is) (came_none c)

  -- a move that sets the segment itself
  came_set : (n : ℕ) (m : Move S) (s : Segment S) (c u : CoreState S) → IsOwn k m → Next p most c m u →
      sum_by steps_of (m ∷ []) ≡ n → GoesOn k n (c.segments k) s → u ≡ with_segment k s c → Came n 0 c u
  came_set n m s c u o next count goes is = record {
    way = one_led p most k m c u o next;
    count = count;
    goes = subst (GoesOn k n (c.segments k))
        (sym (ap (λ (z : CoreState S). z.segments k) is ∙ cond-true (eqb k k) s (c.segments k) (eq-eqb k k refl))) goes;
    quiet = record {
      image = ap (λ (z : CoreState S). z.image) is;
      threads = ap (λ (z : CoreState S). z.threads) is;
      world = ap (λ (z : CoreState S). z.world) is;
      history = ap (λ (z : CoreState S). z.history) is;
    };
    new = [];
    conflicts = ap (λ (z : CoreState S). z.conflicts) is ∙ sym (append-nil c.conflicts);
    made = All-nil M;
    stood = All-nil (StoodWithin 0 c u);
    others = λ j d. inl (ap (λ (z : CoreState S). z.segments j) is ∙
        cond-false (eqb j k) s (c.segments j) (ne_eqb j k d));
  }

  -- what it has in hand is dropped
  pub came_drop : (c : CoreState S) → Next p most c (Drops k) (with_segment k Idle c) →
      Came 0 0 c (with_segment k Idle c)
  came_drop c next = came_set 0 (Drops k) Idle c (with_segment k Idle c) refl next refl (goes_idle k 0 (c.segments k))
      refl

  -- a move that adds a conflict that stands, and sets the loser's segment, in which nothing runs then
  abbrev came_conflict : (m : Move S) (f : Conflict) (i : ℕ) (s : Segment S) (c : CoreState S) → IsOwn k m →
      Next p most c m (with_conflict f (with_segment i s c)) → sum_by steps_of (m ∷ []) ≡ 0 → IsStanding p c f → M f →
      ((x : Transaction S) → s ≡ Running x → ⊥)
      → ((j : ℕ) → j ≢ k → (cond (eqb j i) s (c.segments j) ≡ c.segments j) ⊎ IsDoomed j (f ∷ []) (c.segments j)
      (cond (eqb j i) s (c.segments j))) → Came 0 1 c (with_conflict f (with_segment i s c))
  came_conflict m f i s c o next count st made stops others =
      let u = with_conflict f (with_segment i s c) in
      let way = one_led p most k m c u o next in
      record {
        way = way;
        count = count;
        goes = record {
          on = λ x e. elim (set_cases i k s (Running x) c.segments e) [
            | inl q ↦ absurd (stops x q.1)
            | inr q ↦ (x, q.1, record { same = refl; steps = omega arith })
          ];
        };
        quiet = record { image = refl; threads = refl; world = refl; history = refl };
        new = f ∷ [];
        conflicts = refl;
        made = All-cons M f [] made (All-nil M);
        stood = All-cons (StoodWithin 1 c u) f []
            (record {
              stood = record { state = c; before = none_led p most k c c refl; after = way; stands = st };
              few = omega arith;
            }) (All-nil (StoodWithin 1 c u));
        others = others;
      }

  pub came_doom : (f : Conflict) (c u : CoreState S) → Next p most c (Dooms f) u → M f → Came 0 1 c u
  came_doom f c u next made =
      subst (Came 0 1 c) (sym next.1) (came_conflict (Dooms f) f (loser f).segment (Doomed f) c tt (next.0, refl) refl
      next.0 made (λ x e. absurd cc) (λ j d. by_place j (eqb j (loser f).segment) refl))
    where
      by_place : (j : ℕ) (b : Bool) → eqb j (loser f).segment ≡ b
          → (cond b (Doomed f) (c.segments j) ≡ c.segments j) ⊎ IsDoomed j (f ∷ []) (c.segments j)
          (cond b (Doomed f) (c.segments j))
      by_place j false is = inl refl
      by_place j true is =
          let l = loses_it p c f next.0 in
          let same : j ≡ (loser f).segment = eqb-true j (loser f).segment is in
          inr (record {
            conflict = f;
            new = Contains-push [] f;
            y = l.0;
            ran = ap c.segments same ∙ l.1;
            lost = l.2 ∙
                ap (λ z. side z l.0) (sym same);
            now = refl;
          })

  -- the segment's own transaction loses
  abbrev pub came_loses : (f : Conflict) (c : CoreState S) → IsStanding p c f → M f → (loser f).segment ≡ k →
      Came 0 1 c (with_conflict f (with_segment k Idle c))
  came_loses f c st made own = came_conflict (Loses f) f k Idle c own
      (st, ap (λ i. with_conflict f (with_segment i Idle c)) (sym own)) refl st made (λ x e. nothing_runs x e)
      (λ j d. inl (cond-false (eqb j k) Idle (c.segments j) (ne_eqb j k d)))

  abbrev pub came_then : (a1 b1 a2 b2 b : ℕ) (c u v : CoreState S) → b1 ≤ b → a1 + b2 ≤ b → Came a1 b1 c u →
      Came a2 b2 u v → Came (a1 + a2) b c v
  came_then a1 b1 a2 b2 b c u v less sum x y = record {
    way = led_then p most k c u v x.way y.way;
    count = let q = x.count in let r = y.count in omega (arith, sum_by-append steps_of x.way.moves y.way.moves, q, r);
    goes = goes_then k a1 a2 (c.segments k) (u.segments k) (v.segments k) x.goes y.goes;
    quiet = quiet_then c u v x.quiet y.quiet;
    new = x.new ++ y.new;
    conflicts = y.conflicts ∙ ap (λ l. l ++ y.new) x.conflicts ∙ append_assoc c.conflicts x.new y.new;
    made = All-append M x.new y.new x.made y.made;
    stood = All-append (StoodWithin b c v) x.new y.new
        (All-weaker (StoodWithin b1 c u) (StoodWithin b c v) (λ f h. earlier f h) x.new x.stood)
        (All-weaker (StoodWithin b2 u v) (StoodWithin b c v) (λ f h. further f h) y.new y.stood);
    others = λ j d. left_then j x.new y.new (c.segments j) (u.segments j) (v.segments j) (x.others j d) (y.others j d);
  }
    where
      earlier : (f : Conflict) → StoodWithin b1 c u f → StoodWithin b c v f
      earlier f h =
          let s = h.stood in
          let q = h.few in
          record {
            stood = record {
              state = s.state;
              before = s.before;
              after =
                  led_then p most k s.state u v s.after y.way;
              stands = s.stands;
            };
            few = omega (arith, q, less);
          }

      further : (f : Conflict) → StoodWithin b2 u v f → StoodWithin b c v f
      further f h =
          let s = h.stood in
          let q = h.few in
          let r = x.count in
          record {
            stood = record {
              state = s.state;
              before = led_then p most k c u s.state x.way s.before;
              after = s.after;
              stands = s.stands;
            };
            few = omega (arith, sum_by-append steps_of x.way.moves s.before.moves, q, r, sum);
          }

-- the same, of more conflicts
pub came_more : {S : Type 0} (p : Prog S) (most k : ℕ) (M N : Conflict → Type 0) (a b : ℕ) (c u : CoreState S) →
    ((f : Conflict) → M f → N f) → Came p most k M a b c u → Came p most k N a b c u
came_more p most k M N a b c u more h = record {
  way = h.way;
  count = h.count;
  goes = h.goes;
  quiet = h.quiet;
  new = h.new;
  conflicts = h.conflicts;
  made = All-weaker M N more h.new h.made;
  stood = All-weaker (StoodWithin p most k M b c u) (StoodWithin p most k N b c u)
      (λ f s. record { stood = s.stood; few = s.few }) h.new h.stood;
  others = h.others;
}

-- ---- the second pass of a commit

module _ {S : Type 0} (p : Prog S) (most i : ℕ) (M : Conflict → Type 0) (x : Transaction S)
    (makes : (j : ℕ) (y : Transaction S) (a : ℕ) → M (conflict i x j y a false 1)) where
  -- none is met
  nothing : (c : CoreState S) → Came p most i M 0 1 c c
  nothing c = came_then p most i M 0 0 0 0 1 c c c (omega arith) (omega arith) (came_none p most i M c)
      (came_none p most i M c)

  -- one reader
  came_one : (c : CoreState S) → c.segments i ≡ Running x → NoneWins i x c → (j : ℕ) → j ≢ i → (s : Segment S) →
      c.segments j ≡ s → Came p most i M 0 1 c (doom_one i x j c s)
  came_one c mine none j ne s is = go s is
    where
      by_met : (y : Transaction S) → c.segments j ≡ Running y → (o : Option ℕ) → met x.changed y.looked ≡ o →
          Came p most i M 0 1 c (doom_met i x j y c o)
      by_met y on None e = nothing c
      by_met y on (Some a) e =
          let f = conflict i x j y a false 1 in
          let r = met_some x.changed y.looked a e in
          let st : IsStanding p c f = record {
            x = x;
            y = y;
            writes = mine;
            reads = on;
            is = refl;
            differ = λ q.
                ne (sym q);
            held = r.0;
            met = r.1;
            lost = omega arith;
            loses = none j y a ne on e;
          } in
          came_doom p most i M f c (with_conflict f (with_segment j (Doomed f) c)) (st, refl) (makes j y a)

      go : (s : Segment S) → c.segments j ≡ s → Came p most i M 0 1 c (doom_one i x j c s)
      go Idle on = nothing c
      go (Doomed f) on = nothing c
      go (Running y) on = by_met y on (met x.changed y.looked) refl

  pub came_dooms : (js : List ℕ) (c : CoreState S) → c.segments i ≡ Running x → NoneWins i x c →
      Came p most i M 0 1 c (doom_readers i x js c)
  came_dooms [] c mine none = nothing c
  came_dooms (j ∷ js) c mine none =
      let u = cond (eqb j i) c (doom_one i x j c (c.segments j)) in
      let one : Clears p most i x (j ∷ []) c u = clears p most i x (j ∷ []) c mine none in
      came_then p most i M 0 1 0 1 1 c u (doom_readers i x js u) (omega arith) (omega arith) (by_place (eqb j i) refl)
      (came_dooms js u one.mine (λ n y a d e. none n y a d (one.fewer n y e)))
    where
      by_place : (b : Bool) → eqb j i ≡ b → Came p most i M 0 1 c (cond b c (doom_one i x j c (c.segments j)))
      by_place true is = nothing c
      by_place false is = came_one c mine none j (eqb-false j i is) (c.segments j) refl

-- ---- steps that were tried

-- of so many tries, so many were done
abbrev pub did : Bool → ℕ → ℕ
did true n = n
did false n = 0

did_more : (done : Bool) (n : ℕ) → did done 1 + did done n ≡ did done (suc n)
did_more true n = omega arith
did_more false n = refl

did_few : (done : Bool) (n : ℕ) → did done 1 + n ≤ suc n
did_few true n = omega arith
did_few false n = omega arith

follows_split : {S : Type 0} (p : Prog S) (most : ℕ) (ms ns : List (Move S)) (c v : CoreState S) →
    Follows p most c (ms ++ ns) v → (u : CoreState S) × Follows p most c ms u × Follows p most u ns v
follows_split p most [] ns c v f = (c, refl, f)
follows_split p most (m ∷ ms) ns c v f = let r = follows_split p most ms ns f.0 v f.2 in (r.0, (f.0, f.1, r.1), r.2)

module _ {S : Type 0} (p : Prog S) (most k : ℕ) where
  -- the dooms of a try
  came_won : (fs : List Conflict) (c u : CoreState S) → All (AsksFrom k 0) fs → Follows p most c (map Dooms fs) u →
      Came p most k (IsAsked k) 0 1 c u
  came_won [] c u h f = came_then p most k (IsAsked k) 0 0 0 0 1 c u u (omega arith) (omega arith)
      (came_same p most k (IsAsked k) c u f) (came_none p most k (IsAsked k) u)
  came_won (g ∷ fs) c u h f =
      let a = All-head (AsksFrom k 0) g fs h in
      came_then p most k (IsAsked k) 0 1 0 1 1 c f.0 u (omega arith) (omega arith)
      (came_doom p most k (IsAsked k) g c f.0 f.1 (a.segment, a.asks))
      (came_won fs f.0 u (All-tail (AsksFrom k 0) g fs h) f.2)

  -- its move
  came_step : (image : Heap) (w : World) (done : Bool) (fs : List Conflict) (move : Move S) (c u : CoreState S) →
      IsStepOf p image w k fs move done → Next p most c move u → Came p most k (IsAsked k) (did done 1) 0 c u
  came_step image w true fs (Goes i x x1) c u h n = came_set p most k (IsAsked k) 1 (Goes i x x1) (Running x1) c u h.0
      n refl
      (subst (λ s. GoesOn k 1 s (Running x1)) (sym n.0 ∙ ap c.segments h.0)
      (goes_to k 1 x x1 (record {
        same = λ j.
            record { segment = k; thread = n.2.thread j; begun = n.2.begun j; solo = n.2.solo j };
        steps = let q =
            n.2.steps in omega (arith, q);
      })))
      (n.4 ∙ ap (λ z. with_segment z (Running x1) c) h.0)
  came_step image w false fs (Rests i x x1) c u h n = came_set p most k (IsAsked k) 0 (Rests i x x1) (Running x1) c u
      h.0 n refl
      (subst (λ s. GoesOn k 0 s (Running x1)) (sym n.0 ∙ ap c.segments h.0)
      (goes_to k 0 x x1 (record {
        same = λ j.
            record { segment = k; thread = n.1.thread j; begun = n.1.begun j; solo = n.1.solo j };
        steps = let q =
            n.1.steps in omega (arith, q);
      })))
      (n.3 ∙ ap (λ z. with_segment z (Running x1) c) h.0)
  came_step image w false fs (Goes i x x1) c u h n = absurd h
  came_step image w true fs (Rests i x x1) c u h n = absurd h
  came_step image w done fs (Dooms f) c u h n = absurd h
  came_step image w done fs (Begins i t q) c u h n = absurd h
  came_step image w done fs (Drops i) c u h n = absurd h
  came_step image w done fs (Loses f) c u h n = absurd h
  came_step image w done fs (Commits i x) c u h n = absurd h
  came_step image w done fs (Keeps y) c u h n = absurd h

  came_tries : (image : Heap) (w : World) (done : Bool) (ts : List (Try S)) (c u : CoreState S) →
      All (IsTry p image w k done) ts → Follows p most c (moves_of ts) u
      → Came p most k (IsAsked k) (did done (length ts)) (length ts) c u
  came_tries image w true [] c u h f = came_same p most k (IsAsked k) c u f
  came_tries image w false [] c u h f = came_same p most k (IsAsked k) c u f
  came_tries image w done (t ∷ ts) c u h f =
      let a = All-head (IsTry p image w k done) t ts h in
      let r = follows_split p most (map Dooms t.dooms) (t.move ∷ moves_of ts) c u f in
      let n = length ts in
      let won = came_won t.dooms c r.0 a.wins r.1 in
      let step = came_step image w done t.dooms t.move r.0 r.2.0 a.step r.2.1 in
      let first = subst (λ z. Came p most k (IsAsked k) z 1 c r.2.0) (zero-add (did done 1))
      (came_then p most k (IsAsked k) 0 1 (did done 1) 0 1 c r.0 r.2.0 (omega arith) (omega arith) won step) in
      let rest = came_tries image w done ts r.2.0 u (All-tail (IsTry p image w k done) t ts h) r.2.2 in
      subst (λ z. Came p most k (IsAsked k) z (suc n) c u) (did_more done n)
      (came_then p most k (IsAsked k) (did done 1) 1 (did done n) n (suc n) c r.2.0 u (omega arith)
      (did_few done n) first rest)

  pub came_tried : (done : Bool) (n : ℕ) (c u : CoreState S) → Tried p most k done n c u →
      Came p most k (IsAsked k) (did done n) n c u
  came_tried done n c u t = subst (λ z. Came p most k (IsAsked k) (did done z) z c u) t.count
      (came_tries c.image c.world done t.tries c u t.kinds t.follows)
