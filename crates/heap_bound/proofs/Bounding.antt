-- The bound: from the moments at which extents were in use, and the step that wanted words, to a full heap's limit.
use Rattle.std.proofs.Common.{◌≡◌, inl, inr, ℕ, zero, suc, ◌+◌, ◌-◌, ◌*◌, ◌^◌, ◌<◌, ◌≤◌, false, List, [], ◌∷◌, ◌++◌, None, refl, sym, ap, subst, ◌∙◌, arith, append_assoc}
use Rattle.std.specs.List.{sum_by}
use Rattle.std.proofs.lemmas.Bool.{or_parts}
use Rattle.std.proofs.lemmas.Nat.{mul-le}
use Rattle.std.proofs.lemmas.List.Sums.{sum_by-append, sum_by-le-sum_by}
use Rattle.py_data.specs.Heap.{Heap}
use Rattle.py_data.specs.Collection.{places}
use Rattle.py_data.specs.Sight.{Sight, mem, opened}
use Rattle.py_data.proofs.Grow.{mem_append}
use Rattle.lock_run.specs.declared.turn.Turn.{Turn}
use Rattle.lock_run.specs.Prog.{Prog}
use Rattle.lock_run.specs.Machine.{Machine, DoesTurn, Runs}
use Rattle.seg_store.specs.Extents.{extents_of, words_in, words_at}
use Rattle.seg_store.specs.Sums.{sum_below, asked, gained}
use Rattle.heap_bound.specs.Growth.{words_of, names_in, BoundsGrowth}
use Rattle.heap_bound.specs.Moments.{More, Came, IsAsked, InUse, IsWanted, Once}
use Rattle.heap_bound.proofs.Summing.{below_le, below_scaled, below_names, by_add, words_le, words_add, words_zero, words_each, words_one, words_below, words_names}
use Rattle.heap_bound.proofs.Larger.{steps_more, runs_more}
use Rattle.heap_bound.proofs.Reaching.{steps_none}

-- ---- the names of a run

turn_none : {S : Type 0} (p : Prog S) (m m1 : Machine S) (t : Turn) (a : ℕ) → DoesTurn p m t m1 → m.heap a ≡ None →
    mem a (places t.names) ≡ false → m1.heap a ≡ None
turn_none {S} p m m1 t a d e f = subst (λ (z : Machine S). z.heap a ≡ None) (sym d.gives)
    (steps_none p t.steps d.before m d.after d.sight a d.steps e (ap (mem a) d.names ∙ f))

runs_none : {S : Type 0} (p : Prog S) (ts : List Turn) (m m1 : Machine S) (a : ℕ) → Runs p m ts m1 → m.heap a ≡ None →
    mem a (names_in ts) ≡ false → m1.heap a ≡ None
runs_none {S} p [] m m1 a r e f = subst (λ (z : Machine S). z.heap a ≡ None) (sym r) e
runs_none p (t ∷ ts) m m1 a r e f =
    let q = or_parts (mem a (places t.names)) (mem a (names_in ts))
    (sym (mem_append a (places t.names) (names_in ts)) ∙ f) in
    runs_none p ts r.0 m1 a r.2 (turn_none p m r.0 t a r.1 e q.0) q.1

names_append : (ts us : List Turn) → names_in (ts ++ us) ≡ names_in ts ++ names_in us
names_append [] us = refl
names_append (t ∷ ts) us = ap (λ l. places t.names ++ l) (names_append ts us) ∙
    sym (append_assoc (places t.names) (names_in ts) (names_in us))

-- ---- the words of one heap beyond those of another

-- at one address
beyond : Heap → Heap → ℕ → ℕ
beyond h g a = words_in (λ c. extents_of (g a) c - extents_of (h a) c)

beyond_is : (h g : Heap) → More h g → (a : ℕ) → beyond h g a + words_at (h a) ≡ words_at (g a)
unfolding beyond
beyond_is h g m a =
    sym (words_add (λ c. extents_of (g a) c - extents_of (h a) c) (extents_of (h a)))
    ∙ ap words_in (λ i c. back (extents_of (h a) c) (extents_of (g a) c) (m.more a c) i)
  where
    back : (x y : ℕ) → x ≤ y → (y - x) + x ≡ y
    back x y l = omega arith

-- over names, of which the first are those of the smaller heap's records
beyond_names : (h g : Heap) (front made : List ℕ) (bound : ℕ) → More h g → words_of g (front ++ made) ≤
    words_of h front + bound → sum_by (beyond h g) (front ++ made) ≤ bound
beyond_names h g front made bound m l =
    let a : sum_by (beyond h g) (front ++ made) + words_of h (front ++ made) ≡ words_of g (front ++ made) =
    sym (by_add (front ++ made) (beyond h g) (λ a. words_at (h a))) ∙
    ap (λ f. sum_by f (front ++ made)) (λ i a. beyond_is h g m a i) in
    let b : words_of h (front ++ made) ≡ words_of h front + words_of h made =
    sum_by-append (λ a. words_at (h a)) front made in
    omega arith

none_beyond : (h g : Heap) (a : ℕ) → g a ≡ None → beyond h g a ≡ 0
unfolding beyond
none_beyond h g a e = ap (λ o. words_in (λ c. extents_of o c - extents_of (h a) c)) e ∙
    ap words_in (λ i c. nothing (extents_of (h a) c) i) ∙ words_zero
  where
    nothing : (x : ℕ) → 0 - x ≡ 0
    nothing x = omega arith

gained_le : (n c : ℕ) (h g f : Heap) → More g f → gained n h g c ≤ gained n h f c
gained_le n c h g f m = below_le n (λ a. extents_of (g a) c - extents_of (h a) c)
    (λ a. extents_of (f a) c - extents_of (h a) c) (λ a l. less (extents_of (g a) c) (extents_of (f a) c)
    (extents_of (h a) c) (m.more a c))
  where
    less : (x y z : ℕ) → x ≤ y → x - z ≤ y - z
    less x y z l = omega arith

module _ {S : Type 0} (p : Prog S) (start : Machine S) (empty : (a : ℕ) → start.heap a ≡ None) (most : ℕ)
    (history : List Turn) (bound : ℕ) (bounds : BoundsGrowth p start most history bound) where
  -- whole steps after a front of the history gain no more than the bound
  came_bound : (front rest : List Turn) (m : Machine S) → history ≡ front ++ rest → Runs p start front m →
      (n : ℕ) (s : Sight S) → Came p most m s → words_in (gained n m.heap s.heap) ≤ bound
  unfolding beyond
  came_bound front rest m is run n s w =
      let more = steps_more p w.n w.before (opened S m.heap m.world) w.after s w.steps in
      let b = bounds.each front m s (record {
        rest = rest;
        is = is;
        run = run;
        thread = w.thread;
        before = w.before;
        there = w.is;
        n = w.n;
        short = w.short;
        after = w.after;
        steps = w.steps;
      }) in
      let names : sum_by (beyond m.heap s.heap) (names_in front ++ s.made) ≤ bound =
      beyond_names m.heap s.heap (names_in front) s.made bound more b in
      let below : sum_below n (beyond m.heap s.heap) ≤ sum_by (beyond m.heap s.heap) (names_in front ++ s.made) =
      below_names (names_in front ++ s.made) n (beyond m.heap s.heap) (λ a f.
      let q = or_parts (mem a (names_in front)) (mem a s.made) (sym (mem_append a (names_in front) s.made) ∙ f) in
      none_beyond m.heap s.heap a (steps_none p w.n w.before m w.after s a w.steps
      (runs_none p front start m a run (empty a) q.0) q.1)) in
      let all : words_in (gained n m.heap s.heap) ≡ sum_below n (beyond m.heap s.heap) =
      words_below n (λ a c. extents_of (s.heap a) c - extents_of (m.heap a) c) in
      chain (words_in (gained n m.heap s.heap)) (sum_below n (beyond m.heap s.heap))
      (sum_by (beyond m.heap s.heap) (names_in front ++ s.made)) bound all below names
    where
      chain : (b c d e : ℕ) → b ≡ c → c ≤ d → d ≤ e → b ≤ e
      chain b c d e y z w = omega arith

  -- and so does what no more extents has
  asked_bound : (front rest : List Turn) (m : Machine S) → history ≡ front ++ rest → Runs p start front m →
      (h : Heap) (n : ℕ) → IsAsked p most m h → words_in (gained n m.heap h) ≤ bound
  unfolding sum_below
  asked_bound front rest m is run h n o = elim o [
    | inl e ↦ subst (λ x. x ≤ bound) (sym (ap words_in (λ i c. none_gained n m.heap h c e i) ∙ words_zero))
        (omega arith)
    | inr w ↦ le_trans (words_in (gained n m.heap h)) (words_in (gained n m.heap w.0.heap)) bound
        (words_le (gained n m.heap h) (gained n m.heap w.0.heap)
        (λ c. times (2 ^ c) (gained n m.heap h c) (gained n m.heap w.0.heap c)
        (gained_le n c m.heap h w.0.heap w.2)))
        (came_bound front rest m is run n w.0 w.1)
  ]
    where
      le_trans : (x y z : ℕ) → x ≤ y → y ≤ z → x ≤ z
      le_trans x y z a b = omega arith

      times : (k x y : ℕ) → x ≤ y → k * x ≤ k * y
      times k x y l = mul-le k x k y (omega arith) l

      none_gained : (n : ℕ) (h g : Heap) (c : ℕ) → g ≡ h → gained n h g c ≡ 0
      none_gained zero h g c e = refl
      none_gained (suc n) h g c e = let ih : gained n h g c ≡ 0 = none_gained n h g c e in
          let q : extents_of (g n) c ≡ extents_of (h n) c = ap (λ (z : Heap). extents_of (z n) c) e in omega arith

  module _ (segments : ℕ) (machine : Machine S) where
    -- what the history asks for, of a class
    asks : ℕ → ℕ
    asks c = sum_by (λ a. extents_of (machine.heap a) c) (names_in history)

    -- of each class, what was in use at once has at most the history's words and one bound for each segment
    use_bound : (c u : ℕ) → 1 ≤ c → c ≤ 21 → Once p start history machine (λ m. InUse p most segments m c u) →
        2 ^ c * u ≤ 2 ^ c * asks c + segments * bound
    unfolding asks
    use_bound c u lo hi o =
        let m = o.machine in
        let w = o.was in
        let each : 2 ^ c * sum_below segments (λ j. gained w.below m.heap (w.views j) c) ≤ segments * bound =
        below_scaled segments (2 ^ c) bound (λ j. gained w.below m.heap (w.views j) c)
        (λ j l. le_trans (2 ^ c * gained w.below m.heap (w.views j) c) (words_in (gained w.below m.heap (w.views j)))
        bound (words_one c (gained w.below m.heap (w.views j)) lo hi)
        (asked_bound o.front o.rest m o.is o.run (w.views j) w.below (w.each j l))) in
        let front : asked w.below m.heap c ≤ sum_by (λ a. extents_of (m.heap a) c) (names_in o.front) =
        below_names (names_in o.front) w.below (λ a. extents_of (m.heap a) c)
        (λ a f. ap (λ o. extents_of o c) (runs_none p o.front start m a o.run (empty a) f)) in
        let later : sum_by (λ a. extents_of (m.heap a) c) (names_in o.front) ≤ asks c =
        later_asks o.front o.rest m o.is o.later c in
        last (2 ^ c) u (asked w.below m.heap c) (sum_below segments (λ j. gained w.below m.heap (w.views j) c))
        (asks c) (segments * bound) w.count (le_trans _ _ _ front later) each
      where
        le_trans : (x y z : ℕ) → x ≤ y → y ≤ z → x ≤ z
        le_trans x y z a b = omega arith

        last : (k u x y z b : ℕ) → u ≤ x + y → x ≤ z → k * y ≤ b → k * u ≤ k * z + b
        last k u x y z b l m n = let a : k * u ≤ k * (x + y) = mul-le k u k (x + y) (omega arith) l in
            let b1 : k * x ≤ k * z = mul-le k x k z (omega arith) m in let e : k * (x + y) ≡ k * x + k * y =
            grind arith in omega arith

        part : (x y z w : ℕ) → x ≤ y → w ≡ y + z → x ≤ w
        part x y z w l e = omega arith

        later_asks : (front rest : List Turn) (m : Machine S) → history ≡ front ++ rest → Runs p m rest machine →
            (c : ℕ) → sum_by (λ a. extents_of (m.heap a) c) (names_in front) ≤
            sum_by (λ a. extents_of (machine.heap a) c) (names_in history)
        later_asks front rest m is r c =
            let more = runs_more p m machine rest r in
            let a : sum_by (λ a. extents_of (m.heap a) c) (names_in front) ≤
            sum_by (λ a. extents_of (machine.heap a) c) (names_in front) =
            sum_by-le-sum_by (λ a. extents_of (m.heap a) c) (λ a. extents_of (machine.heap a) c) (names_in front)
            (λ a. more.more a c) in
            let e : sum_by (λ a. extents_of (machine.heap a) c) (names_in history) ≡
            sum_by (λ a. extents_of (machine.heap a) c) (names_in front) + sum_by
            (λ a. extents_of (machine.heap a) c) (names_in rest) =
            ap (λ l. sum_by (λ a. extents_of (machine.heap a) c) l) (ap names_in is ∙ names_append front rest) ∙
            sum_by-append (λ a. extents_of (machine.heap a) c) (names_in front) (names_in rest) in
            part (sum_by (λ a. extents_of (m.heap a) c) (names_in front))
            (sum_by (λ a. extents_of (machine.heap a) c) (names_in front))
            (sum_by (λ a. extents_of (machine.heap a) c) (names_in rest))
            (sum_by (λ a. extents_of (machine.heap a) c) (names_in history)) a e

    -- what a step wanted is no more than the bound
    wanted_bound : (n : ℕ) → Once p start history machine (λ m. IsWanted p most m n) → n ≤ bound
    unfolding sum_below
    wanted_bound n o =
        let m = o.machine in
        let w = o.was in
        let a = w.address in
        let c = w.class in
        let b = came_bound o.front o.rest m o.is o.run (suc a) w.sight w.came in
        let one = words_one c (gained (suc a) m.heap w.sight.heap) w.least w.most_class in
        let step : 1 ≤ gained (suc a) m.heap w.sight.heap c =
        term (gained a m.heap w.sight.heap c) (extents_of (m.heap a) c) (extents_of (w.sight.heap a) c) w.more in
        subst (λ z. z ≤ bound) (sym w.words) (chain (2 ^ c) (gained (suc a) m.heap w.sight.heap c)
        (words_in (gained (suc a) m.heap w.sight.heap)) bound step one b)
      where
        term : (s x z : ℕ) → x < z → 1 ≤ s + (z - x)
        term s x z k = omega arith

        times : (k x y : ℕ) → x ≤ y → k * x ≤ k * y
        times k x y l = mul-le k x k y (omega arith) l

        chain : (k g w b : ℕ) → 1 ≤ g → k * g ≤ w → w ≤ b → k ≤ b
        chain k g w b l m n = let e : k * 1 ≤ k * g = times k 1 g l in omega arith

    -- the bound on a full heap
    pub nearly_full : (peaks : ℕ → ℕ) (reserved told need limit : ℕ) →
        ((c : ℕ) → 1 ≤ c → Once p start history machine (λ m. InUse p most segments m c (peaks c))) →
        Once p start history machine (λ m. IsWanted p most m need) → reserved ≡ 2 + words_in peaks → told ≤ reserved →
        limit < told + need
        → limit < 2 + words_of machine.heap (names_in history) + (21 * segments + 1) * bound
    unfolding asks
    nearly_full peaks reserved told need limit at wanted is low full =
        let all : words_in peaks ≤ words_in asks + 21 * (segments * bound) =
        words_each (segments * bound) peaks asks (λ c lo hi. use_bound c (peaks c) lo hi (at c lo)) in
        let names : words_in asks ≡ words_of machine.heap (names_in history) =
        words_names (names_in history) (λ a c. extents_of (machine.heap a) c) in
        let n : need ≤ bound = wanted_bound need wanted in
        let e : 21 * (segments * bound) + bound ≡ (21 * segments + 1) * bound = scale segments bound in
        omega arith
      where
        scale : (s b : ℕ) → 21 * (s * b) + b ≡ (21 * s + 1) * b
        scale s b = grind arith
