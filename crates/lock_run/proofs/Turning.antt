-- A whole turn.
use Rattle.std.proofs.Common.{◌≡◌, ◌≢◌, ◌⊎◌, inl, inr, ℕ, zero, suc, ◌≤◌, ◌<◌, List, [], ◌∷◌, ◌++◌, Bool, true, false, Option, Some, None, length, slice_get, slice_set, refl, sym, ◌∙◌, ap, subst, arith, append-nil}
use Rattle.py_data.specs.Collection.{places}
use Rattle.py_data.specs.Sight.{Sight, Does, opened}
use Rattle.stm_io.specs.Outside.{Rose}
use Rattle.py_data.specs.World.{grown}
use Rattle.py_data.proofs.Mirror.{does_afresh}
use Rattle.lock_run.specs.declared.client.Outcome.TheVariants.{Waits as WaitsNow}
use Rattle.lock_run.specs.declared.client.Life.TheVariants.{Lives}
use Rattle.lock_run.specs.declared.turn.Turn.{Turn}
use Rattle.lock_run.specs.declared.turn.TurnWhy.{TurnWhy}
use Rattle.lock_run.specs.declared.turn.TurnWhy.TheVariants.{NotThere, Ended, Waits, BadNames, ReadFault, WriteFault, ErrFault, OutOfMemory}
use Rattle.lock_run.specs.Prog.{Prog}
use Rattle.lock_run.specs.PlainState.{PlainState}
use Rattle.lock_run.specs.Machine.{Machine, Steps, DoesTurn, machine_after}
use Rattle.lock_run.specs.Turns.{LockState, Stands, CutIn, LeavesNothing, CutWhy, Begins, CutTold, Going, Reach, ReachCut, TurnDone, TurnCut, Rests, FreeDone, FreeCut}
use Rattle.lock_run.proofs.Stepping.{cut_here, get_set}

slice_none : {A : Type 0} (xs : List A) (t : ℕ) → length xs ≤ t → slice_get xs t ≡ None
slice_none [] t h = refl
slice_none (x ∷ xs) zero h = absurd (omega arith)
slice_none (x ∷ xs) (suc t) h = slice_none xs t (omega arith)

slice_some : {A : Type 0} (xs : List A) (t : ℕ) → t < length xs → (x : A) × (slice_get xs t ≡ Some x)
slice_some [] t h = absurd (omega arith)
slice_some (x ∷ xs) zero h = (x, refl)
slice_some (x ∷ xs) (suc t) h = slice_some xs t (omega arith)

set_same : {A : Type 0} (xs : List A) (t : ℕ) (x : A) → slice_get xs t ≡ Some x → slice_set xs t x ≡ xs
set_same [] t x e = cc
set_same (y ∷ ys) zero x e = let q : x ≡ y = cc in ap (λ z. z ∷ ys) q
set_same (y ∷ ys) (suc t) x e = ap (λ l. y ∷ l) (set_same ys t x e)

head : (xs : List ℕ) → 0 < length xs → (n : ℕ) × (rest : List ℕ) × (xs ≡ n ∷ rest)
head [] h = absurd (omega arith)
head (x ∷ xs) h = (x, xs, refl)

-- the view at the beginning of a turn: no name is given yet, and these are to come where names are planned
pub record Begun {S : Type 0} (d d1 : PlainState S) (names : List ℕ) : Type 0 where
  pub rest : d1 ≡ record d { made = []; kept = []; left = d1.left; was_left = d1.was_left; free = d1.free }
  pub named : d1.free ≡ false → d1.left ≡ names

pub begun_by : {S : Type 0} (d d1 : PlainState S) (made kept left was names : List ℕ) (free : Bool) →
    d1 ≡ record d { made = made; kept = kept; left = left; was_left = was; free = free }
    → made ≡ [] → kept ≡ [] → (free ≡ false → left ≡ names) → Begun d d1 names
begun_by {S} d d1 made kept left was names free e em ek el = record {
  rest = e ∙ ap (λ l. record d { made = l; kept = kept; left = left; was_left = was; free = free }) em ∙
      ap (λ l. record d { made = []; kept = l; left = left; was_left = was; free = free }) ek
      ∙ ap {B = PlainState S} (λ (z : PlainState S).
      record d { made = []; kept = []; left = z.left; was_left = z.was_left; free = z.free }) (sym e);
  named = λ f. ap (λ z. z.left) e ∙ el (sym (ap (λ z. z.free) e) ∙ f);
}

pub begun_again : {S : Type 0} (d d1 d2 : PlainState S) (names more : List ℕ) → Begun d d1 names → Begun d1 d2 more →
    Begun d d2 more
begun_again {S} d d1 d2 names more a b = record {
  rest = b.rest ∙ ap {B = PlainState S} (λ (z : PlainState S).
      record z { made = []; kept = []; left = d2.left; was_left = d2.was_left; free = d2.free }) a.rest;
  named = b.named;
}

module _ {S : Type 0} (p : Prog S) (thread : ℕ) (a : LockState S) (d1 : PlainState S) where
  -- the turn begins
  pub begins : (names : List ℕ) (o e : Option (List ℕ)) (m : Machine S) → Stands o e a.view a.threads m →
      thread < length a.threads → Begun a.view d1 names
      → Going p thread 0 names o e m a.view d1 a.threads
  begins names o e m st lt bg =
      let b = slice_some a.threads thread lt in
      let is : slice_get m.threads thread ≡ Some b.0 = ap (λ l. slice_get l thread) st.threads ∙ b.1 in
      let ed = bg.rest in
      record {
        before = b.0;
        after = b.0;
        sight = opened S m.heap m.world;
        is = is;
        steps = (refl, refl);
        heap = st.heap ∙ sym (ap (λ z. z.heap) ed);
        made = sym (ap (λ z. z.made) ed);
        input = st.input ∙ sym (ap (λ z. z.input) ed);
        ends = st.ends ∙ sym (ap (λ z. z.ends) ed);
        out = ap (λ z. z.out) ed ∙ st.out;
        err = ap (λ z. z.err) ed ∙ st.err;
        mid = st.mid ∙ sym (ap (λ z. z.mid) ed);
        threads = sym st.threads ∙ sym (set_same m.threads thread b.0 is) ∙
            sym (append-nil (slice_set m.threads thread b.0));
        named = λ f. ap (λ z. z.made ++ d1.left) ed ∙ bg.named f;
        reads = let q : d1.reads ≡ a.view.reads = ap (λ z. z.reads) ed in omega arith;
        writes = let q : d1.writes ≡ a.view.writes = ap (λ z. z.writes) ed in omega arith;
        errs = let q : d1.errs ≡ a.view.errs = ap (λ z. z.errs) ed in omega arith;
      }

  module _ (lt : thread < length a.threads) where
    -- all its steps were done
    pub ends : (t : Turn) (c : LockState S) → t.thread ≡ thread → 1 ≤ t.steps → Begun a.view d1 (places t.names)
        → Reach p thread t.steps (record { view = d1; threads = a.threads }) c → c.view.free ≡ false →
        c.view.left ≡ [] → TurnDone p t a c
    ends t c et some bg rc fr none = λ o e m st.
        let g = rc (places t.names) o e m a.view (begins (places t.names) o e m st lt bg) in
        let names : g.sight.made ≡ places t.names = g.made ∙ sym (append-nil c.view.made) ∙
        sym (ap (λ l. c.view.made ++ l) none) ∙ g.named fr in (
          machine_after m thread g.after g.sight,
          record {
            heap = g.heap;
            threads = sym g.threads;
            input = g.input;
            ends = g.ends;
            out = g.out;
            err = g.err;
            mid = g.mid;
          },
          record {
            before = g.before;
            after = g.after;
            sight = g.sight;
            is = ap (slice_get m.threads) et ∙ g.is;
            some = some;
            steps = g.steps;
            names = names;
            gives = ap (λ i. machine_after m i g.after g.sight) (sym et);
          },
        )

    -- or one of them was not
    pub cuts : (t : Turn) (c : LockState S) (done : ℕ) (why : TurnWhy) → t.thread ≡ thread →
        Begun a.view d1 (places t.names)
        → ReachCut p thread t.steps done why (record { view = d1; threads = a.threads }) c → c.view.free ≡ false →
        TurnCut p t done why a c
    cuts t c done why et bg rc fr = λ o e m st.
        let z = rc.1 (places t.names) o e m a.view (begins (places t.names) o e m st lt bg) in
        let P : ℕ → Type 0 = λ i. (x : CutIn p i done o e m c.view c.threads) × CutWhy p i done (places t.names) o e m
        a.view c.view c.threads why x × Begins x.sight.made (places t.names) in
        let y = subst P (sym et) (z.0, z.2, z.3 fr) in
        inr (y.0, inl (rc.0, y.1), y.2)

    -- or names are left
    pub leaves : (t : Turn) (c : LockState S) → t.thread ≡ thread → Begun a.view d1 (places t.names)
        → Reach p thread t.steps (record { view = d1; threads = a.threads }) c → c.view.free ≡ false →
        0 < length c.view.left → TurnCut p t t.steps BadNames a c
    leaves t c et bg rc fr more = λ o e m st.
        let g = rc (places t.names) o e m a.view (begins (places t.names) o e m st lt bg) in
        let h = head c.view.left more in
        let P : ℕ → Type 0 = λ i. (x : CutIn p i t.steps o e m c.view c.threads) × (x.sight.made ≡ c.view.made) in
        let y = subst P (sym et) (cut_here _ _ _ _ _ _ _ _ _ _ g, g.made) in
        inr (
          y.0,
          inr (
            refl,
            refl,
            h.0,
            h.1,
            sym (g.named fr) ∙ ap (λ l. l ++ c.view.left) (sym y.1) ∙
                ap (λ l. y.0.sight.made ++ l) h.2,
          ),
          (c.view.left, ap (λ l. l ++ c.view.left) y.1 ∙ g.named fr),
        )

    -- or the names found no memory
    pub starves : (t : Turn) → t.thread ≡ thread → 1 ≤ t.steps → Begun a.view d1 [] →
        TurnCut p t 0 OutOfMemory a (record { view = d1; threads = a.threads })
    starves t et some bg = λ o e m st.
        let P : ℕ → Type 0 = λ i. (x : CutIn p i 0 o e m d1 a.threads) × (x.sight.made ≡ []) in
        let g = begins [] o e m st lt bg in
        let y = subst P (sym et) (cut_here _ _ _ _ _ _ _ _ _ _ g, g.made ∙ ap (λ z. z.made) bg.rest) in
        inr (y.0, inl (some, tt), (places t.names, ap (λ l. l ++ places t.names) y.1))

-- or there is no such thread
pub lacks : {S : Type 0} (p : Prog S) (t : Turn) (a : LockState S) → length a.threads ≤ t.thread →
    TurnCut p t 0 NotThere a a
lacks p t a le = λ o e m st. inl (
  refl,
  refl,
  ap (λ l. slice_get l t.thread) st.threads ∙
      slice_none a.threads t.thread le,
  st,
)

pub none_of : (b : Bool) (xs : List ℕ) → (0 < length xs → b ≡ true) → b ≡ false → xs ≡ []
none_of b [] f e = refl
none_of b (x ∷ xs) f e = absurd (let q : true ≡ false = sym (f (omega arith)) ∙ e in cc)

-- Turns with names of their own.
module _ {S : Type 0} (p : Prog S) (thread most : ℕ) (a b : LockState S) (d1 d2 : PlainState S)
    (lt : thread < length a.threads) (bg : Begun a.view d1 [])
    (ed : d2 ≡ record b.view { made = d2.made; kept = d2.kept }) where
  -- all steps were done
  pub free_ends : (t : Turn) → t.thread ≡ thread → t.steps ≡ most → 1 ≤ most → places t.names ≡ b.view.made
      → Reach p thread most (record { view = d1; threads = a.threads }) b →
      FreeDone p thread most t a (record { view = d2; threads = b.threads })
  free_ends t et es some en rc = (
    et,
    omega arith,
    omega arith,
    λ o e m st.
        let g = rc [] o e m a.view (begins p thread a d1 [] o e m st lt bg) in (
          machine_after m thread g.after g.sight,
          record {
            heap = g.heap ∙ sym (ap (λ z. z.heap) ed);
            threads = sym g.threads;
            input = g.input ∙
                sym (ap (λ z. z.input) ed);
            ends = g.ends ∙
                sym (ap (λ z. z.ends) ed);
            out = ap (λ z. z.out) ed ∙ g.out;
            err = ap (λ z. z.err) ed ∙ g.err;
            mid =
                g.mid ∙ sym (ap (λ z. z.mid) ed);
          },
          record {
            before = g.before;
            after = g.after;
            sight = g.sight;
            is = ap (slice_get m.threads) et ∙ g.is;
            some = omega arith;
            steps = subst (λ k. Steps p k g.before (opened S m.heap m.world) g.after g.sight) (sym es) g.steps;
            names = g.made ∙ sym en;
            gives = ap (λ i. machine_after m i g.after g.sight) (sym et);
          },
          inl es,
        ),
  )

  -- nothing of a next step is left: what stands is the machine after the steps that were done
  module _ (t : Turn) (done : ℕ) (et : t.thread ≡ thread) (es : t.steps ≡ done) (some : 1 ≤ done)
      (en : places t.names ≡ b.view.made) (o e : Option (List ℕ)) (m : Machine S) where
    stays : (c : CutIn p thread done o e m b.view b.threads) → b.view.made ≡ c.sight.made → LeavesNothing c
        → (p.life c.after ≢ Lives) ⊎ ((q : S) × (z : Sight S) × Does (p.row c.after)
        (opened S c.sight.heap c.sight.world) (WaitsNow, q) z)
        → (m1 : Machine S) × Stands o e d2 b.threads m1 × DoesTurn p m t m1 × Rests p m1 thread
    stays c made n why =
        let out : b.view.out ≡ grown o c.sight.world.out = c.out ∙ ap (λ x. grown o x.out) n in
        let err : b.view.err ≡ grown e c.sight.world.err = c.err ∙ ap (λ x. grown e x.err) n in
        let input : b.view.input ≡ c.sight.world.input = c.input ∙ ap (λ x. x.input) n in
        let ends : b.view.ends ≡ c.sight.world.ends = c.ends ∙ ap (λ x. x.ends) n in (
          machine_after m thread c.after c.sight,
          record {
            heap = sym c.heap ∙ sym (ap (λ z. z.heap) ed);
            threads = sym c.threads;
            input = sym input ∙
                sym (ap (λ z. z.input) ed);
            ends = sym ends ∙
                sym (ap (λ z. z.ends) ed);
            out = ap (λ z. z.out) ed ∙ out;
            err = ap (λ z. z.err) ed ∙ err;
            mid =
                sym c.mid ∙ sym (ap (λ z. z.mid) ed);
          },
          record {
            before = c.before;
            after = c.after;
            sight = c.sight;
            is = ap (slice_get m.threads) et ∙ c.is;
            some = omega arith;
            steps = subst (λ k. Steps p k c.before (opened S m.heap m.world) c.after c.sight) (sym es) c.steps;
            names = sym made ∙ sym en;
            gives = ap (λ i. machine_after m i c.after c.sight) (sym et);
          },
          record { state = c.after; is = get_set m.threads c.sight.started thread c.before c.after c.is; why = why },
        )

    stays_by : (why : TurnWhy) → (why ≡ Ended) ⊎ (why ≡ Waits) → CutTold p thread done [] o e m a.view b.view b.threads
        why
        → (m1 : Machine S) × Stands o e d2 b.threads m1 × DoesTurn p m t m1 × Rests p m1 thread
    stays_by Ended wy z = stays z.0 z.1 z.2.1 (inl z.2.0)
    stays_by Waits wy z = let f = does_afresh (p.row z.0.after) z.0.sight z.0.cut.place (WaitsNow, z.2.2) z.2.3 in
        stays z.0 z.1 z.2.1 (inr (z.2.2, f.0, f.1.does))
    stays_by NotThere wy z = absurd z.2
    stays_by BadNames wy z = absurd (elim wy [ inl e ↦ cc | inr e ↦ cc ])
    stays_by ReadFault wy z = absurd (elim wy [ inl e ↦ cc | inr e ↦ cc ])
    stays_by WriteFault wy z = absurd (elim wy [ inl e ↦ cc | inr e ↦ cc ])
    stays_by ErrFault wy z = absurd (elim wy [ inl e ↦ cc | inr e ↦ cc ])
    stays_by OutOfMemory wy z = absurd (elim wy [ inl e ↦ cc | inr e ↦ cc ])

  -- the thread rests after some of them
  pub free_rests : (t : Turn) (done : ℕ) (why : TurnWhy) → t.thread ≡ thread → t.steps ≡ done → 1 ≤ done →
      places t.names ≡ b.view.made → (why ≡ Ended) ⊎ (why ≡ Waits)
      → ReachCut p thread most done why (record { view = d1; threads = a.threads }) b →
      FreeDone p thread most t a (record { view = d2; threads = b.threads })
  free_rests t done why et es some en wy rc = (
    et,
    omega arith,
    (let l = rc.0 in omega arith),
    λ o e m st.
        let z = stays_by t done et es some en o e m why wy
        (rc.1 [] o e m a.view (begins p thread a d1 [] o e m st lt bg)) in
        (z.0, z.1, z.2, inr z.3),
  )

  -- what was handed out doesn't show in what is told of a cut
  abbrev told_after : (done : ℕ) (o e : Option (List ℕ)) (m : Machine S)
      (c : CutIn p thread done o e m b.view b.threads) → CutIn p thread done o e m d2 b.threads
  told_after done o e m c = record {
    before = c.before;
    after = c.after;
    sight = c.sight;
    is = c.is;
    steps = c.steps;
    heap = ap (λ z. z.heap) ed ∙ c.heap;
    mid = ap (λ z. z.mid) ed ∙ c.mid;
    threads = c.threads;
    told = c.told;
    cut = c.cut;
    out = ap (λ z. z.out) ed ∙ c.out;
    err = ap (λ z. z.err) ed ∙ c.err;
    input = ap (λ z. z.input) ed ∙ c.input;
    ends = ap (λ z. z.ends) ed ∙ c.ends;
  }

  rose_after : (x y z : ℕ) → z ≡ y → Rose x y → Rose x z
  rose_after x y z q r = subst (Rose x) (sym q) r

  why_after : (done : ℕ) (names : List ℕ) (o e : Option (List ℕ)) (m : Machine S) (why : TurnWhy)
      (c : CutIn p thread done o e m b.view b.threads) → b.view.free ≡ true
      → CutWhy p thread done [] o e m a.view b.view b.threads why c →
      (why ≢ BadNames) × CutWhy p thread done names o e m a.view d2 b.threads why (told_after done o e m c)
  why_after done names o e m NotThere c fr w = absurd w
  why_after done names o e m Ended c fr w = ((λ q. cc), w)
  why_after done names o e m Waits c fr w = ((λ q. cc), w)
  why_after done names o e m BadNames c fr w = absurd (let q : true ≡ false = sym fr ∙ w.1 in cc)
  why_after done names o e m ReadFault c fr w =
      ((λ q. cc), (w.0, w.1, w.2, rose_after a.view.reads b.view.reads d2.reads (ap (λ z. z.reads) ed) w.3))
  why_after done names o e m WriteFault c fr w =
      ((λ q. cc), (w.0, w.1, w.2, rose_after a.view.writes b.view.writes d2.writes (ap (λ z. z.writes) ed) w.3))
  why_after done names o e m ErrFault c fr w =
      ((λ q. cc), (w.0, w.1, w.2, rose_after a.view.errs b.view.errs d2.errs (ap (λ z. z.errs) ed) w.3))
  why_after done names o e m OutOfMemory c fr w = ((λ q. cc), w)

  -- the turn was cut
  pub free_cut : (names : List ℕ) (done : ℕ) (why : TurnWhy) → names ≡ b.view.made → b.view.free ≡ true →
      ((why ≡ Ended) ⊎ (why ≡ Waits) → done ≡ 0)
      → ReachCut p thread most done why (record { view = d1; threads = a.threads }) b →
      FreeCut p thread most done names why a (record { view = d2; threads = b.threads })
  free_cut names done why en fr rest rc = λ o e m st.
      let z = rc.1 [] o e m a.view (begins p thread a d1 [] o e m st lt bg) in
      let w = why_after done names o e m why z.0 fr z.2 in
      inr (told_after done o e m z.0, rc.0, sym z.1 ∙ sym en, w.0, rest, w.1)

-- there is no such thread
pub free_lacks : {S : Type 0} (p : Prog S) (thread most : ℕ) (names : List ℕ) (a : LockState S) → names ≡ [] →
    length a.threads ≤ thread → FreeCut p thread most 0 names NotThere a a
free_lacks p thread most names a en le = λ o e m st.
    inl (refl, refl, en, ap (λ l. slice_get l thread) st.threads ∙ slice_none a.threads thread le, st)
