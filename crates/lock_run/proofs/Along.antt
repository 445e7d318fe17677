-- The names decide what steps, turns and runs do, where the source tells its bytes.
use Rattle.std.proofs.Common.{◌≡◌, inl, inr, ℕ, zero, suc, ◌<◌, true, false, List, [], ◌∷◌, ◌++◌, Option, Some, None, leb, slice_get, IsSome, refl, sym, ◌∙◌, ap, subst, arith, append_assoc, append-nil}
use Rattle.std.proofs.lemmas.Bool.{cases_Bool, leb-true, leb-false}
use Rattle.py_data.specs.Sight.{Sight, Does, opened}
use Rattle.py_data.specs.Laws.{IsTold}
use Rattle.py_data.proofs.Same.{does_made, does_told, does_along}
use Rattle.lock_run.specs.declared.turn.Turn.{Turn}
use Rattle.lock_run.specs.Prog.{Prog}
use Rattle.lock_run.specs.Machine.{Machine, Step, Steps, DoesTurn, Runs, machine_after}
use Rattle.lock_run.specs.Turns.{LockState, Stands, TurnDone}

-- what is given in two parts
given_then : (xs more more1 : List ℕ) (ys zs : List ℕ) → ys ≡ xs ++ more → zs ≡ ys ++ more1 → zs ≡ xs ++ (more ++ more1)
given_then xs more more1 ys zs e f = f ∙ ap (λ l. l ++ more1) e ∙ append_assoc xs more more1

pub steps_made : {S : Type 0} (p : Prog S) (n : ℕ) (q : S) (s : Sight S) (q1 : S) (s1 : Sight S) → Steps p n q s q1 s1
    → (rest : List ℕ) × (s1.made ≡ s.made ++ rest)
steps_made p zero q s q1 s1 d = ([], ap (λ s. s.made) d.1 ∙ sym (append-nil s.made))
steps_made p (suc n) q s q1 s1 d =
    let a = steps_made p n q s d.0 d.1 d.2 in
    let b = does_made (p.row d.0) d.1 s1 (d.3.outcome, q1) d.3.does in
    (a.0 ++ b.0, given_then s.made a.0 b.0 d.1.made s1.made a.1 b.1)

pub steps_told : {S : Type 0} (p : Prog S) (n : ℕ) (q : S) (s : Sight S) (q1 : S) (s1 : Sight S) → Steps p n q s q1 s1
    → IsTold s → IsTold s1
steps_told p zero q s q1 s1 d k = subst IsTold (sym d.1) k
steps_told p (suc n) q s q1 s1 d k = does_told (p.row d.0) d.1 s1 (d.3.outcome, q1) d.3.does
    (steps_told p n q s d.0 d.1 d.2 k)

-- two ways to do so many steps whose names are the first of one list
pub steps_along : {S : Type 0} (p : Prog S) (n : ℕ) (q : S) (s : Sight S) (q1 q2 : S) (s1 s2 : Sight S)
    (rest1 rest2 : List ℕ) → IsTold s → Steps p n q s q1 s1 → Steps p n q s q2 s2
    → s2.made ++ rest2 ≡ s1.made ++ rest1 → (q2 ≡ q1) × (s2 ≡ s1)
steps_along p zero q s q1 q2 s1 s2 rest1 rest2 k d e m = (e.0 ∙ sym d.0, e.1 ∙ sym d.1)
steps_along {S} p (suc n) q s q1 q2 s1 s2 rest1 rest2 k d e m =
    let a = does_made (p.row d.0) d.1 s1 (d.3.outcome, q1) d.3.does in
    let b = does_made (p.row e.0) e.1 s2 (e.3.outcome, q2) e.3.does in
    let first = steps_along p n q s d.0 e.0 d.1 e.1 (a.0 ++ rest1) (b.0 ++ rest2) k d.2 e.2
    (sym (append_assoc e.1.made b.0 rest2) ∙ ap (λ l. l ++ rest2) (sym b.1) ∙ m ∙ ap (λ l. l ++ rest1) a.1 ∙
    append_assoc d.1.made a.0 rest1) in
    let last : Does (p.row d.0) d.1 (e.3.outcome, q2) s2 =
    subst (λ (r : S). Does (p.row r) d.1 (e.3.outcome, q2) s2) first.0
    (subst (λ (u : Sight S). Does (p.row e.0) u (e.3.outcome, q2) s2) first.1 e.3.does) in
    let one = does_along (p.row d.0) d.1 s1 s2 (d.3.outcome, q1) (e.3.outcome, q2) rest1 rest2
    (steps_told p n q s d.0 d.1 d.2 k) d.3.does last m in
    (ap (λ y. y.1) one.0, one.1)

-- of so many steps the first ones, and the next
pub record FirstSteps {S : Type 0} (p : Prog S) (done : ℕ) (q : S) (s s1 : Sight S) : Type 0 where
  pub state : S
  pub sight : Sight S
  pub next : S
  pub after : Sight S
  pub steps : Steps p done q s state sight
  pub step : Step p state sight next after
  pub rest : List ℕ
  pub made : s1.made ≡ after.made ++ rest

pub first_steps : {S : Type 0} (p : Prog S) (n done : ℕ) (q : S) (s : Sight S) (q1 : S) (s1 : Sight S) → done < n →
    Steps p n q s q1 s1 → FirstSteps p done q s s1
first_steps p zero done q s q1 s1 l d = absurd (omega arith)
first_steps {S} p (suc n) done q s q1 s1 l d = elim (cases_Bool (leb n done)) [
  | inl y ↦
      let g = leb-true n done y in
      let e : n ≡ done = omega arith in
      record {
        state = d.0;
        sight = d.1;
        next = q1;
        after = s1;
        steps = subst (λ k. Steps p k q s d.0 d.1) e d.2;
        step = d.3;
        rest = [];
        made = sym (append-nil s1.made);
      }
  | inr y ↦
      let f = first_steps p n done q s d.0 d.1 (leb-false n done y) d.2 in
      let b = does_made (p.row d.0) d.1 s1 (d.3.outcome, q1) d.3.does in
      record {
        state = f.state;
        sight = f.sight;
        next = f.next;
        after = f.after;
        steps = f.steps;
        step = f.step;
        rest =
            f.rest ++ b.0;
        made = given_then f.after.made f.rest b.0 d.1.made s1.made f.made b.1;
      }
]

pub told_of : {S : Type 0} (s : Sight S) → IsSome s.world.input → IsTold s
told_of s h = told_by s s.world.input refl h
  where
    told_by : {S : Type 0} (s : Sight S) (i : Option (List ℕ)) → s.world.input ≡ i → IsSome i → IsTold s
    told_by s (Some bytes) e h = record { bytes = bytes; is = e }
    told_by s None e h = absurd (let q : false ≡ true = h in cc)

pub is_told : {S : Type 0} (s : Sight S) → IsTold s → IsSome s.world.input
is_told s k = subst IsSome (sym k.is) refl

pub one_state : {S : Type 0} (x : Option S) (s r : S) → x ≡ Some s → x ≡ Some r → r ≡ s
one_state x s r e f = let q : Some r ≡ Some s = sym f ∙ e in cc

pub turn_along : {S : Type 0} (p : Prog S) (t : Turn) (m m1 m2 : Machine S) → IsSome m.world.input → DoesTurn p m t m1
    → DoesTurn p m t m2 → m2 ≡ m1
turn_along {S} p t m m1 m2 k d e =
    let s = opened S m.heap m.world in
    let b = one_state (slice_get m.threads t.thread) d.before e.before d.is e.is in
    let es : Steps p t.steps d.before s e.after e.sight = subst (λ (q : S). Steps p t.steps q s e.after e.sight) b
    e.steps in
    let one = steps_along p t.steps d.before s d.after e.after d.sight e.sight [] [] (told_of s k) d.steps es
    (ap (λ l. l ++ []) (e.names ∙ sym d.names)) in
    e.gives ∙ ap (λ q. machine_after m t.thread q e.sight) one.0 ∙ ap (λ z. machine_after m t.thread d.after z) one.1 ∙
    sym d.gives

pub turn_told : {S : Type 0} (p : Prog S) (t : Turn) (m m1 : Machine S) → IsSome m.world.input → DoesTurn p m t m1 →
    IsSome m1.world.input
turn_told {S} p t m m1 k d =
    let s = opened S m.heap m.world in
    subst (λ (x : Machine S). IsSome x.world.input) (sym d.gives)
    (is_told d.sight (steps_told p t.steps d.before s d.after d.sight d.steps (told_of s k)))

pub turn_shown : {S : Type 0} (p : Prog S) (t : Turn) (a b : LockState S) (o e : Option (List ℕ)) (m m1 : Machine S) →
    IsSome m.world.input → Stands o e a.view a.threads m → DoesTurn p m t m1 → TurnDone p t a b
    → Stands o e b.view b.threads m1
turn_shown {S} p t a b o e m m1 k st d done =
    let r = done o e m st in
    subst (λ (x : Machine S). Stands o e b.view b.threads x) (turn_along p t m m1 r.0 k d r.2) r.1

pub runs_append : {S : Type 0} (p : Prog S) (ts us : List Turn) (m m1 m2 : Machine S) → Runs p m ts m1 →
    Runs p m1 us m2 → Runs p m (ts ++ us) m2
runs_append {S} p [] us m m1 m2 r h = subst (λ (x : Machine S). Runs p x us m2) r h
runs_append p (t ∷ ts) us m m1 m2 r h = (r.0, r.1, runs_append p ts us r.0 m1 m2 r.2 h)

pub runs_split : {S : Type 0} (p : Prog S) (ts us : List Turn) (m m2 : Machine S) → Runs p m (ts ++ us) m2 →
    (m1 : Machine S) × Runs p m ts m1 × Runs p m1 us m2
runs_split p [] us m m2 r = (m, refl, r)
runs_split p (t ∷ ts) us m m2 r = let f = runs_split p ts us r.0 m2 r.2 in (f.0, (r.0, r.1, f.1), f.2)

pub runs_snoc : {S : Type 0} (p : Prog S) (ts : List Turn) (t : Turn) (m m1 m2 : Machine S) → Runs p m ts m1 →
    DoesTurn p m1 t m2 → Runs p m (ts ++ t ∷ []) m2
runs_snoc p ts t m m1 m2 r d = runs_append p ts (t ∷ []) m m1 m2 r (m2, d, refl)

pub runs_along : {S : Type 0} (p : Prog S) (ts : List Turn) (m m1 m2 : Machine S) → IsSome m.world.input →
    Runs p m ts m1 → Runs p m ts m2 → m2 ≡ m1
runs_along p [] m m1 m2 k r h = h ∙ sym r
runs_along {S} p (t ∷ ts) m m1 m2 k r h =
    let e = turn_along p t m r.0 h.0 k r.1 h.1 in
    runs_along p ts r.0 m1 m2 (turn_told p t m r.0 k r.1) r.2 (subst (λ (x : Machine S). Runs p x ts m2) e h.2)
