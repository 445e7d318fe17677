-- A turn that the machine can do is cut by an outer cause only.
use Rattle.std.proofs.Common.{◌≡◌, inl, inr, ℕ, ◌<◌, true, false, List, [], ◌∷◌, ◌++◌, length, Option, Some, None, slice_get, is_some, IsSome, sym, ◌∙◌, ap, subst, arith, append_assoc, append-nil, length-append}
use Rattle.py_data.specs.Collection.{places}
use Rattle.py_data.specs.Heap.{Rec, Heap}
use Rattle.py_data.specs.Row.{Row, Do, Make}
use Rattle.py_data.specs.Sense.{Run}
use Rattle.py_data.specs.Sight.{Sight, Does, opened}
use Rattle.py_data.specs.Laws.{IsTold}
use Rattle.py_data.proofs.Same.{does_made, does_along, upto_along}
use Rattle.lock_run.specs.declared.client.Outcome.{Outcome}
use Rattle.lock_run.specs.declared.client.Outcome.TheVariants.{Waits as WaitsNow}
use Rattle.lock_run.specs.declared.turn.Turn.{Turn}
use Rattle.lock_run.specs.declared.turn.TurnWhy.{TurnWhy}
use Rattle.lock_run.specs.declared.turn.TurnWhy.TheVariants.{NotThere, Ended, Waits, BadNames, ReadFault, WriteFault, ErrFault, OutOfMemory}
use Rattle.lock_run.specs.Prog.{Prog}
use Rattle.lock_run.specs.PlainState.{PlainState, NoName}
use Rattle.lock_run.specs.Machine.{Machine, Steps, DoesTurn}
use Rattle.lock_run.specs.Turns.{LockState, Stands, CutIn, CutWhy, Begins, TurnCut}
use Rattle.lock_run.specs.TurnLaws.{IsOutside}
use Rattle.lock_run.proofs.Along.{FirstSteps, first_steps, steps_along, steps_told, told_of, one_state}

same_rest : (xs ys zs : List ℕ) → xs ++ ys ≡ xs ++ zs → ys ≡ zs
same_rest [] ys zs e = e
same_rest (x ∷ xs) ys zs e = same_rest xs ys zs cc

-- the next name can be given
can_name : (h : Heap) (n : ℕ) (rest names : List ℕ) → h n ≡ None → rest ≡ n ∷ names → NoName h rest → ⊥
can_name h n rest names e f w = let q : is_some (h n) ≡ true = subst (NoName h) f w in
    absurd (let b : false ≡ true = sym (ap is_some e) ∙ q in cc)

-- what a row does that makes a record next
make_first : {S A : Type 0} (r : Rec) (k : ℕ → Row S A) (s t : Sight S) (y : A) → Does (Do (Make r) k) s y t →
    (n : ℕ) × (s.heap n ≡ None) × (more : List ℕ) × (t.made ≡ s.made ++ n ∷ more)
unfolding Run
make_first r k s t y d =
    let e = does_made (k d.0) d.1 t y d.3 in
    (d.0, d.2.0, e.0, e.1 ∙ ap (λ z. z.made ++ e.0) d.2.1 ∙ append_assoc s.made (d.0 ∷ []) e.0)

module _ {S : Type 0} (p : Prog S) (t : Turn) (o e : Option (List ℕ)) (m m1 : Machine S) (told : IsSome m.world.input)
    (d : DoesTurn p m t m1) (done : ℕ) (d1 : PlainState S) (ts1 : List S)
    (c : CutIn p t.thread done o e m d1 ts1) (b : Begins c.sight.made (places t.names)) where
  -- the thread's state at the turn's beginning
  before : c.before ≡ d.before
  before = one_state (slice_get m.threads t.thread) d.before c.before d.is c.is

  its_steps : Steps p done d.before (opened S m.heap m.world) c.after c.sight
  its_steps = subst (λ (q : S). Steps p done q (opened S m.heap m.world) c.after c.sight) before c.steps

  -- the steps that were done are those of the turn
  pub cut_on : (f : FirstSteps p done d.before (opened S m.heap m.world) d.sight) →
      (c.after ≡ f.state) × (c.sight ≡ f.sight)
  cut_on f =
      let g = does_made (p.row f.state) f.sight f.after (f.step.outcome, f.next) f.step.does in
      steps_along p done d.before (opened S m.heap m.world) f.state c.after f.sight c.sight (g.0 ++ f.rest) b.0
      (told_of (opened S m.heap m.world) told) f.steps its_steps
      (b.1 ∙ sym d.names ∙ f.made ∙ ap (λ l. l ++ f.rest) g.1 ∙ append_assoc f.sight.made g.0 f.rest)

  -- all steps were done, and names are left
  pub none_left : (n : ℕ) (rest : List ℕ) → done ≡ t.steps → places t.names ≡ c.sight.made ++ n ∷ rest → ⊥
  none_left n rest ed en =
      let ds : Steps p done d.before (opened S m.heap m.world) d.after d.sight =
      subst (λ k. Steps p k d.before (opened S m.heap m.world) d.after d.sight) (sym ed) d.steps in
      let same = steps_along p done d.before (opened S m.heap m.world) d.after c.after d.sight c.sight [] (n ∷ rest)
      (told_of (opened S m.heap m.world) told) ds its_steps (sym en ∙ sym d.names ∙ sym (append-nil d.sight.made))
      in
      let q : c.sight.made ≡ c.sight.made ++ n ∷ rest = ap (λ z. z.made) same.1 ∙ d.names ∙ en in
      let l : length c.sight.made ≡ length (c.sight.made ++ n ∷ rest) = ap length q in
      let k = length-append c.sight.made (n ∷ rest) in
      absurd (omega arith)

  module _ (l : done < t.steps) where
    -- the turn's steps up to the one that was cut
    first : FirstSteps p done d.before (opened S m.heap m.world) d.sight
    first = first_steps p t.steps done d.before (opened S m.heap m.world) d.after d.sight l d.steps

    -- there, and so where the cut turn stood, the source tells its bytes still
    first_told : (f : FirstSteps p done d.before (opened S m.heap m.world) d.sight) → IsTold f.sight
    first_told f = steps_told p done d.before (opened S m.heap m.world) f.state f.sight f.steps
        (told_of (opened S m.heap m.world) told)

    -- the turn's next step, from where the cut turn stood
    next_does : (f : FirstSteps p done d.before (opened S m.heap m.world) d.sight) →
        Does (p.row c.after) c.sight (f.step.outcome, f.next) f.after
    next_does f =
        let q = cut_on f in
        subst (λ (r : S). Does (p.row r) c.sight (f.step.outcome, f.next) f.after) (sym q.0)
        (subst (λ (u : Sight S). Does (p.row f.state) u (f.step.outcome, f.next) f.after) (sym q.1) f.step.does)

    cut_told : (f : FirstSteps p done d.before (opened S m.heap m.world) d.sight) → IsTold c.sight
    cut_told f = subst IsTold (sym (cut_on f).1) (first_told f)

    -- each cause within the machine contradicts what the turn does next
    pub outside_by : (a : PlainState S) (why : TurnWhy)
        (f : FirstSteps p done d.before (opened S m.heap m.world) d.sight) →
        CutWhy p t.thread done (places t.names) o e m a d1 ts1 why c → IsOutside why
    outside_by a ReadFault f w = tt
    outside_by a WriteFault f w = tt
    outside_by a ErrFault f w = tt
    outside_by a OutOfMemory f w = tt
    outside_by a NotThere f w = w
    outside_by a Ended f w = w.0 (ap p.life (cut_on f).0 ∙ f.step.lives)
    outside_by a Waits f w =
        let same = does_along (p.row c.after) c.sight f.after c.cut.place (f.step.outcome, f.next) (WaitsNow, w.2)
        f.rest b.0 (cut_told f) (next_does f) w.3
        (ap (λ l. l ++ b.0) w.4.made ∙ b.1 ∙ sym d.names ∙ f.made) in
        f.step.goes_on (sym (ap (λ y. y.0) same.0))
    outside_by a BadNames f w =
        let left = upto_along (p.row c.after) c.cut.left c.sight c.cut.place f.after (f.step.outcome, f.next) f.rest
        w.3 (cut_told f) (next_does f) c.cut.upto (w.5 ∙ sym d.names ∙ f.made) in
        let made = make_first w.2 w.4.0 c.cut.place f.after (f.step.outcome, f.next)
        (subst (λ (q : Row S (Outcome × S)). Does q c.cut.place (f.step.outcome, f.next) f.after) w.4.1 left) in
        let names : c.cut.place.made ++ w.3 ≡ c.cut.place.made ++ (made.0 ∷ (made.2 ++ f.rest)) =
        w.5 ∙ sym d.names ∙ f.made ∙ ap (λ l. l ++ f.rest) made.3 ∙
        append_assoc c.cut.place.made (made.0 ∷ made.2) f.rest in
        can_name c.cut.place.heap made.0 w.3 (made.2 ++ f.rest) made.1
        (same_rest c.cut.place.made w.3 (made.0 ∷ (made.2 ++ f.rest)) names) w.6

    pub outside_in : (a : PlainState S) (why : TurnWhy) → CutWhy p t.thread done (places t.names) o e m a d1 ts1 why c
        → IsOutside why
    outside_in a why w = outside_by a why first w

pub accepts : {S : Type 0} (p : Prog S) (t : Turn) (done : ℕ) (why : TurnWhy) (a b : LockState S)
    (o e : Option (List ℕ)) (m m1 : Machine S)
    → IsSome m.world.input → Stands o e a.view a.threads m → DoesTurn p m t m1 → TurnCut p t done why a b →
    IsOutside why
accepts p t done why a b o e m m1 told st d cut = elim (cut o e m st) [
  | inl h ↦ absurd (let q : Some d.before ≡ None = sym d.is ∙ h.2 in cc)
  | inr h ↦ elim h.1 [
    | inl w ↦ outside_in p t o e m m1 told d done b.view b.threads h.0 h.2 w.0 a.view why w.1
    | inr w ↦ absurd (none_left p t o e m m1 told d done b.view b.threads h.0 h.2 w.2 w.3 w.0 w.4)
  ]
]
