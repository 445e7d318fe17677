-- In the course of a steady row no record is longer than it was before the row or is at its end.
use Rattle.std.proofs.Common.{arith, ◌≡◌, ℕ, zero, suc, ◌*◌, ◌≤◌, ◌⊎◌, inl, inr, Bool, true, false, eqb, ◌||◌, List, [], ◌∷◌, ◌++◌, length, remove, Option, Some, None, refl, sym, ap, subst, ◌∙◌, length-append}
use Rattle.std.specs.Prelude.{is_some}
use Rattle.std.proofs.lemmas.Bool.{cases_Bool, cond-true, eqb-true}
use Rattle.std.proofs.lemmas.List.{length-take, length-set}
use Rattle.py_data.specs.declared.value.Value.{Value}
use Rattle.py_data.specs.declared.change.Change.{Change}
use Rattle.py_data.specs.declared.change.Change.TheVariants.{Set, Push, Cut, Pair, Unpair}
use Rattle.py_data.specs.Heap.{Rec, Heap, put_at}
use Rattle.py_data.specs.Changes.{after}
use Rattle.py_data.specs.Row.{Call, Reply, Row, Ret, Do, Read, Find, Edit, Make, Start, Put, Take, MidLine, SetMidLine}
use Rattle.py_data.specs.Sense.{Sense, Lawful, Effect, Run, Upto}
use Rattle.py_data.specs.Steady.{lengthens, shortens, grows, shrinks, Steady, NoLonger, SteadyLaw, AskingLaw}
use Rattle.py_data.proofs.Grow.{with_rec_there}
use Rattle.py_data.proofs.Same.{one_rec}
use Rattle.py_data.proofs.Steps.{at_is}

-- ---- no longer
same_long : (h h1 : Heap) → h1 ≡ h → NoLonger h h1
same_long h h1 e a r i = (r, ap (λ g. g a) e ∙ i, omega arith)

then_long : (h h1 h2 : Heap) → NoLonger h h1 → NoLonger h1 h2 → NoLonger h h2
then_long h h1 h2 f g a r i =
    let q = f a r i in
    let p = g a q.0 q.1 in
    (p.0, p.1, omega (arith, q.2, p.2))

-- a heap with another record in a place
edit_longer : (h : Heap) (a : ℕ) (r q : Rec) → h a ≡ Some r → length r.values ≤ length q.values →
    NoLonger h (put_at h a q)
edit_longer h a r q e l b s i = elim (cases_Bool (eqb b a)) [
  | inl y ↦
      let same : s ≡ r = one_rec (h a) r s e (sym (ap h (eqb-true b a y)) ∙ i) in
      (q, cond-true (eqb b a) (Some q) (h b) y, omega (arith, l, ap (λ z. length z.values) same))
  | inr n ↦ (s, with_rec_there a b q h n ∙ i, omega arith)
]

edit_shorter : (h : Heap) (a : ℕ) (r q : Rec) → h a ≡ Some r → length q.values ≤ length r.values →
    NoLonger (put_at h a q) h
edit_shorter h a r q e l b s i = elim (cases_Bool (eqb b a)) [
  | inl y ↦
      let same : s ≡ q = one_rec (put_at h a q b) q s (cond-true (eqb b a) (Some q) (h b) y) i in
      (r, ap h (eqb-true b a y) ∙ e, omega (arith, l, ap (λ z. length z.values) same))
  | inr n ↦ (s, sym (with_rec_there a b q h n) ∙ i, omega arith)
]

make_longer : (h : Heap) (a : ℕ) (q : Rec) → h a ≡ None → NoLonger h (put_at h a q)
make_longer h a q e b s i = elim (cases_Bool (eqb b a)) [
  | inl y ↦ absurd (let z : ◌≡◌ {A = Option Rec} None (Some s) = sym e ∙ (sym (ap h (eqb-true b a y)) ∙ i) in cc)
  | inr n ↦ (s, with_rec_there a b q h n ∙ i, omega arith)
]

-- ---- changes
less_removed : (xs : List Value) (i : ℕ) → length (remove xs i) ≤ length xs
less_removed [] zero = omega arith
less_removed [] (suc i) = omega arith
less_removed (x ∷ xs) zero = omega arith
less_removed (x ∷ xs) (suc i) = let a = less_removed xs i in omega arith

after_shorter : (c : Change) (r : Rec) → lengthens c ≡ false → length (after c r).values ≤ length r.values
after_shorter (Set i x) r g = omega (arith, length-set r.values i x)
after_shorter (Push x) r g = absurd cc
after_shorter (Cut n) r g = omega (arith, length-take n r.values)
after_shorter (Pair key x) r g = absurd cc
after_shorter (Unpair k) r g = omega (
  arith,
  less_removed r.values (2 * k),
  less_removed (remove r.values (2 * k)) (2 * k),
)

after_longer : (c : Change) (r : Rec) → shortens c ≡ false → length r.values ≤ length (after c r).values
after_longer (Set i x) r g = omega (arith, length-set r.values i x)
after_longer (Push x) r g = omega (arith, length-append r.values (x ∷ []))
after_longer (Cut n) r g = absurd cc
after_longer (Pair key x) r g = omega (
  arith,
  length-append (r.values ++ key ∷ []) (x ∷ []),
  length-append r.values (key ∷ []),
)
after_longer (Unpair k) r g = absurd cc

-- ---- calls
some_rec : (o : Option Rec) → is_some o ≡ true → (r : Rec) × (o ≡ Some r)
some_rec None i = absurd cc
some_rec (Some r) i = (r, refl)

call_shorter : {S : Type 0} (c : Call S) (p : Bool) (h h1 : Heap) (r : Reply c) → grows c ≡ false → Effect p c h r h1 →
    NoLonger h1 h
call_shorter (Read a) p h h1 r g e = same_long h1 h (sym e.1)
call_shorter (Find d key) p h h1 r g e = same_long h1 h (sym e.2)
call_shorter (Edit a c) p h h1 r g e =
    let o = some_rec (h a) e.0 in
    let now : h1 ≡ put_at h a (after c o.0) = e.1 ∙ ap (λ z. put_at h a (after c z)) (at_is h a o.0 o.1) in
    subst (λ z. NoLonger z h) (sym now) (edit_shorter h a o.0 (after c o.0) o.1 (after_shorter c o.0 g))
call_shorter (Make q) p h h1 r g e = absurd cc
call_shorter (Start s) p h h1 r g e = same_long h1 h (sym e)
call_shorter (Put on bytes) p h h1 r g e = same_long h1 h (sym e)
call_shorter (Take most) p h h1 r g e = same_long h1 h (sym e.1)
call_shorter MidLine p h h1 r g e = same_long h1 h (sym e)
call_shorter (SetMidLine mid) p h h1 r g e = same_long h1 h (sym e)

call_longer : {S : Type 0} (c : Call S) (p : Bool) (h h1 : Heap) (r : Reply c) → shrinks c ≡ false → Effect p c h r h1
    → NoLonger h h1
call_longer (Read a) p h h1 r g e = same_long h h1 e.1
call_longer (Find d key) p h h1 r g e = same_long h h1 e.2
call_longer (Edit a c) p h h1 r g e =
    let o = some_rec (h a) e.0 in
    let now : h1 ≡ put_at h a (after c o.0) = e.1 ∙ ap (λ z. put_at h a (after c z)) (at_is h a o.0 o.1) in
    subst (NoLonger h) (sym now) (edit_longer h a o.0 (after c o.0) o.1 (after_longer c o.0 g))
call_longer (Make q) p h h1 r g e = subst (NoLonger h) (sym e.1) (make_longer h r q e.0)
call_longer (Start s) p h h1 r g e = same_long h h1 e
call_longer (Put on bytes) p h h1 r g e = same_long h h1 e
call_longer (Take most) p h h1 r g e = same_long h h1 e.1
call_longer MidLine p h h1 r g e = same_long h h1 e
call_longer (SetMidLine mid) p h h1 r g e = same_long h h1 e

-- ---- rows
module _ {S X : Type 0} (u : Sense S X) (L : Lawful u) where
  run_longer : {A : Type 0} (row : Row S A) (v w : X) (x : A) → Steady true row → Run u row v x w →
      NoLonger (u.heap v) (u.heap w)
  unfolding Steady Run
  run_longer (Ret a) v w x s r = same_long (u.heap v) (u.heap w) (ap u.heap r.1)
  run_longer (Do c k) v w x s r =
      then_long (u.heap v) (u.heap r.1) (u.heap w)
      (call_longer c u.partial (u.heap v) (u.heap r.1) r.0 s.0.0 (L.effect c v r.0 r.1 r.2))
      (run_longer (k r.0) r.1 w x (s.1 r.0) r.3)

  rest_steady : {A : Type 0} (row left : Row S A) (v m : X) → Steady true row → Upto u row v left m → Steady true left
  unfolding Steady Upto
  rest_steady (Ret a) left v m s t = subst (Steady true) (sym t.0) tt
  rest_steady (Do c k) left v m s t = elim t [
    | inl e ↦ subst (Steady true) (sym e.0) s
    | inr d ↦
        rest_steady (k d.0) left d.1 m (s.1 d.0) d.3
  ]

  -- up to some place nothing has grown, or from there on nothing shrinks
  phase : {A : Type 0} (row left : Row S A) (v m : X) → Steady false row → Upto u row v left m →
      NoLonger (u.heap m) (u.heap v) ⊎ Steady true left
  unfolding Steady Upto
  phase (Ret a) left v m s t = inl (same_long (u.heap m) (u.heap v) (sym (ap u.heap t.1)))
  phase (Do c k) left v m s t = elim t [
    | inl e ↦ inl (same_long (u.heap m) (u.heap v) (sym (ap u.heap e.1)))
    | inr d ↦ elim (cases_Bool (grows c)) [
      | inl y ↦ inr (rest_steady (k d.0) left d.1 m (subst (λ b. Steady b (k d.0)) y (s.1 d.0)) d.3)
      | inr n ↦ elim (phase (k d.0) left d.1 m (subst (λ b. Steady b (k d.0)) n (s.1 d.0)) d.3) [
        | inl l ↦ inl (then_long (u.heap m) (u.heap d.1) (u.heap v) l
            (call_shorter c u.partial (u.heap v) (u.heap d.1) d.0 n (L.effect c v d.0 d.1 d.2)))
        | inr g ↦ inr g
      ]
    ]
  ]

  pub steady_law : (A : Type 0) → SteadyLaw u A
  steady_law A row left v m w x s t r = elim (phase row left v m s t)
      [ inl l ↦ inl l | inr g ↦ inr (run_longer left m w x g r) ]

pub asking_law : (S A : Type 0) → AskingLaw S A
unfolding Steady
asking_law S A g (Ret a) s = tt
asking_law S A g (Do c k) s = (s.0.1, λ r. asking_law S A (g || grows c) (k r) (s.1 r))
