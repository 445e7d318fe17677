-- Classes and those that they are below.
use Rattle.std.proofs.Common.{arith, ◌≡◌, ℕ, zero, suc, ◌+◌, ◌≤◌, Bool, true, false, cond, eqb, refl, sym, ap, ◌∙◌}
use Rattle.std.proofs.lemmas.Bool.{eq-eqb, eqb-true}
use Rattle.py_data.specs.declared.value.Addr.{Addr}
use Rattle.py_data.specs.declared.value.Value.{Value}
use Rattle.py_data.specs.declared.value.Value.TheVariants.{Unset, None as NoneValue, Bool as BoolValue, Int, Ref, Builtin}
use Rattle.py_data.specs.Heap.{Heap}
use Rattle.py_data.specs.Closed.{base_of, BasesEnd}
use Rattle.obj_class.specs.Bases.{ref, up, IsBelow, is_below}
use Rattle.obj_class.specs.Laws.{BelowLaw}

-- more turns than there are classes on the way change nothing
pub more_turns : (h : Heap) (base n m : ℕ) (v : Value) → BasesEnd h n v → n ≤ m →
    is_below h base m v ≡ is_below h base n v
more_turns h base zero zero NoneValue e l = refl
more_turns h base zero (suc m) NoneValue e l = refl
more_turns h base (suc n) zero v e l = absurd (omega (arith, l))
more_turns h base (suc n) (suc m) NoneValue e l = refl
more_turns h base (suc n) (suc m) (Ref c) e l =
    ap (cond (eqb c.0 base) true) (more_turns h base n m (base_of (h c.0)) e (omega (arith, l)))
more_turns h base n m v e l = absurd e

one_below : (h : Heap) (base n : ℕ) (c : Addr) (b : Bool) → eqb c.0 base ≡ b →
    (is_below h base n (base_of (h c.0)) ≡ true → IsBelow h base (base_of (h c.0))) →
    cond b true (is_below h base n (base_of (h c.0))) ≡ true → IsBelow h base (Ref c)
one_below h base n c true s more e = (0, ap ref (eqb-true c.0 base s))
one_below h base n c false s more e = let m = more e in (suc m.0, m.1)

-- what the test finds is below
pub below_is : (h : Heap) (base n : ℕ) (v : Value) → is_below h base n v ≡ true → IsBelow h base v
below_is h base zero v e = absurd (let q : false ≡ true = e in cc)
below_is h base (suc n) (Ref c) e = one_below h base n c (eqb c.0 base) refl (below_is h base n (base_of (h c.0))) e
below_is h base (suc n) Unset e = absurd (let q : false ≡ true = e in cc)
below_is h base (suc n) NoneValue e = absurd (let q : false ≡ true = e in cc)
below_is h base (suc n) (BoolValue b) e = absurd (let q : false ≡ true = e in cc)
below_is h base (suc n) (Int i) e = absurd (let q : false ≡ true = e in cc)
below_is h base (suc n) (Builtin b) e = absurd (let q : false ≡ true = e in cc)

-- nothing is above None
pub up_none : (h : Heap) (k : ℕ) → up h k NoneValue ≡ NoneValue
up_none h zero = refl
up_none h (suc k) = refl

none_up : (h : Heap) (k base : ℕ) → up h k NoneValue ≡ ref base → ⊥
none_up h k base e = let q : NoneValue ≡ ref base = sym (up_none h k) ∙ e in cc

one_found : (h : Heap) (base n k : ℕ) (c : Addr) (b : Bool) → eqb c.0 base ≡ b →
    ((j : ℕ) → up h j (base_of (h c.0)) ≡ ref base → is_below h base n (base_of (h c.0)) ≡ true) →
    up h k (Ref c) ≡ ref base
    → cond b true (is_below h base n (base_of (h c.0))) ≡ true
one_found h base n k c true s more e = refl
one_found h base n zero c false s more e =
    absurd (let q : Ref c ≡ ref base = e in let r : c.0 ≡ base = cc in let t = eq-eqb c.0 base r in
    let z : false ≡ true = sym s ∙ t in cc)
one_found h base n (suc k) c false s more e = more k e

-- where the way ends after so many classes, the test finds whatever is below
pub is_found : (h : Heap) (base n k : ℕ) (v : Value) → BasesEnd h n v → up h k v ≡ ref base → is_below h base n v ≡ true
is_found h base zero k NoneValue e b = absurd (none_up h k base b)
is_found h base (suc n) k NoneValue e b = absurd (none_up h k base b)
is_found h base (suc n) k (Ref c) e b = one_found h base n k c (eqb c.0 base) refl
    (λ j f. is_found h base n j (base_of (h c.0)) e f) b
is_found h base n k v e b = absurd e

-- steps and then further ones
up_then : (h : Heap) (j k : ℕ) (v : Value) → up h j (up h k v) ≡ up h (k + j) v
up_then h j zero v = let e : j ≡ zero + j = omega arith in ap (λ n. up h n v) e
up_then h j (suc k) (Ref c) = let e : suc (k + j) ≡ suc k + j = omega arith in up_then h j k (base_of (h c.0)) ∙
    ap (λ n. up h n (Ref c)) e
up_then h j (suc k) Unset = let e : suc (k + j) ≡ suc k + j = omega arith in up_none h j ∙ ap (λ n. up h n Unset) e
up_then h j (suc k) NoneValue = let e : suc (k + j) ≡ suc k + j = omega arith in up_none h j ∙
    ap (λ n. up h n NoneValue) e
up_then h j (suc k) (BoolValue b) = let e : suc (k + j) ≡ suc k + j = omega arith in up_none h j ∙
    ap (λ n. up h n (BoolValue b)) e
up_then h j (suc k) (Int i) = let e : suc (k + j) ≡ suc k + j = omega arith in up_none h j ∙ ap (λ n. up h n (Int i)) e
up_then h j (suc k) (Builtin b) = let e : suc (k + j) ≡ suc k + j = omega arith in up_none h j ∙
    ap (λ n. up h n (Builtin b)) e

then_below : (h : Heap) (a b c n : ℕ) → BasesEnd h n (ref a) → is_below h b n (ref a) ≡ true →
    is_below h c n (ref b) ≡ true → is_below h c n (ref a) ≡ true
then_below h a b c n e p q =
    let x = below_is h b n (ref a) p in
    let y = below_is h c n (ref b) q in
    is_found h c n (x.0 + y.0) (ref a) e (sym (up_then h y.0 x.0 (ref a)) ∙ (ap (up h y.0) x.1 ∙ y.1))

pub below_law : BelowLaw
below_law = record {
  same = λ h c n. ap (λ b. cond b true (is_below h c n (base_of (h c)))) (eq-eqb c c refl);
  then = then_below;
  sound = below_is;
  complete = λ h base n v e b. is_found h base n b.0 v e b.1;
  more = more_turns;
}
