-- The equations of reading.
use Rattle.std.proofs.Common.{◌≡◌, ℕ, zero, suc, ◌-◌, ◌<◌, Bool, true, false, ◌||◌, List, Ok, Err, Option, Some, None, ◌⊎◌, inl, inr, refl, ap, ◌∙◌, arith}
use Rattle.std.proofs.lemmas.Bool.{or_parts}
use Rattle.py_tokens.specs.declared.token.Token.{Token}
use Rattle.py_tree.specs.declared.expr.Expr.{Expr}
use Rattle.py_tree.specs.declared.expr.Level.{Level}
use Rattle.py_tree.specs.Height.{height}
use Rattle.py_tree.specs.Form.{form}
use Rattle.py_base.specs.declared.refusal.Construct.{Construct}
use Rattle.py_grammar.specs.declared.fault.Fault.TheVariants.{LeftOut}
use Rattle.py_grammar.specs.Words.{below}
use Rattle.py_grammar.specs.Grammar.{Marks}
use Rattle.py_grammar.specs.declared.tall.Tall.{Tall}
use Rattle.py_grammar.specs.declared.rung.Rung.{Rung}
use Rattle.py_grammar.specs.declared.rung.Rung.TheVariants.{Trailed, Powered, Signed, Chained, Negated, Chosen, Listed}
use Rattle.py_grammar.specs.inner.Reading.{Reads, Test, ◌>>=◌, Below, first, is_op, is_keyword, is_some, rung_of, rung_at, level_at, reads, atom_at, trail_at, power_at, chain_at, choice_at, after_at, signed, sign_of, trails, links}
use Rattle.py_grammar.specs.inner.Follow.{takes, heads}

-- a tree with its height and form
abbrev pub of : Expr → Tall Expr
of a = record { tree = a; tall = height a; form = form a }

-- read, or refused as the construct that the marks allow
abbrev pub Reaches : {A : Type 0} → Marks → Reads A → A → List Token → Type 0
Reaches x r a us = (r ≡ Ok (a, us)) ⊎ ((c : Construct) × (vs : List Token) × (x ≡ Some c) × (r ≡ Err (LeftOut c, vs)))

pub then_reads : {A B : Type 0} (x : Marks) (r : Reads A) (f : A × List Token → Reads B) (a : A) (us : List Token)
    (b : B) (vs : List Token) → Reaches x r a us → Reaches x (f (a, us)) b vs → Reaches x (r >>= f) b vs
then_reads x r f a us b vs (inl p) (inl q) = inl (ap (λ z. z >>= f) p ∙ q)
then_reads x r f a us b vs (inl p) (inr q) = inr (q.0, q.1, q.2, ap (λ z. z >>= f) p ∙ q.3)
then_reads x r f a us b vs (inr p) q = inr (p.0, p.1, p.2, ap (λ z. z >>= f) p.3)

pub at_same : {A : Type 0} (x : Marks) (q r : Reads A) (a : A) (us : List Token) → q ≡ r → Reaches x r a us →
    Reaches x q a us
at_same x q r a us e (inl p) = inl (e ∙ p)
at_same x q r a us e (inr p) = inr (p.0, p.1, p.2, e ∙ p.3)

-- ---- budgets

at_zero : (g d : ℕ) (us : List Token) → (reads g (suc d)).read 0 us ≡ atom_at (reads g d) g us
unfolding reads level_at
at_zero g d us = refl

at_suc : (g d n : ℕ) (us : List Token) → (reads g (suc d)).read (suc n) us ≡ rung_at (rung_of n) (reads g d) g (suc d)
    ((reads g (suc d)).read n) us
unfolding reads level_at
at_suc g d n us = refl

pub reads_atom : (g d : ℕ) (us : List Token) → 0 < d → (reads g d).read 0 us ≡ atom_at (reads g (d - 1)) g us
reads_atom g zero us h = absurd (omega arith)
reads_atom g (suc d) us h = let e : suc d - 1 ≡ d = omega arith in rw e (at_zero g d us)

pub reads_up : (g d n : ℕ) (us : List Token) → 0 < d →
    (reads g d).read (suc n) us ≡ rung_at (rung_of n) (reads g (d - 1)) g d ((reads g d).read n) us
reads_up g zero n us h = absurd (omega arith)
reads_up g (suc d) n us h = let e : suc d - 1 ≡ d = omega arith in rw e (at_suc g d n us)

-- ---- a rung that adds nothing

pub trail_quiet : (under : Below) (g d : ℕ) (v : Tall Expr) (us : List Token) → trails (first us) ≡ false →
    trail_at under g d (v, us) ≡ Ok (v, us)
unfolding trail_at
trail_quiet under g d v us h = rw h refl

power_quiet : (under : Below) (d : ℕ) (v : Tall Expr) (us : List Token) → is_op 4 (first us) ≡ false →
    power_at under d (v, us) ≡ Ok (v, us)
unfolding power_at
power_quiet under d v us h = rw h refl

chain_quiet : (l : Level) (next : Test) (g d : ℕ) (v : Tall Expr) (us : List Token) → links l (first us) ≡ false →
    chain_at l next g d (v, us) ≡ Ok (v, us)
unfolding chain_at
chain_quiet l next g d v us h = rw h refl

choice_quiet : (under : Below) (d : ℕ) (v : Tall Expr) (us : List Token) → is_keyword 16 (first us) ≡ false →
    choice_at under d (v, us) ≡ Ok (v, us)
unfolding choice_at
choice_quiet under d v us h = rw h refl

pub after_quiet : (under : Below) (g d : ℕ) (v : Tall Expr) (us : List Token) → is_op 38 (first us) ≡ false →
    after_at under g d v us ≡ Ok (v, us)
unfolding after_at
after_quiet under g d v us h = rw h refl

pub none_of : {A : Type 0} (o : Option A) → is_some o ≡ false → o ≡ None
none_of None h = refl
none_of (Some a) h = absurd (grind (arith, h))

pub quiet : (x : Marks) (r : Rung) (under : Below) (g d : ℕ) (operand : Test) (us vs : List Token) (v : Tall Expr) →
    heads r (first us) ≡ false → takes r (first vs) ≡ false → Reaches x (operand us) v vs →
    Reaches x (rung_at r under g d operand us) v vs
quiet x Trailed under g d operand us vs v h t p = then_reads x (operand us) (trail_at under g d) v vs v vs p
    (inl (trail_quiet under g d v vs t))
quiet x Powered under g d operand us vs v h t p = then_reads x (operand us) (power_at under d) v vs v vs p
    (inl (power_quiet under d v vs t))
quiet x Signed under g d operand us vs v h t p =
    at_same x _ (operand us) v vs (ap (λ s. signed under d operand s us) (none_of (sign_of (first us)) h)) p
quiet x (Chained l) under g d operand us vs v h t p = then_reads x (operand us) (chain_at l (under.read (below l)) g d)
    v vs v vs p (inl (chain_quiet l (under.read (below l)) g d v vs t))
quiet x Negated under g d operand us vs v h t p = rw h p
quiet x Chosen under g d operand us vs v h t p =
    rw h (then_reads x (operand us) (choice_at under d) v vs v vs p (inl (choice_quiet under d v vs t)))
quiet x Listed under g d operand us vs v h t p = then_reads x (operand us) (λ a. after_at under g d a.0 a.1) v vs v vs
    p (inl (after_quiet under g d v vs (or_parts (is_op 38 (first vs)) _ t).0))
