-- The equations of reading simple statements that begin with a keyword.
use Rattle.std.proofs.Common.{◌≡◌, ℕ, ◌+◌, ◌-◌, ◌≤◌, Bool, true, false, List, [], ◌∷◌, ◌++◌, length, Ok, Err, Some, None, inl, refl, ap, append_assoc, if◌then◌else◌, arith, length-append, le-ltb}
use Rattle.py_tokens.specs.declared.token.Token.{Token}
use Rattle.py_tokens.specs.declared.token.TokenKind.{TokenKind}
use Rattle.py_tokens.specs.declared.token.Place.{Place}
use Rattle.py_tokens.specs.Place.{token_at as at}
use Rattle.py_tree.specs.declared.expr.Expr.{Expr}
use Rattle.py_tree.specs.Height.{height}
use Rattle.py_grammar.specs.declared.fault.Fault.TheVariants.{LeftOut}
use Rattle.py_grammar.specs.Grammar.{Marks}
use Rattle.py_grammar.specs.declared.tall.Tall.{Tall}
use Rattle.py_grammar.specs.inner.Tall.{start}
use Rattle.py_tree.specs.Height.{tops}
use Rattle.py_grammar.specs.inner.Aiming.{Readers, readers}
use Rattle.py_grammar.specs.inner.Reading.{Reads, ◌>>=◌, first, rest, is_op, comes}
use Rattle.py_grammar.proofs.Steps.{of, Reaches, then_reads, at_same}
use Rattle.py_grammar.proofs.Facts.{comes_up, not_op, stops_down}
use Rattle.py_grammar.proofs.Values.{plus_tests}
use Rattle.py_grammar.specs.inner.Follow.{stops}
use Rattle.py_grammar.proofs.Begin.{begin, s_tests_end}
use Rattle.py_grammar.proofs.Complete.{complete, complete_exprs, complete_tests}
use Rattle.py_grammar.proofs.ReadSteps.{tests_trailing}
use Rattle.py_grammar.specs.Grammar as G
use Rattle.py_grammar.specs.inner.Lines.{simple_at, print_at, raise_at, assert_at, maybe_at}
use Rattle.py_tree.specs.declared.stmt.Stmt.{Stmt}
use Rattle.py_tree.specs.declared.stmt.Stmt.TheVariants as st
use Rattle.py_grammar.specs.inner.Tall.{tree_or}
use Rattle.py_grammar.specs.Grammar.{Tests, Exprs}
use Rattle.py_grammar.specs.inner.Reading.{tests_at}
use Rattle.py_grammar.specs.Codes as c
use Rattle.py_base.specs.declared.refusal.Construct.TheVariants as left
use Rattle.py_grammar.proofs.AssignReads.{Ends, semicolon, newline, exprs_headed, ends_stop, ends_op, ends_comes}

-- ---- statements with a keyword

pub s_print_end : (under : Readers) (g l : ℕ) (us : List Token) → Ends (first us) →
    print_at under g l us ≡ Ok (st.Print l [] false, us)
unfolding print_at
s_print_end under g l us s = rw (ends_op 7 refl _ s) (rw (ends_comes _ s) refl)

pub s_print : (under : Readers) (g l : ℕ) (us : List Token) → comes 14 (first us) ≡ true →
    print_at under g l us ≡ (under.read 14 us >>= λ a.
    (tests_at (under.read 14) g (start a.0) a.1 >>= λ es. Ok (st.Print l (es.0).0.tree (es.0).1, es.1)))
unfolding print_at
s_print under g l us h = rw (not_op 7 (first us) refl h) (rw h refl)

pub print_tests : {x : Marks} {es : List Expr} {b : Bool} {ts : List Token} → Tests x es b ts →
    (g d l : ℕ) (rest : List Token) → length ts ≤ g → tops es ≤ d → Ends (first rest) →
    Reaches x ((readers g d).read 14 (ts ++ rest) >>= λ a.
    (tests_at ((readers g d).read 14) g (start a.0) a.1 >>= λ es. Ok (st.Print l (es.0).0.tree (es.0).1, es.1)))
    (st.Print l es b) rest
print_tests (G.only {x = x} {a = a} r) g d l rest m h s =
    then_reads x _ (λ a. tests_at ((readers g d).read 14) g (start a.0) a.1 >>= λ es.
    Ok (st.Print l (es.0).0.tree (es.0).1, es.1)) (of a) rest _ rest
    (complete r g d rest m (omega arith) (stops_down 14 (first rest) (ends_stop (first rest) s)))
    (inl (ap (λ r. r >>= λ es. Ok (st.Print l (es.0).0.tree (es.0).1, es.1))
    (s_tests_end ((readers g d).read 14) g (start (of a)) rest (ends_op 38 refl _ s))))
print_tests (G.only_comma p {x = x} {a = a} {ts = ts} r) g d l rest m h s =
    let len = length-append ts (at c.comma p ∷ []) in
    at_same x _ _ _ rest (ap (λ w. (readers g d).read 14 w >>= λ a.
    (tests_at ((readers g d).read 14) g (start a.0) a.1 >>= λ es. Ok (st.Print l (es.0).0.tree (es.0).1, es.1)))
    (append_assoc ts (at c.comma p ∷ []) rest))
    (then_reads x _ (λ a. tests_at ((readers g d).read 14) g (start a.0) a.1 >>= λ es.
    Ok (st.Print l (es.0).0.tree (es.0).1, es.1)) (of a) (at c.comma p ∷ rest) _ rest
    (complete r g d _ (omega arith) (omega arith) refl)
    (inl (ap (λ r. r >>= λ es. Ok (st.Print l (es.0).0.tree (es.0).1, es.1))
    (tests_trailing ((readers g d).read 14) g (start (of a)) p rest (omega arith) (ends_comes _ s)))))
print_tests (G.more_tests p {x = x} {a = a} {es = es} {b = b} {ts = ts} {us = us} r q) g d l rest m h s =
    let len = length-append ts (at c.comma p ∷ us) in
    at_same x _ _ _ rest (ap (λ w. (readers g d).read 14 w >>= λ a.
    (tests_at ((readers g d).read 14) g (start a.0) a.1 >>= λ es. Ok (st.Print l (es.0).0.tree (es.0).1, es.1)))
    (append_assoc ts (at c.comma p ∷ us) rest))
    (then_reads x _ (λ a. tests_at ((readers g d).read 14) g (start a.0) a.1 >>= λ es.
    Ok (st.Print l (es.0).0.tree (es.0).1, es.1)) (of a) (at c.comma p ∷ us ++ rest) _ rest
    (complete r g d _ (omega arith) (omega arith) refl)
    (then_reads x _ (λ es. Ok (st.Print l (es.0).0.tree (es.0).1, es.1)) (plus_tests (start (of a)) es, b) rest _ rest
    (complete_tests q g d g (start (of a)) p rest (omega arith) (omega arith) (omega arith) (ends_stop _ s))
    (inl refl)))

s_maybe : (under : Readers) (n : ℕ) (us : List Token) → comes n (first us) ≡ true →
    maybe_at under n us ≡ (under.read n us >>= λ a. Ok (Some a.0, a.1))
unfolding maybe_at
s_maybe under n us h = rw h refl

ends_comes_15 : (kind : TokenKind) → Ends kind → comes 15 kind ≡ false
ends_comes_15 kind semicolon = refl
ends_comes_15 kind newline = refl

pub s_return_none : (under : Readers) (g d : ℕ) (p : Place) (us : List Token) → Ends (first us) →
    simple_at under g d (at c.return_ p ∷ us) ≡ Ok (st.Return p.line None, us)
unfolding simple_at maybe_at
s_return_none under g d p us s = rw (ends_comes_15 _ s) refl

pub s_raise_none : (under : Readers) (g d : ℕ) (p : Place) (us : List Token) → Ends (first us) →
    simple_at under g d (at c.raise_ p ∷ us) ≡ Ok (st.Raise p.line None None, us)
unfolding simple_at
s_raise_none under g d p us s = rw (ends_comes _ s) refl

pub s_raise : (under : Readers) (g d : ℕ) (p : Place) (us : List Token) → comes 14 (first us) ≡ true →
    simple_at under g d (at c.raise_ p ∷ us) ≡ (under.read 14 us >>= raise_at under p.line)
unfolding simple_at
s_raise under g d p us h = rw h refl

pub s_raise_one : (under : Readers) (l : ℕ) (a : Tall Expr) (us : List Token) → is_op 38 (first us) ≡ false →
    raise_at under l (a, us) ≡ Ok (st.Raise l (Some a.tree) None, us)
unfolding raise_at
s_raise_one under l a us h = rw h refl

pub raise_end : ℕ → Tall Expr → Tall Expr × List Token → Reads Stmt
raise_end l a b = if is_op 38 (first b.1) then Err (LeftOut left.Traceback, b.1) else Ok
    (st.Raise l (Some a.tree) (Some b.0.tree), b.1)

pub s_raise_two : (under : Readers) (l : ℕ) (a : Tall Expr) (q : Place) (us : List Token) →
    raise_at under l (a, at c.comma q ∷ us) ≡ (under.read 14 us >>= raise_end l a)
unfolding raise_at raise_end
s_raise_two under l a q us = refl

pub s_raise_end : (l : ℕ) (a b : Tall Expr) (us : List Token) → is_op 38 (first us) ≡ false →
    raise_end l a (b, us) ≡ Ok (st.Raise l (Some a.tree) (Some b.tree), us)
unfolding raise_end
s_raise_end l a b us h = rw h refl

pub s_traceback : (l : ℕ) (a b : Tall Expr) (q : Place) (us : List Token) →
    raise_end l a (b, at c.comma q ∷ us) ≡ Err (LeftOut left.Traceback, at c.comma q ∷ us)
unfolding raise_end
s_traceback l a b q us = refl

pub s_assert : (under : Readers) (g d : ℕ) (p : Place) (us : List Token) → 2 ≤ d →
    simple_at under g d (at c.assert_ p ∷ us) ≡ (under.read 14 us >>= assert_at under p.line)
unfolding simple_at
s_assert under g d p us h = rw (le-ltb d 2 h) refl

pub s_assert_one : (under : Readers) (l : ℕ) (a : Tall Expr) (us : List Token) → is_op 38 (first us) ≡ false →
    assert_at under l (a, us) ≡ Ok (st.Assert l a.tree None, us)
unfolding assert_at
s_assert_one under l a us h = rw h refl

pub s_assert_two : (under : Readers) (l : ℕ) (a : Tall Expr) (q : Place) (us : List Token) →
    assert_at under l (a, at c.comma q ∷ us) ≡ (under.read 14 us >>= λ b. Ok (st.Assert l a.tree (Some b.0.tree), b.1))
unfolding assert_at
s_assert_two under l a q us = refl

pub ends_14 : (us : List Token) → Ends (first us) → stops 14 (first us) ≡ true
ends_14 us s = stops_down 14 (first us) (ends_stop (first us) s)

s_return : (under : Readers) (g d : ℕ) (p : Place) (us : List Token) → comes 15 (first us) ≡ true →
    simple_at under g d (at c.return_ p ∷ us) ≡ ((under.read 15 us >>= λ a. Ok (Some a.0, a.1)) >>= λ a.
    Ok (st.Return p.line (tree_or a.0), a.1))
unfolding simple_at maybe_at
s_return under g d p us h = rw h refl

pub complete_return : {x : Marks} {a : Expr} {ts : List Token} (p : Place) → Exprs x a ts →
    (g d : ℕ) (rest : List Token) → length ts ≤ g → height a + 1 ≤ d → Ends (first rest) →
    Reaches x (simple_at (readers g (d - 1)) g d (at c.return_ p ∷ ts ++ rest)) (st.Return p.line (Some a)) rest
complete_return {x = x} {a = a} {ts = ts} p q g d rest l h s =
    at_same x _ _ _ rest (s_return (readers g (d - 1)) g d p (ts ++ rest)
    (comes_up 14 (first (ts ++ rest)) (begin (exprs_headed q) rest)))
    (then_reads x _ (λ a. Ok (st.Return p.line (tree_or a.0), a.1)) (Some (of a)) rest _ rest
    (then_reads x _ (λ a. Ok (Some a.0, a.1)) (of a) rest _ rest
    (complete_exprs q g (d - 1) rest l (omega arith) (ends_stop _ s)) (inl refl)) (inl refl))
