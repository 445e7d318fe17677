-- The targets of a loop, and what it goes over, are read.
use Rattle.std.proofs.Common.{◌≡◌, ℕ, zero, suc, ◌+◌, ◌<◌, ◌≤◌, nat_le, true, List, [], ◌∷◌, ◌++◌, length, Ok, Err, inl, refl, sym, ap, ◌∙◌, append_assoc, if◌then◌else◌, arith, length-append, le-ltb}
use Rattle.py_tokens.specs.declared.token.Token.{Token}
use Rattle.py_tokens.specs.declared.token.Place.{Place}
use Rattle.py_tokens.specs.Place.{token_at as at}
use Rattle.py_tree.specs.declared.expr.Expr.{Expr}
use Rattle.py_tree.specs.Height.{height}
use Rattle.py_grammar.specs.declared.fault.Fault.TheVariants.{Deep}
use Rattle.py_grammar.specs.Grammar.{Marks}
use Rattle.py_grammar.specs.declared.tall.Tall.{Tall}
use Rattle.py_grammar.specs.inner.Tall.{push, start, of_tuple}
use Rattle.py_tree.specs.Height.{tops}
use Rattle.py_tree.proofs.Heights as hh
use Rattle.py_grammar.specs.inner.Aiming.{Readers, readers}
use Rattle.py_grammar.specs.inner.Reading.{Reads, ◌>>=◌, first, rest, is_op, comes}
use Rattle.py_grammar.proofs.Steps.{of, Reaches, then_reads, at_same}
use Rattle.py_grammar.proofs.Values.{plus_tests, push_tests, same, as_tuple}
use Rattle.py_grammar.specs.inner.Follow.{stops}
use Rattle.py_grammar.proofs.Begin.{headed, begin, as_value, long}
use Rattle.py_grammar.proofs.TargetReads.{slack, complete_target}
use Rattle.py_grammar.proofs.ReadSteps.{tests_nil}
use Rattle.py_grammar.specs.Statements as S
use Rattle.py_grammar.specs.Statements.{Targets, Loops}
use Rattle.py_grammar.specs.inner.Lines.{ends_loop, target_at, loops_at, loop_at, Suite, body_at, clause_at, Parts, statement_at, block_at, line_of_at, statements_at}
use Rattle.py_tree.specs.declared.stmt.Stmt.{Stmt}
use Rattle.py_tree.specs.declared.stmt.Stmt.TheVariants as st
use Rattle.py_grammar.specs.inner.Reading.{op_at, keyword_at}
use Rattle.py_grammar.specs.Codes as c
use Rattle.py_grammar.proofs.BlockSteps.{single}

le_leb : (n d : ℕ) → n ≤ d → nat_le n d ≡ true
le_leb n d h = grind (arith, h)

s_loops : (under : Readers) (f : ℕ) (found : Tall (List Expr)) (p : Place) (us : List Token) →
    comes 1 (first us) ≡ true → loops_at under (suc f) found (at c.comma p ∷ us) ≡
    (target_at under ends_loop us >>= λ a. loops_at under f (push found a.0) a.1)
unfolding loops_at
s_loops under f found p us h = rw h refl

s_loops_in : (under : Readers) (f : ℕ) (found : Tall (List Expr)) (q : Place) (us : List Token) →
    loops_at under f found (at c.in_ q ∷ us) ≡ Ok (found, at c.in_ q ∷ us)
unfolding loops_at
s_loops_in under zero found q us = refl
s_loops_in under (suc f) found q us = refl

s_loops_comma : (under : Readers) (f : ℕ) (found : Tall (List Expr)) (p q : Place) (us : List Token) → 0 < f →
    loops_at under f found (at c.comma p ∷ at c.in_ q ∷ us) ≡ Ok (found, at c.in_ q ∷ us)
unfolding loops_at
s_loops_comma under zero found p q us h = absurd (omega arith)
s_loops_comma under (suc f) found p q us h = refl

complete_loops : {x : Marks} {es : List Expr} {us : List Token} → Targets x es us →
    (g d f : ℕ) (found : Tall (List Expr)) (p : Place) (ws vs : List Token) →
    ((k' : ℕ) (r : Tall (List Expr)) → 0 < k' → loops_at (readers g d) k' r ws ≡ Ok (r, vs)) →
    stops 1 (first ws) ≡ true → ends_loop (first ws) ≡ true → length us ≤ g → suc (length us) ≤ f →
    slack x + tops es ≤ d → Reaches x (loops_at (readers g d) f found (at c.comma p ∷ us ++ ws)) (plus_tests found es)
    vs
complete_loops (S.one t) g d zero found p ws vs E s e l m h = absurd (omega arith)
complete_loops (S.one {x = x} {a = a} {ts = ts} t) g d (suc f) found p ws vs E s e l m h =
    at_same x _ _ _ vs (s_loops (readers g d) f found p (ts ++ ws) (begin (headed t.spells) ws))
    (then_reads x _ (λ a. loops_at (readers g d) f (push found a.0) a.1) (of a) ws _ vs
    (complete_target t ends_loop g d ws l (omega arith) s e)
    (inl (E f (push found (of a)) (omega (arith, long (headed t.spells))) ∙
    ap (λ v. Ok (v, vs)) (sym (tests_nil (push found (of a))) ∙ push_tests found a []))))
complete_loops (S.more q t r) g d zero found p ws vs E s e l m h = absurd (omega arith)
complete_loops (S.more q {x = x} {a = a} {es = es} {ts = ts} {us = us} t r) g d (suc f) found p ws vs E s e l m h =
    let len = length-append ts (at c.comma q ∷ us) in let pos = long (headed t.spells) in
    at_same x _ _ _ vs (ap (λ z. loops_at (readers g d) (suc f) found (at c.comma p ∷ z))
    (append_assoc ts (at c.comma q ∷ us) ws) ∙ s_loops (readers g d) f found p (ts ++ (at c.comma q ∷ us ++ ws))
    (begin (headed t.spells) _))
    (then_reads x _ (λ a. loops_at (readers g d) f (push found a.0) a.1) (of a) (at c.comma q ∷ us ++ ws) _ vs
    (complete_target t ends_loop g d _ (omega arith) (omega arith) refl refl)
    (as_value x _ _ _ vs (push_tests found a es)
    (complete_loops r g d f (push found (of a)) q ws vs E s e (omega arith) (omega arith) (omega arith))))

abbrev loop_more : Readers → ℕ → ℕ → Tall Expr × List Token → Reads (Tall Expr)
loop_more under d g a = if is_op 38 (first a.1) then
    (if nat_le (a.0.tall + 1) d then (loops_at under g (start a.0) a.1 >>= λ es. Ok (of_tuple es.0, es.1)) else Err
    (Deep, a.1)) else Ok a

s_loop : (same under : Readers) (d g : ℕ) (us : List Token) →
    loop_at same under d g us ≡ (target_at same ends_loop us >>= loop_more under d g)
unfolding loop_at
s_loop same under d g us = refl

s_loop_comma : (under : Readers) (d g : ℕ) (a : Tall Expr) (p : Place) (us : List Token) → a.tall + 1 ≤ d →
    loop_more under d g (a, at c.comma p ∷ us) ≡ (loops_at under g (start a) (at c.comma p ∷ us) >>= λ es.
    Ok (of_tuple es.0, es.1))
s_loop_comma under d g a p us h = rw (le_leb (a.tall + 1) d h) refl

pub complete_loop : {x : Marks} {a : Expr} {ts : List Token} → Loops x a ts →
    (g d : ℕ) (q : Place) (rest : List Token) → length ts ≤ g → slack x + height a ≤ suc d →
    Reaches x (loop_at (readers g (suc d)) (readers g d) (suc d) g (ts ++ at c.in_ q ∷ rest)) (of a) (at c.in_ q ∷ rest)
complete_loop (S.single {x = x} {a = a} {ts = ts} t) g d q rest l h =
    at_same x _ _ _ _ (s_loop (readers g (suc d)) (readers g d) (suc d) g (ts ++ at c.in_ q ∷ rest))
    (then_reads x _ (loop_more (readers g d) (suc d) g) (of a) (at c.in_ q ∷ rest) _ _
    (complete_target t ends_loop g (suc d) _ l h refl refl) (inl refl))
complete_loop (S.lone p {x = x} {a = a} {ts = ts} t) g d q rest l h =
    let len = length-append ts (at c.comma p ∷ []) in let up = hh.height_tuple (a ∷ []) in
    at_same x _ _ _ _ (ap (loop_at (readers g (suc d)) (readers g d) (suc d) g)
    (append_assoc ts (at c.comma p ∷ []) (at c.in_ q ∷ rest)) ∙
    s_loop (readers g (suc d)) (readers g d) (suc d) g (ts ++ at c.comma p ∷ at c.in_ q ∷ rest))
    (then_reads x _ (loop_more (readers g d) (suc d) g) (of a) (at c.comma p ∷ at c.in_ q ∷ rest) _ _
    (complete_target t ends_loop g (suc d) _ (omega arith) (omega arith) refl refl)
    (inl (s_loop_comma (readers g d) (suc d) g (of a) p (at c.in_ q ∷ rest) (omega arith) ∙
    ap (λ r. r >>= λ es. Ok (of_tuple es.0, es.1))
    (s_loops_comma (readers g d) g (start (of a)) p q rest (omega arith)) ∙
    ap (λ v. Ok (v, at c.in_ q ∷ rest)) (ap of_tuple (sym (tests_nil (start (of a)))) ∙ as_tuple a []))))
complete_loop (S.several p {x = x} {a = a} {b = b} {es = es} {ts = ts} {us = us} t r) g d q rest l h =
    let len = length-append ts (at c.comma p ∷ us) in let up = hh.height_tuple (a ∷ b ∷ es) in let pos =
    long (headed t.spells) in
    at_same x _ _ _ _ (ap (loop_at (readers g (suc d)) (readers g d) (suc d) g)
    (append_assoc ts (at c.comma p ∷ us) (at c.in_ q ∷ rest)) ∙
    s_loop (readers g (suc d)) (readers g d) (suc d) g (ts ++ (at c.comma p ∷ us ++ at c.in_ q ∷ rest)))
    (then_reads x _ (loop_more (readers g d) (suc d) g) (of a) (at c.comma p ∷ us ++ at c.in_ q ∷ rest) _ _
    (complete_target t ends_loop g (suc d) _ (omega arith) (omega arith) refl refl)
    (at_same x _ _ _ _ (s_loop_comma (readers g d) (suc d) g (of a) p (us ++ at c.in_ q ∷ rest) (omega arith))
    (then_reads x _ (λ es. Ok (of_tuple es.0, es.1)) (plus_tests (start (of a)) (b ∷ es)) (at c.in_ q ∷ rest) _ _
    (complete_loops r g d g (start (of a)) p (at c.in_ q ∷ rest) (at c.in_ q ∷ rest)
    (λ k' v z. s_loops_in (readers g d) k' v q rest) refl refl (omega arith) (omega arith) (omega arith))
    (inl (ap (λ v. Ok (v, at c.in_ q ∷ rest)) (as_tuple a (b ∷ es)))))))
complete_loop (S.several_comma p p' {x = x} {a = a} {b = b} {es = es} {ts = ts} {us = us} t r) g d q rest l h =
    let len = length-append (ts ++ at c.comma p ∷ us) (at c.comma p' ∷ []) in let len' =
    length-append ts (at c.comma p ∷ us) in let up = hh.height_tuple (a ∷ b ∷ es) in let pos =
    long (headed t.spells) in
    at_same x _ _ _ _ (ap (loop_at (readers g (suc d)) (readers g d) (suc d) g)
    (append_assoc (ts ++ at c.comma p ∷ us) (at c.comma p' ∷ []) (at c.in_ q ∷ rest) ∙
    append_assoc ts (at c.comma p ∷ us) (at c.comma p' ∷ at c.in_ q ∷ rest)) ∙
    s_loop (readers g (suc d)) (readers g d) (suc d) g
    (ts ++ (at c.comma p ∷ us ++ at c.comma p' ∷ at c.in_ q ∷ rest)))
    (then_reads x _ (loop_more (readers g d) (suc d) g) (of a) (at c.comma p ∷ us ++ at c.comma p' ∷ at c.in_ q ∷ rest)
    _ _ (complete_target t ends_loop g (suc d) _ (omega arith) (omega arith) refl refl)
    (at_same x _ _ _ _ (s_loop_comma (readers g d) (suc d) g (of a) p (us ++ at c.comma p' ∷ at c.in_ q ∷ rest)
    (omega arith))
    (then_reads x _ (λ es. Ok (of_tuple es.0, es.1)) (plus_tests (start (of a)) (b ∷ es)) (at c.in_ q ∷ rest) _ _
    (complete_loops r g d g (start (of a)) p (at c.comma p' ∷ at c.in_ q ∷ rest) (at c.in_ q ∷ rest)
    (λ k' v z. s_loops_comma (readers g d) k' v p' q rest z) refl refl (omega arith) (omega arith) (omega arith))
    (inl (ap (λ v. Ok (v, at c.in_ q ∷ rest)) (as_tuple a (b ∷ es)))))))

abbrev pub for_body : Suite → ℕ → Tall Expr → Tall Expr × List Token → Reads Stmt
for_body block l t a = body_at block a.1 >>= λ b.
    (clause_at 9 block b.1 >>= λ d. Ok (st.For l t.tree a.0.tree b.0 d.0, d.1))

abbrev pub for_more : Readers → Suite → ℕ → Tall Expr × List Token → Reads Stmt
for_more under block l t = keyword_at 18 t.1 >>= λ word. (under.read 15 word.1 >>= for_body block l t.0)

pub s_for : (P : Parts) (g d : ℕ) (p : Place) (us : List Token) → 3 ≤ d →
    statement_at P g d (at c.for_ p ∷ us) ≡
    ((loop_at P.under P.lower P.budget g us >>= for_more P.under P.block p.line) >>= single)
unfolding statement_at
s_for P g d p us h = rw (le-ltb d 3 h) refl

pub s_in : (under : Readers) (block : Suite) (l : ℕ) (t : Tall Expr) (q : Place) (us : List Token) →
    for_more under block l (t, at c.in_ q ∷ us) ≡ (under.read 15 us >>= for_body block l t)
unfolding keyword_at
s_in under block l t q us = refl

pub s_for_body : (block : Suite) (l : ℕ) (t a : Tall Expr) (q : Place) (us : List Token) →
    for_body block l t (a, at c.colon q ∷ us) ≡
    (block us >>= λ b. (clause_at 9 block b.1 >>= λ d. Ok (st.For l t.tree a.tree b.0 d.0, d.1)))
unfolding body_at op_at
s_for_body block l t a q us = refl

abbrev pub Blocked : ℕ → ℕ → Suite
Blocked g d = block_at (line_of_at g d) (statements_at g d) g
