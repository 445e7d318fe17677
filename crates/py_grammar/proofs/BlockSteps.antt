-- The equations of reading blocks and compound statements, and what each begins with.
use Rattle.std.proofs.Common.{◌≡◌, ℕ, zero, suc, ◌+◌, ◌<◌, ◌≤◌, max, ◌==◌, Bool, true, false, not, List, [], ◌∷◌, ◌++◌, length, Ok, Option, Some, None, inl, refl, sym, ap, subst, append_assoc, if◌then◌else◌, arith, length-append, le-ltb}
use Rattle.std.proofs.lemmas.Bool.{or_parts}
use Rattle.py_tokens.specs.declared.token.Token.{Token}
use Rattle.py_tokens.specs.declared.token.TokenKind.{TokenKind}
use Rattle.py_tokens.specs.declared.token.TokenKind.TheVariants as k
use Rattle.py_tokens.specs.declared.token.Place.{Place}
use Rattle.py_tokens.specs.Place.{token_at as at}
use Rattle.py_tree.specs.declared.expr.Expr.{Expr}
use Rattle.py_grammar.specs.Grammar.{Marks}
use Rattle.std.proofs.Common.{map}
use Rattle.py_grammar.specs.inner.Aiming.{Readers, readers}
use Rattle.py_grammar.specs.inner.Reading.{Reads, ◌>>=◌, first, rest, is_op, is_keyword, is_some}
use Rattle.py_grammar.proofs.Steps.{Reaches, then_reads, at_same}
use Rattle.py_grammar.proofs.Facts.{no, not_true}
use Rattle.py_grammar.proofs.Values.{of_or}
use Rattle.py_grammar.proofs.TargetReads.{slack}
use Rattle.py_grammar.proofs.Simple.{stray, line_first}
use Rattle.py_tree.specs.declared.stmt.Param.{Param}
use Rattle.py_tree.specs.declared.stmt.Arm.{Arm}
use Rattle.py_tree.specs.declared.stmt.Clause.{Clause}
use Rattle.py_tree.specs.declared.stmt.Handler.{Handler}
use Rattle.py_grammar.specs.Statements as S
use Rattle.py_grammar.specs.Statements.{Line, Caught, Statement, Suite as Suites, Block, Else, Finally, Excepts, Compound}
use Rattle.py_grammar.specs.inner.Lines.{is_newline, is_dedent, plain_at, Suite, body_at, arm_at, elifs_at, clause_at, handler_at, handlers_at, try_at, params_at, def_at, base_at, class_at, Parts, statement_at, suite_at, block_at, line_of_at, statements_at}
use Rattle.py_tree.specs.declared.stmt.Stmt.{Stmt}
use Rattle.py_tree.specs.declared.stmt.Stmt.TheVariants as st
use Rattle.py_tree.specs.Tall.{tall, talls}
use Rattle.py_grammar.specs.inner.Tall.{tree_or}
use Rattle.py_tree.proofs.Talls as ht
use Rattle.py_tree.specs.Height.{top_or, highest}
use Rattle.py_grammar.specs.inner.Reading.{op_at, name_at}
use Rattle.py_grammar.specs.Codes as c
use Rattle.py_grammar.proofs.HeadReads.{clear, s_colon, caught_ok}
use Rattle.py_grammar.proofs.StatementReads.{line_pos}

pub s_block_line : (line statement : Suite) (g : ℕ) (us : List Token) → is_newline (first us) ≡ false →
    block_at line statement g us ≡ line us
unfolding block_at
s_block_line line statement g us h = rw h refl

pub s_block : (line statement : Suite) (g : ℕ) (p q : Place) (us : List Token) →
    block_at line statement g (at k.Newline p ∷ at k.Indent q ∷ us) ≡ suite_at statement g [] us
unfolding block_at plain_at
s_block line statement g p q us = refl

abbrev pub suite_more : Suite → ℕ → List Stmt → List Stmt × List Token → Reads (List Stmt)
suite_more statement g found a = if is_dedent (first a.1) then Ok (found ++ a.0, rest a.1) else suite_at statement g
    (found ++ a.0) a.1

pub s_suite : (statement : Suite) (g : ℕ) (found : List Stmt) (us : List Token) →
    suite_at statement (suc g) found us ≡ (statement us >>= suite_more statement g found)
unfolding suite_at
s_suite statement g found us = refl

pub clear_not : (kind : TokenKind) → clear kind ≡ true → (is_keyword 8 kind ≡ false) × (is_keyword 9 kind ≡ false) ×
    (is_keyword 10 kind ≡ false) × (is_keyword 12 kind ≡ false)
clear_not (k.Keyword m) h = let e = not_true _ h in let a = or_parts (m == 8) _ e in let b = or_parts (m == 9) _ a.1 in
    let d = or_parts (m == 10) _ b.1 in (a.0, b.0, d.0, d.1)
clear_not (k.Name m) h = (refl, refl, refl, refl)
clear_not (k.Op m) h = (refl, refl, refl, refl)
clear_not (k.Int m) h = (refl, refl, refl, refl)
clear_not (k.Str m) h = (refl, refl, refl, refl)
clear_not k.Newline h = (refl, refl, refl, refl)
clear_not k.Indent h = (refl, refl, refl, refl)
clear_not k.Dedent h = (refl, refl, refl, refl)
clear_not k.End h = (refl, refl, refl, refl)
clear_not (k.Other o) h = (refl, refl, refl, refl)

pub else_first : {x : Marks} {d : Option Clause} {ts : List Token} → Else x d ts → (n : ℕ) → (9 == n) ≡ false →
    (rest : List Token) → is_keyword n (first rest) ≡ false → is_keyword n (first (ts ++ rest)) ≡ false
else_first (S.no_else x) n e rest h = h
else_first (S.else' p q r) n e rest h = e

pub finally_first : {x : Marks} {d : Option Clause} {ts : List Token} → Finally x d ts → (n : ℕ) → (12 == n) ≡ false →
    (rest : List Token) → is_keyword n (first rest) ≡ false → is_keyword n (first (ts ++ rest)) ≡ false
finally_first (S.no_finally x) n e rest h = h
finally_first (S.finally p q r) n e rest h = e

pub s_if : (P : Parts) (g d : ℕ) (p : Place) (us : List Token) → 3 ≤ d →
    statement_at P g d (at c.if_ p ∷ us) ≡
    ((arm_at P.under P.block p.line us >>= λ a.
    (elifs_at P.under P.block g (a.0 ∷ []) a.1 >>= λ as'.
    (clause_at 9 P.block as'.1 >>= λ d. Ok (st.If as'.0 d.0, d.1)))) >>= λ a. Ok (a.0 ∷ [], a.1))
unfolding statement_at
s_if P g d p us h = rw (le-ltb d 3 h) refl

pub s_while : (P : Parts) (g d : ℕ) (p : Place) (us : List Token) → 3 ≤ d →
    statement_at P g d (at c.while_ p ∷ us) ≡
    ((arm_at P.under P.block p.line us >>= λ a. (clause_at 9 P.block a.1 >>= λ d. Ok (st.While a.0 d.0, d.1))) >>= λ a.
    Ok (a.0 ∷ [], a.1))
unfolding statement_at
s_while P g d p us h = rw (le-ltb d 3 h) refl

pub s_elif : (under : Readers) (block : Suite) (f : ℕ) (found : List Arm) (p : Place) (us : List Token) →
    elifs_at under block (suc f) found (at c.elif_ p ∷ us) ≡ (arm_at under block p.line us >>= λ a.
    elifs_at under block f (found ++ a.0 ∷ []) a.1)
unfolding elifs_at
s_elif under block f found p us = refl

pub s_elif_end : (under : Readers) (block : Suite) (f : ℕ) (found : List Arm) (us : List Token) →
    is_keyword 8 (first us) ≡ false → elifs_at under block f found us ≡ Ok (found, us)
unfolding elifs_at
s_elif_end under block zero found us h = refl
s_elif_end under block (suc f) found us h = rw h refl

compound_first : {x : Marks} {a : Stmt} {ts : List Token} → Compound x a ts → (us : List Token) →
    stray (first (ts ++ us)) ≡ false
compound_first (S.if' p q a b d e) us = refl
compound_first (S.while p q a b d) us = refl
compound_first (S.for' p q r a b d e) us = refl
compound_first (S.try p q a b d e) us = refl
compound_first (S.try_finally p q a b) us = refl
compound_first (S.def n p q r r' q' a b) us = refl
compound_first (S.class n p q r a b) us = refl

pub statement_first : {x : Marks} {ss : List Stmt} {ts : List Token} → Statement x ss ts → (us : List Token) →
    stray (first (ts ++ us)) ≡ false
statement_first (S.line q) us = line_first q us
statement_first (S.compound q) us = compound_first q us
statement_first (S.decorated p) us = refl
statement_first (S.with' p) us = refl

pub suite_first : {x : Marks} {ss : List Stmt} {ts : List Token} → Suites x ss ts → (us : List Token) →
    stray (first (ts ++ us)) ≡ false
suite_first (S.last_of q) us = statement_first q us
suite_first (S.then {ts = ts} {us = vs} q r) us = subst (λ z. stray (first z) ≡ false) (sym (append_assoc ts vs us))
    (statement_first q _)

pub stray_clear : (kind : TokenKind) → stray kind ≡ false → clear kind ≡ true
stray_clear (k.Keyword m) h = ap not h
stray_clear (k.Name m) h = refl
stray_clear (k.Op m) h = refl
stray_clear (k.Int m) h = refl
stray_clear (k.Str m) h = refl
stray_clear k.Newline h = refl
stray_clear k.Indent h = refl
stray_clear k.Dedent h = refl
stray_clear k.End h = refl
stray_clear (k.Other o) h = refl

pub stray_dedent : (kind : TokenKind) → stray kind ≡ false → is_dedent kind ≡ false
stray_dedent (k.Keyword m) h = refl
stray_dedent (k.Name m) h = refl
stray_dedent (k.Op m) h = refl
stray_dedent (k.Int m) h = refl
stray_dedent (k.Str m) h = refl
stray_dedent k.Newline h = refl
stray_dedent k.Indent h = refl
stray_dedent k.Dedent h = no h
stray_dedent k.End h = refl
stray_dedent (k.Other o) h = refl

pub highest_talls : (ss : List Stmt) → highest (map tall ss) ≡ talls ss
highest_talls [] = refl
highest_talls (a ∷ ss) = ap (λ n. max (tall a) n) (highest_talls ss)

pub talls_append : (ss us : List Stmt) → talls (ss ++ us) ≡ max (talls ss) (talls us)
talls_append [] us = omega arith
talls_append (a ∷ ss) us = omega (arith, talls_append ss us)

statement_pos : {x : Marks} {ss : List Stmt} {ts : List Token} → Statement x ss ts → 0 < talls ss
statement_pos (S.line q) = line_pos q
statement_pos (S.compound {a = a} q) = omega (arith, ht.tall_pos a)
statement_pos (S.decorated p) = omega (arith, ht.tall_pos (st.Pass p.line))
statement_pos (S.with' p) = omega (arith, ht.tall_pos (st.Pass p.line))

suite_pos : {x : Marks} {ss : List Stmt} {ts : List Token} → Suites x ss ts → 0 < talls ss
suite_pos (S.last_of q) = statement_pos q
suite_pos (S.then {as' = ss} {bs = us} q r) = omega (arith, statement_pos q, talls_append ss us)

pub block_pos : {x : Marks} {ss : List Stmt} {ts : List Token} → Block x ss ts → 0 < talls ss
block_pos (S.short q) = line_pos q
block_pos (S.long p q r w) = suite_pos w

line_long : {x : Marks} {ss : List Stmt} {ts : List Token} → Line x ss ts → 0 < length ts
line_long (S.end p {ts = ts} q) = omega (arith, length-append ts (at k.Newline p ∷ []))
line_long (S.end_semicolon p i {ts = ts} q) = omega (arith, length-append ts (at c.semicolon p ∷ at k.Newline i ∷ []))
line_long (S.more p {ts = ts} {us = us} q r) = omega (arith, length-append ts (at c.semicolon p ∷ us))

pub goes : (statement : Suite) (f : ℕ) (found ss : List Stmt) (us : List Token) → is_dedent (first us) ≡ false →
    suite_more statement f found (ss, us) ≡ suite_at statement f (found ++ ss) us
goes statement f found ss us h = rw h refl

pub statement_long : {x : Marks} {ss : List Stmt} {ts : List Token} → Statement x ss ts → 0 < length ts
statement_long q = long_of _ (statement_first q [])
  where
    long_of : (ts : List Token) → stray (first (ts ++ [])) ≡ false → 0 < length ts
    long_of [] h = no h
    long_of (t ∷ ts) h = omega arith

pub compound_tall : {x : Marks} {a : Stmt} {ts : List Token} → Compound x a ts → 3 ≤ tall a
compound_tall (S.if' p q {a = a} {as' = ss} {rs = rs} {d = o} t b r e) =
    omega (arith, ht.tall_if (record { line = p.line; test = a; body = ss } ∷ rs) o, block_pos b)
compound_tall (S.while p q {a = a} {as' = ss} {d = o} t b e) =
    omega (arith, ht.tall_while (record { line = p.line; test = a; body = ss }) o, block_pos b)
compound_tall (S.for' p q i {a = a} {b = b'} {as' = ss} {d = o} t r b e) =
    omega (arith, ht.tall_for p.line a b' ss o, block_pos b)
compound_tall (S.try p q {as' = ss} {hs = hs} {d = o} {f = f} b r e w) =
    omega (arith, ht.tall_try (record { line = p.line; body = ss }) hs o f, block_pos b)
compound_tall (S.try_finally p q {as' = ss} {f = f} b w) =
    omega (arith, ht.tall_try (record { line = p.line; body = ss }) [] None (Some f), block_pos b)
compound_tall (S.def n p q i i' q' {ps = ps} {as' = ss} r b) = omega (arith, ht.tall_def p.line n ps ss, block_pos b)
compound_tall (S.class n p q i {a = a} {as' = ss} r b) = omega (arith, ht.tall_class p.line n a ss, block_pos b)

abbrev pub parts2 : ℕ → ℕ → Parts
parts2 g d = record {
  under = readers g (suc d);
  lower = readers g d;
  budget = suc d;
  block =
      block_at (line_of_at g d) (statements_at g d) g;
}

pub st_two : (g d : ℕ) (us : List Token) →
    statements_at g (suc (suc d)) us ≡ statement_at (parts2 g d) g (suc (suc d)) us
unfolding statements_at
st_two g d us = refl

abbrev pub single : Stmt × List Token → Reads (List Stmt)
single a = Ok (a.0 ∷ [], a.1)

abbrev pub def_end : Suite → ℕ → List ℕ → List Param × List Token → Reads Stmt
def_end block l n ps = op_at 33 ps.1 >>= λ close. (body_at block close.1 >>= λ b. Ok (st.Def l n ps.0 b.0, b.1))

pub s_def_end : (block : Suite) (l : ℕ) (n : List ℕ) (ps : List Param) (i q : Place) (us : List Token) →
    def_end block l n (ps, at c.close_round i ∷ at c.colon q ∷ us) ≡ (block us >>= λ b. Ok (st.Def l n ps b.0, b.1))
unfolding op_at body_at
s_def_end block l n ps i q us = refl

pub s_def_none : (P : Parts) (g d : ℕ) (n : List ℕ) (p q i i' q' : Place) (us : List Token) → 3 ≤ d →
    statement_at P g d (at c.def_ p ∷ at (k.Name n) q ∷ at c.open_round i ∷ at c.close_round i' ∷ at c.colon q' ∷ us) ≡
    ((P.block us >>= λ b. Ok (st.Def p.line n [] b.0, b.1)) >>= single)
unfolding statement_at def_at name_at op_at body_at
s_def_none P g d n p q i i' q' us h = rw (le-ltb d 3 h) refl

pub s_def : (P : Parts) (g d : ℕ) (n : List ℕ) (p q i : Place) (us : List Token) → is_op 33 (first us) ≡ false → 3 ≤ d →
    statement_at P g d (at c.def_ p ∷ at (k.Name n) q ∷ at c.open_round i ∷ us) ≡
    ((params_at P.under g false [] us >>= def_end P.block p.line n) >>= single)
unfolding statement_at def_at name_at op_at
s_def P g d n p q i us e h = rw (le-ltb d 3 h) (rw e refl)

pub s_class : (P : Parts) (g d : ℕ) (n : List ℕ) (p q : Place) (us : List Token) → 3 ≤ d →
    statement_at P g d (at c.class_ p ∷ at (k.Name n) q ∷ us) ≡
    ((base_at P.under us >>= λ a. (body_at P.block a.1 >>= λ b. Ok (st.Class p.line n (tree_or a.0) b.0, b.1))) >>=
    single)
unfolding statement_at class_at name_at
s_class P g d n p q us h = rw (le-ltb d 3 h) refl

pub tree_of_or : (a : Option Expr) → tree_or (of_or a) ≡ a
tree_of_or None = refl
tree_of_or (Some a) = refl

pub s_try : (P : Parts) (g d : ℕ) (p q : Place) (us : List Token) → 3 ≤ d →
    statement_at P g d (at c.try_ p ∷ at c.colon q ∷ us) ≡
    ((P.block us >>= λ b. try_at P.under P.block g (record { line = p.line; body = b.0 }) b.1) >>= single)
unfolding statement_at body_at op_at
s_try P g d p q us h = rw (le-ltb d 3 h) refl

pub s_try_finally : (under : Readers) (block : Suite) (g : ℕ) (b : Clause) (us : List Token) →
    (is_keyword 10 (first us) ≡ false) × (is_keyword 12 (first us) ≡ true) →
    try_at under block g b us ≡ (clause_at 12 block us >>= λ f. Ok (st.Try b [] None f.0, f.1))
unfolding try_at
s_try_finally under block g b us h = rw h.0 (rw h.1 refl)

abbrev pub try_tail : Suite → Clause → List Handler × List Token → Reads Stmt
try_tail block b hs = clause_at 9 block hs.1 >>= λ d. (clause_at 12 block d.1 >>= λ f. Ok (st.Try b hs.0 d.0 f.0, f.1))

pub s_try_excepts : (under : Readers) (block : Suite) (g : ℕ) (b : Clause) (us : List Token) →
    is_keyword 10 (first us) ≡ true → try_at under block g b us ≡ (handlers_at under block g [] us >>= try_tail block b)
unfolding try_at
s_try_excepts under block g b us h = rw h refl

pub finally_is : {x : Marks} {f : Clause} {ts : List Token} → Finally x (Some f) ts → (us : List Token) →
    (is_keyword 10 (first (ts ++ us)) ≡ false) × (is_keyword 12 (first (ts ++ us)) ≡ true)
finally_is (S.finally p q b) us = (refl, refl)

pub excepts_is : {x : Marks} {hs : List Handler} {ts : List Token} → Excepts x hs ts → (us : List Token) →
    is_keyword 10 (first (ts ++ us)) ≡ true
excepts_is (S.except_one p q r b) us = refl
excepts_is (S.except_more p q r b w) us = refl

abbrev pub handler_more : Readers → Suite → ℕ → List Handler → Handler × List Token → Reads (List Handler)
handler_more under block g found h = if is_some h.0.test then handlers_at under block g (found ++ h.0 ∷ []) h.1 else Ok
    (found ++ h.0 ∷ [], h.1)

pub s_except : (under : Readers) (block : Suite) (g : ℕ) (found : List Handler) (p : Place) (us : List Token) →
    handlers_at under block (suc g) found (at c.except_ p ∷ us) ≡
    (handler_at under block p.line us >>= handler_more under block g found)
unfolding handlers_at
s_except under block g found p us = refl

s_except_end : (under : Readers) (block : Suite) (g : ℕ) (found : List Handler) (us : List Token) →
    is_keyword 10 (first us) ≡ false → handlers_at under block g found us ≡ Ok (found, us)
unfolding handlers_at
s_except_end under block zero found us h = refl
s_except_end under block (suc g) found us h = rw h refl

pub handler_last : (under : Readers) (block : Suite) (g : ℕ) (found : List Handler) (h : Handler) (us : List Token) →
    is_keyword 10 (first us) ≡ false → handler_more under block g found (h, us) ≡ Ok (found ++ h ∷ [], us)
handler_last under block g found h us e = go (is_some h.test)
  where
    go : (b : Bool) → (if b then handlers_at under block g (found ++ h ∷ []) us else Ok (found ++ h ∷ [], us)) ≡ Ok
        (found ++ h ∷ [], us)
    go true = s_except_end under block g (found ++ h ∷ []) us e
    go false = refl

pub handler_ok : {x : Marks} {a b : Option Expr} {ts : List Token} → Caught x a b ts →
    (g d l : ℕ) (block : Suite) (q : Place) (us rest : List Token) (ss : List Stmt) → length ts ≤ g →
    slack x + max (top_or a) (top_or b) ≤ d → Reaches x (block us) ss rest →
    Reaches x (handler_at (readers g d) block l (ts ++ at c.colon q ∷ us))
    (record { line = l; test = a; target = b; body = ss }) rest
unfolding handler_at
handler_ok {x = x} {a = a} {b = b} {ts = ts} p g d l block q us rest ss m h r =
    then_reads x _ (λ v. body_at block v.1 >>= λ w.
    Ok (record { line = l; test = (v.0).0; target = (v.0).1; body = w.0 }, w.1)) (a, b) (at c.colon q ∷ us) _ rest
    (caught_ok p g d q us m h)
    (at_same x _ _ _ rest (ap (λ r. r >>= λ w. Ok (record { line = l; test = a; target = b; body = w.0 }, w.1))
    (s_colon block q us)) (then_reads x _ (λ w. Ok (record { line = l; test = a; target = b; body = w.0 }, w.1)) ss
    rest _ rest r (inl refl)))
