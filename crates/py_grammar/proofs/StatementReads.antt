-- Which reader a statement goes to, and that a line of simple statements is read.
use Rattle.std.proofs.Common.{◌≡◌, ℕ, zero, suc, ◌+◌, ◌-◌, ◌<◌, ◌≤◌, ◌==◌, true, false, List, [], ◌∷◌, ◌++◌, length, Err, refl, sym, ap, ◌∙◌, subst, append_assoc, arith}
use Rattle.py_tokens.specs.declared.token.Token.{Token}
use Rattle.py_tokens.specs.declared.token.TokenKind.{TokenKind}
use Rattle.py_tokens.specs.declared.token.TokenKind.TheVariants as k
use Rattle.py_tokens.specs.declared.token.Place.{Place}
use Rattle.py_tokens.specs.Place.{token_at as at}
use Rattle.py_grammar.specs.declared.fault.Fault.TheVariants.{LeftOut}
use Rattle.py_grammar.specs.Grammar.{Marks}
use Rattle.py_grammar.specs.inner.Aiming.{readers}
use Rattle.py_grammar.specs.inner.Reading.{first, rest, comes}
use Rattle.py_grammar.proofs.Steps.{Reaches, at_same}
use Rattle.py_grammar.proofs.Facts.{apart}
use Rattle.py_grammar.proofs.Begin.{Headed, more_headed, begin}
use Rattle.py_grammar.proofs.TargetReads.{slack}
use Rattle.py_grammar.proofs.AssignReads.{exprs_headed}
use Rattle.py_grammar.proofs.Simple.{complete_line}
use Rattle.py_grammar.specs.Statements as S
use Rattle.py_grammar.specs.Statements.{Simple, Line}
use Rattle.py_grammar.specs.inner.Lines.{line_at, Parts, statement_by, statement_at, block_at, line_of_at, statements_at}
use Rattle.py_tree.specs.declared.stmt.Stmt.{Stmt}
use Rattle.py_tree.specs.Tall.{talls}
use Rattle.py_tree.proofs.Talls as ht
use Rattle.py_grammar.specs.Codes as c
use Rattle.py_base.specs.declared.refusal.Construct.TheVariants as left

-- ---- which reader a statement goes to

abbrev parts : ℕ → ℕ → Parts
parts g d = record {
  under = readers g (d - 1);
  lower = readers g (d - 2);
  budget = d - 1;
  block =
      block_at (line_of_at g (d - 2)) (statements_at g (d - 2)) g;
}

st_three : (g d : ℕ) (us : List Token) → 3 ≤ d → statements_at g d us ≡ statement_at (parts g d) g d us
unfolding statements_at
st_three g zero us h = absurd (omega arith)
st_three g (suc zero) us h = absurd (omega arith)
st_three g (suc (suc d)) us h =
    let e : suc (suc d) - 1 ≡ suc d = omega arith in let f : suc (suc d) - 2 ≡ d = omega arith in rw (e, f) refl

pub record Plainly (g d : ℕ) (us : List Token) : Type 0 where
  pub parts' : Parts
  pub as' : statements_at g d us ≡ statement_at parts' g d us
  pub lower' : parts'.under ≡ readers g (d - 1)

pub st_any : (g d : ℕ) (us : List Token) → 0 < d → Plainly g d us
unfolding statements_at
st_any g zero us h = absurd (omega arith)
st_any g (suc zero) us h = record { parts' = _; as' = refl; lower' = ap (readers g) (omega arith) }
st_any g (suc (suc d)) us h = record { parts' = _; as' = refl; lower' = ap (readers g) (omega arith) }

no_word : (n m : ℕ) → comes 14 (k.Keyword n) ≡ false → comes 14 (k.Keyword m) ≡ true → (m == n) ≡ false
no_word n m p q = apart (λ z. comes 14 (k.Keyword z)) n m p q

by_line : (P : Parts) (g d : ℕ) (kind : TokenKind) (us : List Token) → comes 14 kind ≡ true →
    statement_by P g d kind us ≡ line_at P.under g d us
by_line P g d (k.Keyword m) us h = rw (no_word 29 m refl h)
    (rw (no_word 16 m refl h) (rw (no_word 28 m refl h)
    (rw (no_word 13 m refl h) (rw (no_word 27 m refl h) (rw (no_word 6 m refl h) (rw (no_word 4 m refl h) refl))))))
by_line P g d (k.Op m) us h = rw (apart (λ z. comes 14 (k.Op z)) 43 m refl h) refl
by_line P g d (k.Name m) us h = refl
by_line P g d (k.Int m) us h = refl
by_line P g d (k.Str m) us h = refl
by_line P g d k.Newline us h = refl
by_line P g d k.Indent us h = refl
by_line P g d k.Dedent us h = refl
by_line P g d k.End us h = refl
by_line P g d (k.Other o) us h = refl

abbrev Lined : Parts → ℕ → ℕ → List Token → Type 0
Lined P g d us = statement_at P g d us ≡ line_at P.under g d us

lined : (P : Parts) (g d : ℕ) {ts : List Token} → Headed 14 ts → (us : List Token) → Lined P g d (ts ++ us)
unfolding statement_at
lined P g d {ts = ts} h us = by_line P g d (first (ts ++ us)) (ts ++ us) (begin h us)

simple_lined : {x : Marks} {a : Stmt} {ts : List Token} → Simple x a ts → (P : Parts) (g d : ℕ) (us : List Token) →
    Lined P g d (ts ++ us)
unfolding statement_at
simple_lined (S.run q) P g d us = lined P g d (exprs_headed q) us
simple_lined (S.assign (S.equals p {us = vs} q t m)) P g d us =
    lined P g d (more_headed (at c.assign p ∷ vs) (exprs_headed q)) us
simple_lined (S.augment n o p {us = vs} w q t r) P g d us =
    lined P g d (more_headed (at (k.Op n) p ∷ vs) (exprs_headed q)) us
simple_lined (S.print_end x p) P g d us = refl
simple_lined (S.print p q) P g d us = refl
simple_lined (S.pass x p) P g d us = refl
simple_lined (S.break x p) P g d us = refl
simple_lined (S.continue x p) P g d us = refl
simple_lined (S.return_none x p) P g d us = refl
simple_lined (S.return p q) P g d us = refl
simple_lined (S.raise_none x p) P g d us = refl
simple_lined (S.raise_one p q) P g d us = refl
simple_lined (S.raise_two p i q r) P g d us = refl
simple_lined (S.del p q) P g d us = refl
simple_lined (S.global x p q) P g d us = refl
simple_lined (S.assert_one p q) P g d us = refl
simple_lined (S.assert_two p i q r) P g d us = refl
simple_lined (S.import p q) P g d us = refl
simple_lined (S.from m p i j w q) P g d us = refl
simple_lined (S.exec p) P g d us = refl
simple_lined (S.yield p) P g d us = refl
simple_lined (S.augment_yield n o p i w q t) P g d us =
    lined P g d (more_headed (at (k.Op n) p ∷ at c.yield_ i ∷ []) (exprs_headed q)) us
simple_lined (S.print_to p i) P g d us = refl
simple_lined (S.traceback p i j q r) P g d us = refl
simple_lined (S.from_wrong m p i w) P g d us = refl

line_lined : {x : Marks} {ss : List Stmt} {ts : List Token} → Line x ss ts → (P : Parts) (g d : ℕ) (us : List Token) →
    Lined P g d (ts ++ us)
line_lined (S.end p {ts = ts} q) P g d us = subst (Lined P g d) (sym (append_assoc ts (at k.Newline p ∷ []) us))
    (simple_lined q P g d _)
line_lined (S.end_semicolon p i {ts = ts} q) P g d us =
    subst (Lined P g d) (sym (append_assoc ts (at c.semicolon p ∷ at k.Newline i ∷ []) us)) (simple_lined q P g d _)
line_lined (S.more p {ts = ts} {us = vs} q r) P g d us =
    subst (Lined P g d) (sym (append_assoc ts (at c.semicolon p ∷ vs) us)) (simple_lined q P g d _)

pub line_pos : {x : Marks} {ss : List Stmt} {ts : List Token} → Line x ss ts → 0 < talls ss
line_pos (S.end p {a = a} q) = omega (arith, ht.tall_pos a)
line_pos (S.end_semicolon p i {a = a} q) = omega (arith, ht.tall_pos a)
line_pos (S.more p {a = a} q r) = omega (arith, ht.tall_pos a)

pub s_mark : (P : Parts) (g d : ℕ) (p : Place) (us : List Token) →
    (statement_at P g d (at c.at_sign p ∷ us) ≡ Err (LeftOut left.Decorator, at c.at_sign p ∷ us)) ×
    (statement_at P g d (at c.with_ p ∷ us) ≡ Err (LeftOut left.With, at c.with_ p ∷ us))
unfolding statement_at
s_mark P g d p us = (refl, refl)

pub line_ok : {x : Marks} {ss : List Stmt} {ts : List Token} → Line x ss ts → (g d : ℕ) (rest : List Token) →
    length ts ≤ g → slack x + talls ss ≤ d → Reaches x (statements_at g d (ts ++ rest)) ss rest
line_ok {x = x} {ss = ss} {ts = ts} q g d rest l h =
    let p = st_any g d (ts ++ rest) (omega (arith, line_pos q)) in
    at_same x _ _ _ rest (p.as' ∙ line_lined q p.parts' g d rest ∙ ap (λ u. line_at u g d (ts ++ rest)) p.lower')
    (complete_line q g d rest l h)

pub s_line_of : (g d : ℕ) (us : List Token) → 0 < d → line_of_at g d us ≡ line_at (readers g (d - 1)) g d us
unfolding line_of_at
s_line_of g zero us h = absurd (omega arith)
s_line_of g (suc d) us h = let e : suc d - 1 ≡ d = omega arith in rw e refl
