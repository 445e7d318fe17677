-- What the grammar has is read as its module, and has one tree.
use Rattle.std.proofs.Common.{◌≡◌, ℕ, zero, suc, ◌+◌, ◌≤◌, true, false, List, [], ◌∷◌, ◌++◌, length, Ok, None, inl, inr, refl, sym, ap, ◌∙◌, append_assoc, append-nil, arith, length-append}
use Rattle.py_tokens.specs.declared.token.Token.{Token}
use Rattle.py_tokens.specs.declared.token.TokenKind.{TokenKind}
use Rattle.py_tokens.specs.declared.token.TokenKind.TheVariants as k
use Rattle.py_tokens.specs.declared.token.Place.{Place}
use Rattle.py_tokens.specs.Place.{token_at as at}
use Rattle.py_grammar.specs.Grammar.{Marks}
use Rattle.py_grammar.specs.inner.Reading.{Reads, ◌>>=◌, first, is_some}
use Rattle.py_grammar.proofs.Steps.{Reaches, then_reads, at_same}
use Rattle.py_grammar.proofs.Facts.{no}
use Rattle.py_grammar.proofs.Begin.{as_value}
use Rattle.py_grammar.proofs.TargetReads.{slack}
use Rattle.py_grammar.proofs.Simple.{stray, stray_newline}
use Rattle.py_grammar.proofs.Blocks.{complete_statement}
use Rattle.py_grammar.proofs.HeadReads.{clear}
use Rattle.py_grammar.proofs.BlockSteps.{statement_first, stray_clear, statement_long, talls_append, highest_talls}
use Rattle.py_grammar.specs.Statements.{IsModule}
use Rattle.py_tree.specs.declared.stmt.Module.{Module}
use Rattle.py_tree.specs.Tall.{tall_module}
use Rattle.py_grammar.specs.Statements as S
use Rattle.py_grammar.specs.Statements.{slices, Target, Targets, Simple, Line, Parameter, Later, Parameters, Params, Base, Caught, Loops, Statement, Suite as Suites, Block, Elifs, Else, Finally, Excepts, Compound, Body}
use Rattle.py_grammar.specs.inner.Lines.{is_end, Suite, statements_at, body_more, module_at}
use Rattle.py_tree.specs.declared.stmt.Stmt.{Stmt}
use Rattle.py_tree.specs.Tall.{talls}

stray_end : (kind : TokenKind) → stray kind ≡ false → is_end kind ≡ false
stray_end (k.Keyword m) h = refl
stray_end (k.Name m) h = refl
stray_end (k.Op m) h = refl
stray_end (k.Int m) h = refl
stray_end (k.Str m) h = refl
stray_end k.Newline h = refl
stray_end k.Indent h = refl
stray_end k.Dedent h = refl
stray_end k.End h = no h
stray_end (k.Other o) h = refl

body_first : {x : Marks} {ss : List Stmt} {ts : List Token} → Body x ss ts → clear (first ts) ≡ true
body_first (S.end x p) = refl
body_first (S.newline p r) = refl
body_first (S.more {ts = ts} {us = us} q r) = stray_clear (first (ts ++ us)) (statement_first q us)

s_end : (statement : Suite) (f : ℕ) (found : List Stmt) (p : Place) (us : List Token) →
    body_more statement (suc f) found (at k.End p ∷ us) ≡ Ok (found, us)
unfolding body_more
s_end statement f found p us = refl

s_newline : (statement : Suite) (f : ℕ) (found : List Stmt) (p : Place) (us : List Token) →
    body_more statement (suc f) found (at k.Newline p ∷ us) ≡ body_more statement f found us
unfolding body_more
s_newline statement f found p us = refl

s_more : (statement : Suite) (f : ℕ) (found : List Stmt) (us : List Token) → stray (first us) ≡ false →
    body_more statement (suc f) found us ≡ (statement us >>= λ a. body_more statement f (found ++ a.0) a.1)
unfolding body_more
s_more statement f found us h = rw (stray_end (first us) h) (rw (stray_newline (first us) h) refl)

pub complete_body : {x : Marks} {ss : List Stmt} {ts : List Token} → Body x ss ts → (g d f : ℕ) (found : List Stmt) →
    length ts ≤ g → length ts ≤ f → slack x + talls ss ≤ d →
    Reaches x (body_more (statements_at g d) f found ts) (found ++ ss) []
complete_body (S.end x p) g d zero found l m h = absurd (omega arith)
complete_body (S.end x p) g d (suc f) found l m h =
    inl (s_end (statements_at g d) f found p [] ∙ ap (λ z. Ok (z, [])) (sym (append-nil found)))
complete_body (S.newline p r) g d zero found l m h = absurd (omega arith)
complete_body (S.newline p {x = x} {ts = ts} r) g d (suc f) found l m h =
    at_same x _ _ _ [] (s_newline (statements_at g d) f found p ts)
    (complete_body r g d f found (omega arith) (omega arith) h)
complete_body (S.more {ts = ts} {us = us} q r) g d zero found l m h =
    absurd (omega (arith, length-append ts us, statement_long q))
complete_body (S.more {x = x} {as' = ss} {bs = bs} {ts = ts} {us = us} q r) g d (suc f) found l m h =
    let len = length-append ts us in let top = talls_append ss bs in let pos = statement_long q in
    at_same x _ _ _ [] (s_more (statements_at g d) f found (ts ++ us) (statement_first q us))
    (then_reads x _ (λ a. body_more (statements_at g d) f (found ++ a.0) a.1) ss us _ []
    (complete_statement q g d us (omega arith) (omega arith) (body_first r))
    (as_value x _ _ _ [] (append_assoc found ss bs)
    (complete_body r g d f (found ++ ss) (omega arith) (omega arith) (omega arith))))

-- with or without a mark
pub complete_module : {x : Marks} {ss : List Stmt} {ts : List Token} → Body x ss ts →
    slack x + tall_module (record { body = ss }) ≤ 100 → Reaches x (module_at (length ts) ts) (record { body = ss }) []
unfolding module_at tall_module
complete_module {x = x} {ss = ss} {ts = ts} q h =
    then_reads x _ (λ b. Ok (record { body = b.0 }, b.1)) ss [] _ []
    (complete_body q (length ts) 99 (length ts) [] (omega arith) (omega arith) (omega (arith, highest_talls ss)))
    (inl refl)

pub read : {A : Type 0} {r : Reads A} {v : A} {us : List Token} → Reaches None r v us → r ≡ Ok (v, us)
read (inl p) = p
read (inr p) = no (sym (ap is_some p.2))

-- a list of tokens that is a module of a height of at most 100 is read as it
pub only : (m : Module) (ts : List Token) → IsModule m ts → tall_module m ≤ 100 → module_at (length ts) ts ≡ Ok (m, [])
only m ts q h = read (complete_module q (omega arith))
