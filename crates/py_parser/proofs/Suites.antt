-- The equations of reading statements, by the code's budgets.
use Rattle.std.proofs.Common.{◌≡◌, ℕ, zero, suc, ◌+◌, ◌-◌, ◌<◌, List, refl, arith}
use Rattle.std.specs.Prelude.{Err}
use Rattle.py_tokens.specs.declared.token.Token.{Token}
use Rattle.py_tokens.specs.declared.token.TokenKind.{TokenKind}
use Rattle.py_tokens.specs.declared.token.TokenKind.TheVariants as k
use Rattle.py_grammar.specs.declared.fault.Fault.TheVariants.{Deep}
use Rattle.py_grammar.specs.inner.Lines.{Suite, statement_by, statement_at, statements_at, line_of_at, line_at}
use Rattle.py_grammar.specs.inner.Aiming.{readers}
use Rattle.py_grammar.specs.inner.Reading.{first}
use Rattle.py_parser.specs.inner.Suites.{parts_of, inner_block}

-- without room for a block, what reads blocks is not asked
lowest : (g : ℕ) (block other : Suite) (kind : TokenKind) (ts : List Token) →
    statement_by (record { under = readers g 0; lower = readers g 0; budget = 0; block = block }) g 1 kind ts ≡
    statement_by (record { under = readers g 0; lower = readers g 0; budget = 0; block = other }) g 1 kind ts
lowest g block other (k.Name n) ts = refl
lowest g block other (k.Keyword n) ts = refl
lowest g block other (k.Int n) ts = refl
lowest g block other (k.Str n) ts = refl
lowest g block other (k.Op n) ts = refl
lowest g block other k.Newline ts = refl
lowest g block other k.Indent ts = refl
lowest g block other k.Dedent ts = refl
lowest g block other k.End ts = refl
lowest g block other (k.Other o) ts = refl

at_statements : (g d : ℕ) (ts : List Token) → statement_at (parts_of g d) g (suc d) ts ≡ statements_at g (suc d) ts
unfolding statement_at statements_at
at_statements g zero ts = lowest g (inner_block g 0) (λ us. Err (Deep, us)) (first ts) ts
at_statements g (suc d) ts = let e : suc d - 1 ≡ d = omega arith in rw e refl

pub statements_up : (g d : ℕ) (ts : List Token) → 0 < d →
    statement_at (parts_of g (d - 1)) g (d - 1 + 1) ts ≡ statements_at g d ts
statements_up g zero ts h = absurd (omega arith)
statements_up g (suc d) ts h =
    let e : suc d - 1 ≡ d = omega arith in
    let f : d + 1 ≡ suc d = omega arith in
    rw (e, f) (at_statements g d ts)

pub statements_none : (g : ℕ) (ts : List Token) → statements_at g 0 ts ≡ Err (Deep, ts)
unfolding statements_at
statements_none g ts = refl

pub line_none : (g : ℕ) (ts : List Token) → line_of_at g 0 ts ≡ Err (Deep, ts)
unfolding line_of_at
line_none g ts = refl

pub line_up : (g d : ℕ) (ts : List Token) → 0 < d → line_of_at g d ts ≡ line_at (readers g (d - 1)) g d ts
unfolding line_of_at
line_up g zero ts h = absurd (omega arith)
line_up g (suc d) ts h = let e : suc d - 1 ≡ d = omega arith in rw e refl
