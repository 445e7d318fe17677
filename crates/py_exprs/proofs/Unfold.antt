-- The equations of reading, by the code's levels and budgets.
use Rattle.std.proofs.Common.{◌≡◌, ℕ, zero, suc, ◌+◌, ◌-◌, ◌<◌, List, refl, arith}
use Rattle.py_tokens.specs.declared.token.Token.{Token}
use Rattle.py_tree.specs.declared.expr.Expr.{Expr}
use Rattle.py_grammar.specs.declared.tall.Tall.{Tall}
use Rattle.py_atoms.specs.declared.request.Request.{Request}
use Rattle.py_atoms.specs.declared.request.Request.TheVariants.{Level, After}
use Rattle.py_atoms.specs.inner.Asking.{requested}
use Rattle.py_atoms.specs.inner.Asking.{too_high}
use Rattle.py_grammar.specs.inner.Reading.{Below, reads, level_at, rung_at, rung_of, after_at, first}
use Rattle.std.specs.Prelude.{Err}

pub level_up : (under : Below) (g d n : ℕ) (ts : List Token) → 0 < n →
    level_at under g d n ts ≡ rung_at (rung_of (n - 1)) under g d (level_at under g d (n - 1)) ts
unfolding level_at
level_up under g d zero ts h = absurd (omega arith)
level_up under g d (suc n) ts h = let e : suc n - 1 ≡ n = omega arith in rw e refl

at_level : (g d n : ℕ) (ts : List Token) → (reads g (suc d)).read n ts ≡ level_at (reads g d) g (suc d) n ts
unfolding reads
at_level g d n ts = refl

pub read_up : (g d n : ℕ) (ts : List Token) → (reads g (d + 1)).read n ts ≡ level_at (reads g d) g (d + 1) n ts
read_up g d n ts = let e : d + 1 ≡ suc d = omega arith in rw e (at_level g d n ts)

at_after : (g d : ℕ) (a : Tall Expr) (ts : List Token) → (reads g (suc d)).after a ts ≡ after_at (reads g d) g (suc d)
    a ts
unfolding reads
at_after g d a ts = refl

pub after_up : (g d : ℕ) (a : Tall Expr) (ts : List Token) → (reads g (d + 1)).after a ts ≡ after_at (reads g d) g
    (d + 1) a ts
after_up g d a ts = let e : d + 1 ≡ suc d = omega arith in rw e (at_after g d a ts)

pub at_zero : (g : ℕ) (q : Request) (ts : List Token) → requested (reads g 0) q ts ≡ Err (too_high q (first ts), ts)
unfolding reads
at_zero g (Level n) ts = refl
at_zero g (After a) ts = refl
