-- The mirror of the code: nothing public rests on it.
-- Parts of the reading function that have functions of their own in the code.
use Rattle.std.specs.Prelude.{ℕ, List, [], Ok, Err, nat_lt, if◌then◌else◌}
use Rattle.py_tree.specs.declared.expr.Expr.{Expr}
use Rattle.py_tree.specs.declared.expr.Trailer.{Trailer}
use Rattle.py_tree.specs.declared.expr.Sign.{Sign}
use Rattle.py_grammar.specs.declared.fault.Fault.TheVariants.{Deep}
use Rattle.py_grammar.specs.declared.tall.Tall.{Tall}
use Rattle.py_grammar.specs.inner.Tall.{plain, push_named, of_call, of_sign, of_not}
use Rattle.py_grammar.specs.inner.Reading.{Below, Reader, Test, ◌>>=◌, rest, named_at}

-- arguments by keyword, after the first of these names and `=`
abbrev pub keywords_at : Test → ℕ → Tall (List Expr) → List ℕ → Reader (Tall Trailer)
keywords_at next g found n ts = do
  b ← next ts
  ns ← named_at next g (push_named (plain [] 0) n b.0) b.1
  Ok (of_call found ns.0, ns.1)

-- a sign, which comes next, and its operand
abbrev pub signed_at : Below → ℕ → Sign → Reader (Tall Expr)
signed_at under d s ts = if nat_lt d 2 then Err (Deep, ts) else
    (under.read 3 (rest ts) >>= λ a. Ok (of_sign s a.0, a.1))

-- `not`, which comes next, and its operand
abbrev pub negated_at : Below → ℕ → Reader (Tall Expr)
negated_at under d ts = if nat_lt d 2 then Err (Deep, ts) else (under.read 11 (rest ts) >>= λ a. Ok (of_not a.0, a.1))
