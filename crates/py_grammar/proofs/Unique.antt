-- A list of tokens is at most one expression, and none with a mark.
use Rattle.std.proofs.Common.{◌≡◌, max, List, [], length, Ok, Err, None, inl, inr, refl, sym, ap, ◌∙◌, arith}
use Rattle.py_tokens.specs.declared.token.Token.{Token}
use Rattle.py_tree.specs.declared.expr.Expr.{Expr}
use Rattle.py_tree.specs.Height.{height}
use Rattle.py_grammar.specs.declared.tall.Tall.{Tall}
use Rattle.py_grammar.specs.Grammar.{Exprs}
use Rattle.py_grammar.specs.inner.Reading.{Reads, is_some}
use Rattle.py_grammar.proofs.Steps.{Reaches}
use Rattle.py_grammar.proofs.Facts.{no}
use Rattle.py_grammar.proofs.Complete.{complete_exprs}

read : {A : Type 0} {r : Reads A} {v : A} {us : List Token} → Reaches None r v us → r ≡ Ok (v, us)
read (inl p) = p
read (inr p) = no (sym (ap is_some p.2))

abbrev tree_or : Expr → Reads (Tall Expr) → Expr
tree_or a (Ok x) = x.0.tree
tree_or a (Err x) = a

pub unique : {a b : Expr} {ts : List Token} → Exprs None a ts → Exprs None b ts → a ≡ b
unique {a = a} {b = b} {ts = ts} p q =
    let p' = read (complete_exprs p (length ts) (max (height a) (height b)) [] (omega arith) (omega arith) refl) in
    let q' = read (complete_exprs q (length ts) (max (height a) (height b)) [] (omega arith) (omega arith) refl) in
    ap (tree_or a) (sym p' ∙ q')
