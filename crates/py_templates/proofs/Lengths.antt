-- How many pieces stand for lists of expressions, pairs and keyword arguments.
use Rattle.std.proofs.Common.{◌≡◌, ℕ, suc, List, [], ◌∷◌, refl, ap, length}
use Rattle.py_tree.specs.declared.expr.Expr.{Expr}
use Rattle.py_tree.specs.declared.expr.Named.{Named}
use Rattle.py_tree.specs.declared.expr.Pair.{Pair}
use Rattle.py_templates.specs.Names.{Known}
use Rattle.py_templates.specs.Expressions.{key_names, values, all_stored, pairs, key_values}

pub values_length : (n : Known) (ln : ℕ) (xs : List Expr) → length (values n ln xs) ≡ length xs
values_length n ln [] = refl
values_length n ln (x ∷ xs) = ap suc (values_length n ln xs)

pub stored_length : (n : Known) (ln : ℕ) (xs : List Expr) → length (all_stored n ln xs) ≡ length xs
stored_length n ln [] = refl
stored_length n ln (x ∷ xs) = ap suc (stored_length n ln xs)

pub pairs_length : (n : Known) (ln : ℕ) (ps : List Pair) → length (pairs n ln ps) ≡ length ps
pairs_length n ln [] = refl
pairs_length n ln (p ∷ ps) = ap suc (pairs_length n ln ps)

pub named_length : (n : Known) (ln : ℕ) (ks : List Named) → length (key_values n ln ks) ≡ length (key_names ks)
named_length n ln [] = refl
named_length n ln (x ∷ xs) = ap suc (named_length n ln xs)
