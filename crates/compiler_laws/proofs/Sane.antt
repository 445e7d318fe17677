-- Expressions whose comparisons have operators that compare, as each expression of a text is.
use Rattle.std.specs.Prelude.{ℕ, ◌&&◌, Bool, true, nat_lt, List, [], ◌∷◌, Option, Some, None}
use Rattle.py_tree.specs.declared.expr.Level.{Level}
use Rattle.py_tree.specs.declared.expr.Level.TheVariants as level
use Rattle.py_tree.specs.declared.expr.Expr.{Expr}
use Rattle.py_tree.specs.declared.expr.Trailer.{Trailer}
use Rattle.py_tree.specs.declared.expr.Link.{Link}
use Rattle.py_tree.specs.declared.expr.Named.{Named}
use Rattle.py_tree.specs.declared.expr.Pair.{Pair}
use Rattle.py_tree.specs.declared.expr.Expr.TheOpen as open'
use Rattle.py_tree.specs.declared.expr.Expr.TheFolds.{fold-Expr, fold-Trailer}
use Rattle.py_templates.specs.Expressions.{operator}

abbrev pub all_true : List Bool → Bool
all_true [] = true
all_true (b ∷ bs) = b && all_true bs

abbrev pub true_or : Option Bool → Bool
true_or None = true
true_or (Some b) = b

-- an operator's number, and whether its operand is sane
abbrev pub fits_level : Level → ℕ × Bool → Bool
fits_level level.Compare l = nat_lt l.0 10 && l.1
fits_level _ l = l.1

abbrev pub fit_level : Level → List (ℕ × Bool) → Bool
fit_level v [] = true
fit_level v (l ∷ ls) = fits_level v l && fit_level v ls

abbrev pub expr_step : open'.Expr-F Bool Bool (ℕ × Bool) Bool Bool → Bool
expr_step (open'.Name x) = true
expr_step (open'.Int i) = true
expr_step (open'.Str s) = true
expr_step (open'.Group a) = a
expr_step (open'.Tuple as') = all_true as'
expr_step (open'.List as') = all_true as'
expr_step (open'.Dict ps) = all_true ps
expr_step (open'.Trail a ts) = a && all_true ts
expr_step (open'.Power a b) = a && b
expr_step (open'.Unary g a) = a
expr_step (open'.Chain v a ls) = a && fit_level v ls
expr_step (open'.Not a) = a
expr_step (open'.Choice a b d) = a && (b && d)

abbrev pub trailer_step : open'.Trailer-F Bool Bool (ℕ × Bool) Bool Bool → Bool
trailer_step (open'.Attribute m) = true
trailer_step (open'.Index a) = a
trailer_step (open'.Slice a b) = true_or a && true_or b
trailer_step (open'.Call as' ks) = all_true as' && all_true ks

abbrev pub link_step : open'.Link-F Bool Bool (ℕ × Bool) Bool Bool → ℕ × Bool
link_step l = (operator l.operator, l.operand)

abbrev pub named_step : open'.Named-F Bool Bool (ℕ × Bool) Bool Bool → Bool
named_step k = k.value

abbrev pub pair_step : open'.Pair-F Bool Bool (ℕ × Bool) Bool Bool → Bool
pair_step p = p.key && p.value

unfoldable pub sane : Expr → Bool
sane = fold-Expr Bool Bool (ℕ × Bool) Bool Bool expr_step trailer_step link_step named_step pair_step

unfoldable pub sane_trailer : Trailer → Bool
sane_trailer = fold-Trailer Bool Bool (ℕ × Bool) Bool Bool expr_step trailer_step link_step named_step pair_step

-- parts in turn
abbrev pub all_sane : List Expr → Bool
all_sane [] = true
all_sane (x ∷ xs) = sane x && all_sane xs

abbrev pub sane_some : Option Expr → Bool
sane_some None = true
sane_some (Some x) = sane x

abbrev pub sane_links : Level → List Link → Bool
sane_links v [] = true
sane_links v (l ∷ ls) = fits_level v (operator l.operator, sane l.operand) && sane_links v ls

abbrev pub sane_named : List Named → Bool
sane_named [] = true
sane_named (k ∷ ks) = sane k.value && sane_named ks

abbrev pub sane_pairs : List Pair → Bool
sane_pairs [] = true
sane_pairs (p ∷ ps) = (sane p.key && sane p.value) && sane_pairs ps

abbrev pub sane_trailers : List Trailer → Bool
sane_trailers [] = true
sane_trailers (t ∷ ts) = sane_trailer t && sane_trailers ts
