-- The equations of `sane`.
use Rattle.std.proofs.Common.{◌≡◌, ℕ, ℤ, Bool, true, ◌&&◌, List, [], ◌∷◌, map, Option, Some, None, refl, sym, ap, ◌∙◌}
use Rattle.py_tree.specs.declared.expr.Expr.{Expr}
use Rattle.py_tree.specs.declared.expr.Trailer.{Trailer}
use Rattle.py_tree.specs.declared.expr.Link.{Link}
use Rattle.py_tree.specs.declared.expr.Named.{Named}
use Rattle.py_tree.specs.declared.expr.Pair.{Pair}
use Rattle.py_tree.specs.declared.expr.Level.{Level}
use Rattle.py_tree.specs.declared.expr.Sign.{Sign}
use Rattle.py_tree.specs.declared.expr.Expr.TheVariants as e
use Rattle.py_tree.specs.declared.expr.Trailer.TheVariants as t
use Rattle.py_tree.specs.declared.expr.Expr.TheOpen as open'
use Rattle.py_tree.specs.declared.expr.Expr.TheFolds.{fold-roll-Expr, fold-roll-Trailer, fold-Link, fold-Named, fold-Pair, fold_out-Link, fold_out-Named, fold_out-Pair}
use Rattle.py_templates.specs.Expressions.{operator}
use Rattle.compiler_laws.proofs.Sane.{all_true, fits_level, fit_level, expr_step, trailer_step, link_step, named_step, pair_step, sane, sane_trailer, all_sane, sane_some, sane_links, sane_named, sane_pairs, sane_trailers}

link : Link → ℕ × Bool
link = fold-Link Bool Bool (ℕ × Bool) Bool Bool expr_step trailer_step link_step named_step pair_step

named : Named → Bool
named = fold-Named Bool Bool (ℕ × Bool) Bool Bool expr_step trailer_step link_step named_step pair_step

pair : Pair → Bool
pair = fold-Pair Bool Bool (ℕ × Bool) Bool Bool expr_step trailer_step link_step named_step pair_step

one_link : (l : Link) → link l ≡ (operator l.operator, sane l.operand)
unfolding link sane
one_link l = fold_out-Link Bool Bool (ℕ × Bool) Bool Bool expr_step trailer_step link_step named_step pair_step l

one_named : (k : Named) → named k ≡ sane k.value
unfolding named sane
one_named k = fold_out-Named Bool Bool (ℕ × Bool) Bool Bool expr_step trailer_step link_step named_step pair_step k

one_pair : (p : Pair) → pair p ≡ (sane p.key && sane p.value)
unfolding pair sane
one_pair p = fold_out-Pair Bool Bool (ℕ × Bool) Bool Bool expr_step trailer_step link_step named_step pair_step p

all_exprs : (xs : List Expr) → all_true (map sane xs) ≡ all_sane xs
all_exprs [] = refl
all_exprs (x ∷ xs) = ap (λ z. sane x && z) (all_exprs xs)

all_trailers : (xs : List Trailer) → all_true (map sane_trailer xs) ≡ sane_trailers xs
all_trailers [] = refl
all_trailers (x ∷ xs) = ap (λ z. sane_trailer x && z) (all_trailers xs)

all_links : (v : Level) (ls : List Link) → fit_level v (map link ls) ≡ sane_links v ls
all_links v [] = refl
all_links v (l ∷ ls) = ap (λ z. fits_level v z && fit_level v (map link ls)) (one_link l) ∙
    ap (λ z. fits_level v (operator l.operator, sane l.operand) && z) (all_links v ls)

all_named : (ks : List Named) → all_true (map named ks) ≡ sane_named ks
all_named [] = refl
all_named (k ∷ ks) = ap (λ z. z && all_true (map named ks)) (one_named k) ∙ ap (λ z. sane k.value && z) (all_named ks)

all_pairs : (ps : List Pair) → all_true (map pair ps) ≡ sane_pairs ps
all_pairs [] = refl
all_pairs (p ∷ ps) = ap (λ z. z && all_true (map pair ps)) (one_pair p) ∙
    ap (λ z. (sane p.key && sane p.value) && z) (all_pairs ps)

pub sane_group : (a : Expr) → sane (e.Group a) ≡ sane a
unfolding sane sane_trailer link named pair
sane_group a = ap sane (sym (e.rolls-Group a)) ∙ fold-roll-Expr Bool Bool (ℕ × Bool) Bool Bool expr_step trailer_step
    link_step named_step pair_step (open'.Group a)

pub sane_tuple : (xs : List Expr) → sane (e.Tuple xs) ≡ all_sane xs
unfolding sane sane_trailer link named pair
sane_tuple xs = ap sane (sym (e.rolls-Tuple xs)) ∙ fold-roll-Expr Bool Bool (ℕ × Bool) Bool Bool expr_step trailer_step
    link_step named_step pair_step (open'.Tuple xs) ∙ all_exprs xs

pub sane_list : (xs : List Expr) → sane (e.List xs) ≡ all_sane xs
unfolding sane sane_trailer link named pair
sane_list xs = ap sane (sym (e.rolls-List xs)) ∙ fold-roll-Expr Bool Bool (ℕ × Bool) Bool Bool expr_step trailer_step
    link_step named_step pair_step (open'.List xs) ∙ all_exprs xs

pub sane_dict : (ps : List Pair) → sane (e.Dict ps) ≡ sane_pairs ps
unfolding sane sane_trailer link named pair
sane_dict ps = ap sane (sym (e.rolls-Dict ps)) ∙ fold-roll-Expr Bool Bool (ℕ × Bool) Bool Bool expr_step trailer_step
    link_step named_step pair_step (open'.Dict ps) ∙ all_pairs ps

pub sane_trail : (a : Expr) (ts : List Trailer) → sane (e.Trail a ts) ≡ (sane a && sane_trailers ts)
unfolding sane sane_trailer link named pair
sane_trail a ts = ap sane (sym (e.rolls-Trail a ts)) ∙ fold-roll-Expr Bool Bool (ℕ × Bool) Bool Bool expr_step
    trailer_step link_step named_step pair_step (open'.Trail a ts) ∙ ap (λ z. sane a && z) (all_trailers ts)

pub sane_power : (a c : Expr) → sane (e.Power a c) ≡ (sane a && sane c)
unfolding sane sane_trailer link named pair
sane_power a c = ap sane (sym (e.rolls-Power a c)) ∙ fold-roll-Expr Bool Bool (ℕ × Bool) Bool Bool expr_step
    trailer_step link_step named_step pair_step (open'.Power a c)

pub sane_unary : (g : Sign) (a : Expr) → sane (e.Unary g a) ≡ sane a
unfolding sane sane_trailer link named pair
sane_unary g a = ap sane (sym (e.rolls-Unary g a)) ∙ fold-roll-Expr Bool Bool (ℕ × Bool) Bool Bool expr_step
    trailer_step link_step named_step pair_step (open'.Unary g a)

pub sane_chain : (l : Level) (a : Expr) (ls : List Link) → sane (e.Chain l a ls) ≡ (sane a && sane_links l ls)
unfolding sane sane_trailer link named pair
sane_chain l a ls = ap sane (sym (e.rolls-Chain l a ls)) ∙ fold-roll-Expr Bool Bool (ℕ × Bool) Bool Bool expr_step
    trailer_step link_step named_step pair_step (open'.Chain l a ls) ∙ ap (λ z. sane a && z) (all_links l ls)

pub sane_not : (a : Expr) → sane (e.Not a) ≡ sane a
unfolding sane sane_trailer link named pair
sane_not a = ap sane (sym (e.rolls-Not a)) ∙ fold-roll-Expr Bool Bool (ℕ × Bool) Bool Bool expr_step trailer_step
    link_step named_step pair_step (open'.Not a)

pub sane_choice : (a c d : Expr) → sane (e.Choice a c d) ≡ (sane a && (sane c && sane d))
unfolding sane sane_trailer link named pair
sane_choice a c d = ap sane (sym (e.rolls-Choice a c d)) ∙ fold-roll-Expr Bool Bool (ℕ × Bool) Bool Bool expr_step
    trailer_step link_step named_step pair_step (open'.Choice a c d)

pub sane_index : (a : Expr) → sane_trailer (t.Index a) ≡ sane a
unfolding sane sane_trailer link named pair
sane_index a = ap sane_trailer (sym (t.rolls-Index a)) ∙ fold-roll-Trailer Bool Bool (ℕ × Bool) Bool Bool expr_step
    trailer_step link_step named_step pair_step (open'.Index a)

pub sane_slice : (a c : Option Expr) → sane_trailer (t.Slice a c) ≡ (sane_some a && sane_some c)
unfolding sane sane_trailer link named pair
sane_slice None None = ap sane_trailer (sym (t.rolls-Slice None None)) ∙
    fold-roll-Trailer Bool Bool (ℕ × Bool) Bool Bool expr_step trailer_step link_step named_step pair_step
    (open'.Slice None None)
sane_slice None (Some c) = ap sane_trailer (sym (t.rolls-Slice None (Some c))) ∙
    fold-roll-Trailer Bool Bool (ℕ × Bool) Bool Bool expr_step trailer_step link_step named_step pair_step
    (open'.Slice None (Some c))
sane_slice (Some a) None = ap sane_trailer (sym (t.rolls-Slice (Some a) None)) ∙
    fold-roll-Trailer Bool Bool (ℕ × Bool) Bool Bool expr_step trailer_step link_step named_step pair_step
    (open'.Slice (Some a) None)
sane_slice (Some a) (Some c) = ap sane_trailer (sym (t.rolls-Slice (Some a) (Some c))) ∙
    fold-roll-Trailer Bool Bool (ℕ × Bool) Bool Bool expr_step trailer_step link_step named_step pair_step
    (open'.Slice (Some a) (Some c))

pub sane_call : (xs : List Expr) (ks : List Named) → sane_trailer (t.Call xs ks) ≡ (all_sane xs && sane_named ks)
unfolding sane sane_trailer link named pair
sane_call xs ks = ap sane_trailer (sym (t.rolls-Call xs ks)) ∙
    fold-roll-Trailer Bool Bool (ℕ × Bool) Bool Bool expr_step trailer_step link_step named_step pair_step
    (open'.Call xs ks) ∙ ap (λ z. z && all_true (map named ks)) (all_exprs xs) ∙
    ap (λ z. all_sane xs && z) (all_named ks)

pub sane_name : (x : List ℕ) → sane (e.Name x) ≡ true
unfolding sane sane_trailer link named pair
sane_name x = ap sane (sym (e.rolls-Name x)) ∙ fold-roll-Expr Bool Bool (ℕ × Bool) Bool Bool expr_step trailer_step
    link_step named_step pair_step (open'.Name x)

pub sane_int : (i : ℤ) → sane (e.Int i) ≡ true
unfolding sane sane_trailer link named pair
sane_int i = ap sane (sym (e.rolls-Int i)) ∙ fold-roll-Expr Bool Bool (ℕ × Bool) Bool Bool expr_step trailer_step
    link_step named_step pair_step (open'.Int i)

pub sane_str : (x : List ℕ) → sane (e.Str x) ≡ true
unfolding sane sane_trailer link named pair
sane_str x = ap sane (sym (e.rolls-Str x)) ∙ fold-roll-Expr Bool Bool (ℕ × Bool) Bool Bool expr_step trailer_step
    link_step named_step pair_step (open'.Str x)

pub sane_attribute : (x : List ℕ) → sane_trailer (t.Attribute x) ≡ true
unfolding sane sane_trailer link named pair
sane_attribute x = ap sane_trailer (sym (t.rolls-Attribute x)) ∙
    fold-roll-Trailer Bool Bool (ℕ × Bool) Bool Bool expr_step trailer_step link_step named_step pair_step
    (open'.Attribute x)
