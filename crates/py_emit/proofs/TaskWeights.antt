-- The equations of the weights of trees.
use Rattle.std.proofs.Common.{◌≡◌, ℕ, ℤ, ◌+◌, List, [], ◌∷◌, ◌++◌, map, Option, Some, None, refl, sym, ap, ◌∙◌, subst, ◌<◌, arith}
use Rattle.py_tree.specs.declared.expr.Expr.{Expr}
use Rattle.py_tree.specs.declared.expr.Trailer.{Trailer}
use Rattle.py_tree.specs.declared.expr.Link.{Link}
use Rattle.py_tree.specs.declared.expr.Named.{Named}
use Rattle.py_tree.specs.declared.expr.Pair.{Pair}
use Rattle.py_tree.specs.declared.expr.Level.{Level}
use Rattle.py_tree.specs.declared.expr.Sign.{Sign}
use Rattle.py_tree.specs.declared.expr.Expr.TheVariants as e
use Rattle.py_tree.specs.declared.expr.Trailer.TheVariants as t
use Rattle.py_tree.specs.declared.expr.Expr.TheOpen as open'
use Rattle.py_tree.specs.declared.expr.Expr.TheFolds.{fold-roll-Expr, fold-roll-Trailer, fold_out-Expr, fold_out-Link, fold_out-Named, fold_out-Pair}
use Rattle.py_emit.specs.inner.TaskWeights.{row_weight, expr_step, link_step, pair_step, trailer_step, named_step, weight, weight_trailer, weight_link, weight_named, weight_pair, weights, weights_links, weights_named, weights_pairs, weights_trailers, weight_some}

link : (l : Link) → weight_link l ≡ weight l.operand + 6
unfolding weight_link weight
link l = fold_out-Link ℕ ℕ ℕ ℕ ℕ expr_step trailer_step link_step named_step pair_step l

named : (k : Named) → weight_named k ≡ weight k.value
unfolding weight_named weight
named k = fold_out-Named ℕ ℕ ℕ ℕ ℕ expr_step trailer_step link_step named_step pair_step k

pair : (p : Pair) → weight_pair p ≡ weight p.key + weight p.value
unfolding weight_pair weight
pair p = fold_out-Pair ℕ ℕ ℕ ℕ ℕ expr_step trailer_step link_step named_step pair_step p

row_exprs : (xs : List Expr) → row_weight (map weight xs) ≡ weights xs
row_exprs [] = refl
row_exprs (x ∷ xs) = ap (λ k. weight x + 1 + k) (row_exprs xs)

row_links : (ls : List Link) → row_weight (map weight_link ls) ≡ weights_links ls
row_links [] = refl
row_links (l ∷ ls) = ap (λ k. k + 1 + row_weight (map weight_link ls)) (link l) ∙
    ap (λ k. weight l.operand + 6 + 1 + k) (row_links ls)

row_named : (ks : List Named) → row_weight (map weight_named ks) ≡ weights_named ks
row_named [] = refl
row_named (k ∷ ks) = ap (λ z. z + 1 + row_weight (map weight_named ks)) (named k) ∙
    ap (λ z. weight k.value + 1 + z) (row_named ks)

row_pairs : (ps : List Pair) → row_weight (map weight_pair ps) ≡ weights_pairs ps
row_pairs [] = refl
row_pairs (p ∷ ps) = ap (λ z. z + 1 + row_weight (map weight_pair ps)) (pair p) ∙
    ap (λ z. weight p.key + weight p.value + 1 + z) (row_pairs ps)

row_trailers : (ts : List Trailer) → row_weight (map weight_trailer ts) ≡ weights_trailers ts
row_trailers [] = refl
row_trailers (t ∷ ts) = ap (λ k. weight_trailer t + 1 + k) (row_trailers ts)

pub weight_name : (x : List ℕ) → weight (e.Name x) ≡ 2
unfolding weight weight_trailer weight_link weight_named weight_pair
weight_name x = ap weight (sym (e.rolls-Name x)) ∙ fold-roll-Expr ℕ ℕ ℕ ℕ ℕ expr_step trailer_step link_step named_step
    pair_step (open'.Name x)

pub weight_int : (i : ℤ) → weight (e.Int i) ≡ 2
unfolding weight weight_trailer weight_link weight_named weight_pair
weight_int i = ap weight (sym (e.rolls-Int i)) ∙ fold-roll-Expr ℕ ℕ ℕ ℕ ℕ expr_step trailer_step link_step named_step
    pair_step (open'.Int i)

pub weight_str : (s : List ℕ) → weight (e.Str s) ≡ 2
unfolding weight weight_trailer weight_link weight_named weight_pair
weight_str s = ap weight (sym (e.rolls-Str s)) ∙ fold-roll-Expr ℕ ℕ ℕ ℕ ℕ expr_step trailer_step link_step named_step
    pair_step (open'.Str s)

pub weight_group : (a : Expr) → weight (e.Group a) ≡ weight a + 1
unfolding weight weight_trailer weight_link weight_named weight_pair
weight_group a = ap weight (sym (e.rolls-Group a)) ∙ fold-roll-Expr ℕ ℕ ℕ ℕ ℕ expr_step trailer_step link_step
    named_step pair_step (open'.Group a)

pub weight_tuple : (xs : List Expr) → weight (e.Tuple xs) ≡ weights xs + 3
unfolding weight weight_trailer weight_link weight_named weight_pair
weight_tuple xs = ap weight (sym (e.rolls-Tuple xs)) ∙ fold-roll-Expr ℕ ℕ ℕ ℕ ℕ expr_step trailer_step link_step
    named_step pair_step (open'.Tuple xs) ∙ ap (λ k. k + 3) (row_exprs xs)

pub weight_list : (xs : List Expr) → weight (e.List xs) ≡ weights xs + 3
unfolding weight weight_trailer weight_link weight_named weight_pair
weight_list xs = ap weight (sym (e.rolls-List xs)) ∙ fold-roll-Expr ℕ ℕ ℕ ℕ ℕ expr_step trailer_step link_step
    named_step pair_step (open'.List xs) ∙ ap (λ k. k + 3) (row_exprs xs)

pub weight_dict : (ps : List Pair) → weight (e.Dict ps) ≡ weights_pairs ps + 3
unfolding weight weight_trailer weight_link weight_named weight_pair
weight_dict ps = ap weight (sym (e.rolls-Dict ps)) ∙ fold-roll-Expr ℕ ℕ ℕ ℕ ℕ expr_step trailer_step link_step
    named_step pair_step (open'.Dict ps) ∙ ap (λ k. k + 3) (row_pairs ps)

pub weight_trail : (a : Expr) (ts : List Trailer) → weight (e.Trail a ts) ≡ weight a + weights_trailers ts + 1
unfolding weight weight_trailer weight_link weight_named weight_pair
weight_trail a ts = ap weight (sym (e.rolls-Trail a ts)) ∙ fold-roll-Expr ℕ ℕ ℕ ℕ ℕ expr_step trailer_step link_step
    named_step pair_step (open'.Trail a ts) ∙ ap (λ k. weight a + k + 1) (row_trailers ts)

pub weight_power : (a b : Expr) → weight (e.Power a b) ≡ weight a + weight b + 2
unfolding weight weight_trailer weight_link weight_named weight_pair
weight_power a b = ap weight (sym (e.rolls-Power a b)) ∙ fold-roll-Expr ℕ ℕ ℕ ℕ ℕ expr_step trailer_step link_step
    named_step pair_step (open'.Power a b)

pub weight_unary : (g : Sign) (a : Expr) → weight (e.Unary g a) ≡ weight a + 2
unfolding weight weight_trailer weight_link weight_named weight_pair
weight_unary g a = ap weight (sym (e.rolls-Unary g a)) ∙ fold-roll-Expr ℕ ℕ ℕ ℕ ℕ expr_step trailer_step link_step
    named_step pair_step (open'.Unary g a)

pub weight_chain : (l : Level) (a : Expr) (ls : List Link) → weight (e.Chain l a ls) ≡ weight a + weights_links ls + 20
unfolding weight weight_trailer weight_link weight_named weight_pair
weight_chain l a ls = ap weight (sym (e.rolls-Chain l a ls)) ∙
    fold-roll-Expr ℕ ℕ ℕ ℕ ℕ expr_step trailer_step link_step named_step pair_step (open'.Chain l a ls) ∙
    ap (λ k. weight a + k + 20) (row_links ls)

pub weight_not : (a : Expr) → weight (e.Not a) ≡ weight a + 2
unfolding weight weight_trailer weight_link weight_named weight_pair
weight_not a = ap weight (sym (e.rolls-Not a)) ∙ fold-roll-Expr ℕ ℕ ℕ ℕ ℕ expr_step trailer_step link_step named_step
    pair_step (open'.Not a)

pub weight_choice : (a b d : Expr) → weight (e.Choice a b d) ≡ weight a + weight b + weight d + 5
unfolding weight weight_trailer weight_link weight_named weight_pair
weight_choice a b d = ap weight (sym (e.rolls-Choice a b d)) ∙
    fold-roll-Expr ℕ ℕ ℕ ℕ ℕ expr_step trailer_step link_step named_step pair_step (open'.Choice a b d)

pub weight_attribute : (m : List ℕ) → weight_trailer (t.Attribute m) ≡ 2
unfolding weight weight_trailer weight_link weight_named weight_pair
weight_attribute m = ap weight_trailer (sym (t.rolls-Attribute m)) ∙
    fold-roll-Trailer ℕ ℕ ℕ ℕ ℕ expr_step trailer_step link_step named_step pair_step (open'.Attribute m)

pub weight_index : (a : Expr) → weight_trailer (t.Index a) ≡ weight a + 2
unfolding weight weight_trailer weight_link weight_named weight_pair
weight_index a = ap weight_trailer (sym (t.rolls-Index a)) ∙
    fold-roll-Trailer ℕ ℕ ℕ ℕ ℕ expr_step trailer_step link_step named_step pair_step (open'.Index a)

pub weight_slice : (a b : Option Expr) → weight_trailer (t.Slice a b) ≡ weight_some a + weight_some b + 2
unfolding weight weight_trailer weight_link weight_named weight_pair
weight_slice None None = ap weight_trailer (sym (t.rolls-Slice None None)) ∙
    fold-roll-Trailer ℕ ℕ ℕ ℕ ℕ expr_step trailer_step link_step named_step pair_step (open'.Slice None None)
weight_slice None (Some b) = ap weight_trailer (sym (t.rolls-Slice None (Some b))) ∙
    fold-roll-Trailer ℕ ℕ ℕ ℕ ℕ expr_step trailer_step link_step named_step pair_step (open'.Slice None (Some b))
weight_slice (Some a) None = ap weight_trailer (sym (t.rolls-Slice (Some a) None)) ∙
    fold-roll-Trailer ℕ ℕ ℕ ℕ ℕ expr_step trailer_step link_step named_step pair_step (open'.Slice (Some a) None)
weight_slice (Some a) (Some b) = ap weight_trailer (sym (t.rolls-Slice (Some a) (Some b))) ∙
    fold-roll-Trailer ℕ ℕ ℕ ℕ ℕ expr_step trailer_step link_step named_step pair_step (open'.Slice (Some a) (Some b))

pub weight_call : (xs : List Expr) (ks : List Named) → weight_trailer (t.Call xs ks) ≡ weights xs + weights_named ks + 3
unfolding weight weight_trailer weight_link weight_named weight_pair
weight_call xs ks = ap weight_trailer (sym (t.rolls-Call xs ks)) ∙
    fold-roll-Trailer ℕ ℕ ℕ ℕ ℕ expr_step trailer_step link_step named_step pair_step (open'.Call xs ks) ∙
    ap (λ k. k + row_weight (map weight_named ks) + 3) (row_exprs xs) ∙ ap (λ k. weights xs + k + 3) (row_named ks)

step_pos : (x : open'.Expr-F ℕ ℕ ℕ ℕ ℕ) → 0 < expr_step x
step_pos (open'.Name x) = omega arith
step_pos (open'.Int x) = omega arith
step_pos (open'.Str x) = omega arith
step_pos (open'.Group w) = omega arith
step_pos (open'.Tuple ws) = omega arith
step_pos (open'.List ws) = omega arith
step_pos (open'.Dict ws) = omega arith
step_pos (open'.Trail w ws) = omega arith
step_pos (open'.Power w v) = omega arith
step_pos (open'.Unary g w) = omega arith
step_pos (open'.Chain l w ws) = omega arith
step_pos (open'.Not w) = omega arith
step_pos (open'.Choice w v u) = omega arith

pub weight_pos : (x : Expr) → 0 < weight x
unfolding weight
weight_pos x = subst (λ k. 0 < k) (sym (fold_out-Expr ℕ ℕ ℕ ℕ ℕ expr_step trailer_step link_step named_step pair_step
    x)) (step_pos _)

pub weights_last : (ts : List Trailer) (t : Trailer) → weights_trailers (ts ++ t ∷ []) ≡ weights_trailers ts +
    weight_trailer t + 1
weights_last [] t = omega arith
weights_last (u ∷ us) t = let r = weights_last us t in omega (arith, r)

pub ruleset weight_rules = (
  weight_name,
  weight_int,
  weight_str,
  weight_group,
  weight_tuple,
  weight_list,
  weight_dict,
  weight_trail,
  weight_power,
  weight_unary,
  weight_chain,
  weight_not,
  weight_choice,
  weight_attribute,
  weight_index,
  weight_slice,
  weight_call,
  weight_pos,
  weights_last,
)
