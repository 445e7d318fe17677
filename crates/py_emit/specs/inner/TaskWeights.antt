-- The mirror of the code: nothing public rests on it.
-- How much is left to be done: what a step puts in the place of a task weighs less than it.
use Rattle.std.specs.Prelude.{ℕ, ◌+◌, ◌<◌, List, [], ◌∷◌, Option, Some, None}
use Rattle.py_tree.specs.declared.expr.Expr.{Expr}
use Rattle.py_tree.specs.declared.expr.Link.{Link}
use Rattle.py_tree.specs.declared.expr.Named.{Named}
use Rattle.py_tree.specs.declared.expr.Pair.{Pair}
use Rattle.py_tree.specs.declared.expr.Trailer.{Trailer}
use Rattle.py_tree.specs.declared.expr.Expr.TheOpen as open'
use Rattle.py_tree.specs.declared.expr.Expr.TheFolds.{fold-Expr, fold-Link, fold-Pair, fold-Trailer, fold-Named}
use Rattle.py_emit.specs.inner.Tasks.{Todo, Value, Values, Behind, Pairs, Keys, Links, Kept, Between, Store, Stores, Delete, Deletes, Augment, Op, To, Mark, Leads}
use Rattle.py_templates.specs.Names.{Known}
use Rattle.py_emit.specs.inner.State.{St}

abbrev pub row_weight : List ℕ → ℕ
row_weight [] = 1
row_weight (w ∷ ws) = w + 1 + row_weight ws

abbrev pub or_weight : Option ℕ → ℕ
or_weight None = 2
or_weight (Some w) = w

abbrev pub expr_step : open'.Expr-F ℕ ℕ ℕ ℕ ℕ → ℕ
expr_step (open'.Name x) = 2
expr_step (open'.Int i) = 2
expr_step (open'.Str s) = 2
expr_step (open'.Group w) = w + 1
expr_step (open'.Tuple ws) = row_weight ws + 3
expr_step (open'.List ws) = row_weight ws + 3
expr_step (open'.Dict ws) = row_weight ws + 3
expr_step (open'.Trail w ws) = w + row_weight ws + 1
expr_step (open'.Power w v) = w + v + 2
expr_step (open'.Unary s w) = w + 2
expr_step (open'.Chain l w ws) = w + row_weight ws + 20
expr_step (open'.Not w) = w + 2
expr_step (open'.Choice w v u) = w + v + u + 5

abbrev pub link_step : open'.Link-F ℕ ℕ ℕ ℕ ℕ → ℕ
link_step l = l.operand + 6

abbrev pub pair_step : open'.Pair-F ℕ ℕ ℕ ℕ ℕ → ℕ
pair_step p = p.key + p.value

abbrev pub trailer_step : open'.Trailer-F ℕ ℕ ℕ ℕ ℕ → ℕ
trailer_step (open'.Attribute m) = 2
trailer_step (open'.Index w) = w + 2
trailer_step (open'.Slice w v) = or_weight w + or_weight v + 2
trailer_step (open'.Call ws vs) = row_weight ws + row_weight vs + 3

abbrev pub named_step : open'.Named-F ℕ ℕ ℕ ℕ ℕ → ℕ
named_step k = k.value

unfoldable pub weight : Expr → ℕ
weight = fold-Expr ℕ ℕ ℕ ℕ ℕ expr_step trailer_step link_step named_step pair_step

unfoldable pub weight_trailer : Trailer → ℕ
weight_trailer = fold-Trailer ℕ ℕ ℕ ℕ ℕ expr_step trailer_step link_step named_step pair_step

unfoldable pub weight_link : Link → ℕ
weight_link = fold-Link ℕ ℕ ℕ ℕ ℕ expr_step trailer_step link_step named_step pair_step

unfoldable pub weight_named : Named → ℕ
weight_named = fold-Named ℕ ℕ ℕ ℕ ℕ expr_step trailer_step link_step named_step pair_step

unfoldable pub weight_pair : Pair → ℕ
weight_pair = fold-Pair ℕ ℕ ℕ ℕ ℕ expr_step trailer_step link_step named_step pair_step

abbrev pub weights : List Expr → ℕ
weights [] = 1
weights (x ∷ xs) = weight x + 1 + weights xs

abbrev pub weights_links : List Link → ℕ
weights_links [] = 1
weights_links (l ∷ ls) = weight l.operand + 6 + 1 + weights_links ls

abbrev pub weights_named : List Named → ℕ
weights_named [] = 1
weights_named (k ∷ ks) = weight k.value + 1 + weights_named ks

abbrev pub weights_pairs : List Pair → ℕ
weights_pairs [] = 1
weights_pairs (p ∷ ps) = weight p.key + weight p.value + 1 + weights_pairs ps

abbrev pub weights_trailers : List Trailer → ℕ
weights_trailers [] = 1
weights_trailers (t ∷ ts) = weight_trailer t + 1 + weights_trailers ts

abbrev pub weight_some : Option Expr → ℕ
weight_some None = 2
weight_some (Some x) = weight x

-- the weight of a task, and of all that are left
abbrev pub task_weight : Todo → ℕ
task_weight (Value x) = weight x
task_weight (Values xs) = weights xs
task_weight (Behind ts) = weights_trailers ts
task_weight (Pairs ps) = weights_pairs ps
task_weight (Keys ks) = weights_named ks
task_weight (Links ls) = weights_links ls
task_weight (Kept f l x ls) = weight x + weights_links ls + 1
task_weight (Between l x ls) = weight x.operand + weights_links ls + 6
task_weight (Store x) = weight x
task_weight (Stores xs) = weights xs
task_weight (Delete x) = weight x
task_weight (Deletes xs) = weights xs
task_weight (Augment x o y) = weight x + weight y + 10
task_weight (Op i) = 1
task_weight (To f l) = 1
task_weight (Mark l) = 1

abbrev pub all_weights : List Todo → ℕ
all_weights [] = 0
all_weights (t ∷ ts) = task_weight t + all_weights ts

-- A step: what is left leads to what was to be done, and weighs less.
pub record Advances (n : Known) (ln : ℕ) (before : List Todo) (e0 : St) (after : List Todo) (e1 : St) : Type 0 where
  pub leads : Leads n ln before e0 after e1
  pub fewer : all_weights after < all_weights before

-- A step that emits nothing, in each state.
pub record Splits (n : Known) (before after : List Todo) : Type 0 where
  pub advances : (ln : ℕ) (e : St) → Advances n ln before e after e
