-- The equations of `used`.
use Rattle.std.proofs.Common.{◌≡◌, ℕ, ℤ, List, [], ◌∷◌, ◌++◌, map, Option, Some, None, refl, sym, ap, ◌∙◌}
use Rattle.py_tree.specs.declared.expr.Expr.{Expr}
use Rattle.py_tree.specs.declared.expr.Trailer.{Trailer}
use Rattle.py_tree.specs.declared.expr.Link.{Link}
use Rattle.py_tree.specs.declared.expr.Named.{Named}
use Rattle.py_tree.specs.declared.expr.Pair.{Pair}
use Rattle.py_tree.specs.declared.expr.Level.{Level}
use Rattle.py_tree.specs.declared.expr.Sign.{Sign}
use Rattle.py_tree.specs.declared.expr.Expr.TheVariants as e
use Rattle.py_tree.specs.declared.expr.Trailer.TheVariants as t
use Rattle.py_tree.specs.declared.expr.Expr.TheOpen as open'
use Rattle.py_tree.specs.declared.expr.Expr.TheFolds.{fold-roll-Expr, fold-roll-Trailer, fold-Link, fold-Named, fold-Pair, fold_out-Link, fold_out-Named, fold_out-Pair}
use Rattle.py_tree.proofs.Heights.{height_group, height_tuple, height_list, height_dict, height_trail, height_power, height_unary, height_chain, height_not, height_choice, height_index, height_slice, height_call}
use Rattle.py_templates.specs.Expressions.{key_names}
use Rattle.py_templates.specs.inner.Reads.{read_links, read_named, read_pairs, read_trailers}
use Rattle.py_templates.specs.Uses.{Use, Text, Keys, Inside, name_read, name_bound, joined, Used, only, reads, targets, expr_step, trailer_step, link_step, named_step, pair_step, used, used_trailer, read, target, read_all, target_all, read_some}

link : Inside → Link → List Use
link b = fold-Link Used (List Use) (List Use) (List ℕ × List Use) (List Use) (expr_step b) (trailer_step b)
    (link_step b) (named_step b) (pair_step b)

named : Inside → Named → List ℕ × List Use
named b = fold-Named Used (List Use) (List Use) (List ℕ × List Use) (List Use) (expr_step b) (trailer_step b)
    (link_step b) (named_step b) (pair_step b)

pair : Inside → Pair → List Use
pair b = fold-Pair Used (List Use) (List Use) (List ℕ × List Use) (List Use) (expr_step b) (trailer_step b)
    (link_step b) (named_step b) (pair_step b)

reads_all : (b : Inside) (es : List Expr) → reads (map (used b) es) ≡ read_all b es
reads_all b [] = refl
reads_all b (a ∷ es) = ap (λ z. read b a ++ z) (reads_all b es)

targets_all : (b : Inside) (es : List Expr) → targets (map (used b) es) ≡ target_all b es
targets_all b [] = refl
targets_all b (a ∷ es) = ap (λ z. target b a ++ z) (targets_all b es)

one_link : (b : Inside) (l : Link) → link b l ≡ read b l.operand
unfolding link used
one_link b l = fold_out-Link Used (List Use) (List Use) (List ℕ × List Use) (List Use) (expr_step b) (trailer_step b)
    (link_step b) (named_step b) (pair_step b) l

one_named : (b : Inside) (k : Named) → named b k ≡ (k.name, read b k.value)
unfolding named used
one_named b k = fold_out-Named Used (List Use) (List Use) (List ℕ × List Use) (List Use) (expr_step b) (trailer_step b)
    (link_step b) (named_step b) (pair_step b) k

one_pair : (b : Inside) (p : Pair) → pair b p ≡ read b p.key ++ read b p.value
unfolding pair used
one_pair b p = fold_out-Pair Used (List Use) (List Use) (List ℕ × List Use) (List Use) (expr_step b) (trailer_step b)
    (link_step b) (named_step b) (pair_step b) p

all_links : (b : Inside) (ls : List Link) → joined (map (link b) ls) ≡ read_links b ls
all_links b [] = refl
all_links b (l ∷ ls) = rw (one_link b l) (ap (λ z. read b l.operand ++ z) (all_links b ls))

all_pairs : (b : Inside) (ps : List Pair) → joined (map (pair b) ps) ≡ read_pairs b ps
all_pairs b [] = refl
all_pairs b (p ∷ ps) = rw (one_pair b p) (ap (λ z. (read b p.key ++ read b p.value) ++ z) (all_pairs b ps))

all_trailers : (b : Inside) (ts : List Trailer) → joined (map (used_trailer b) ts) ≡ read_trailers b ts
all_trailers b [] = refl
all_trailers b (t ∷ ts) = ap (λ z. used_trailer b t ++ z) (all_trailers b ts)

all_named : (b : Inside) (ks : List Named) → joined (map (λ k. Text k.0 ∷ k.1) (map (named b) ks)) ≡ read_named b ks
all_named b [] = refl
all_named b (k ∷ ks) = rw (one_named b k) (ap (λ z. (Text k.name ∷ read b k.value) ++ z) (all_named b ks))

all_names : (b : Inside) (ks : List Named) → map (λ k. k.0) (map (named b) ks) ≡ key_names ks
all_names b [] = refl
all_names b (k ∷ ks) = rw (one_named b k) (ap (λ z. k.name ∷ z) (all_names b ks))

pub used_name : (b : Inside) (n : List ℕ) → used b (e.Name n) ≡ record { read = name_read b n; target = name_bound b n }
unfolding used link named pair used_trailer
used_name b n = ap (used b) (sym (e.rolls-Name n)) ∙ fold-roll-Expr Used (List Use) (List Use) (List ℕ × List Use)
    (List Use) (expr_step b) (trailer_step b) (link_step b) (named_step b) (pair_step b) (open'.Name n)

pub used_int : (b : Inside) (n : ℤ) → used b (e.Int n) ≡ only []
unfolding used link named pair used_trailer
used_int b n = ap (used b) (sym (e.rolls-Int n)) ∙ fold-roll-Expr Used (List Use) (List Use) (List ℕ × List Use)
    (List Use) (expr_step b) (trailer_step b) (link_step b) (named_step b) (pair_step b) (open'.Int n)

pub used_str : (b : Inside) (n : List ℕ) → used b (e.Str n) ≡ only (Text n ∷ [])
unfolding used link named pair used_trailer
used_str b n = ap (used b) (sym (e.rolls-Str n)) ∙ fold-roll-Expr Used (List Use) (List Use) (List ℕ × List Use)
    (List Use) (expr_step b) (trailer_step b) (link_step b) (named_step b) (pair_step b) (open'.Str n)

pub used_group : (b : Inside) (a : Expr) → used b (e.Group a) ≡ used b a
unfolding used link named pair used_trailer
used_group b a = ap (used b) (sym (e.rolls-Group a)) ∙ fold-roll-Expr Used (List Use) (List Use) (List ℕ × List Use)
    (List Use) (expr_step b) (trailer_step b) (link_step b) (named_step b) (pair_step b) (open'.Group a)

pub used_tuple : (b : Inside) (es : List Expr) →
    used b (e.Tuple es) ≡ record { read = read_all b es; target = target_all b es }
unfolding used link named pair used_trailer
used_tuple b es = ap (used b) (sym (e.rolls-Tuple es)) ∙ fold-roll-Expr Used (List Use) (List Use) (List ℕ × List Use)
    (List Use) (expr_step b) (trailer_step b) (link_step b) (named_step b) (pair_step b) (open'.Tuple es) ∙
    ap (λ z. record { read = z; target = targets (map (used b) es) }) (reads_all b es) ∙
    ap (λ z. record { read = read_all b es; target = z }) (targets_all b es)

pub used_list : (b : Inside) (es : List Expr) →
    used b (e.List es) ≡ record { read = read_all b es; target = target_all b es }
unfolding used link named pair used_trailer
used_list b es = ap (used b) (sym (e.rolls-List es)) ∙ fold-roll-Expr Used (List Use) (List Use) (List ℕ × List Use)
    (List Use) (expr_step b) (trailer_step b) (link_step b) (named_step b) (pair_step b) (open'.List es) ∙
    ap (λ z. record { read = z; target = targets (map (used b) es) }) (reads_all b es) ∙
    ap (λ z. record { read = read_all b es; target = z }) (targets_all b es)

pub used_dict : (b : Inside) (ps : List Pair) → used b (e.Dict ps) ≡ only (read_pairs b ps)
unfolding used link named pair used_trailer
used_dict b ps = ap (used b) (sym (e.rolls-Dict ps)) ∙ fold-roll-Expr Used (List Use) (List Use) (List ℕ × List Use)
    (List Use) (expr_step b) (trailer_step b) (link_step b) (named_step b) (pair_step b) (open'.Dict ps) ∙
    ap only (all_pairs b ps)

pub used_trail : (b : Inside) (a : Expr) (ts : List Trailer) →
    used b (e.Trail a ts) ≡ only (read b a ++ read_trailers b ts)
unfolding used link named pair used_trailer
used_trail b a ts = ap (used b) (sym (e.rolls-Trail a ts)) ∙
    fold-roll-Expr Used (List Use) (List Use) (List ℕ × List Use) (List Use) (expr_step b) (trailer_step b)
    (link_step b) (named_step b) (pair_step b) (open'.Trail a ts) ∙ ap (λ z. only (read b a ++ z)) (all_trailers b ts)

pub used_power : (b : Inside) (a : Expr) (d : Expr) → used b (e.Power a d) ≡ only (read b a ++ read b d)
unfolding used link named pair used_trailer
used_power b a d = ap (used b) (sym (e.rolls-Power a d)) ∙
    fold-roll-Expr Used (List Use) (List Use) (List ℕ × List Use) (List Use) (expr_step b) (trailer_step b)
    (link_step b) (named_step b) (pair_step b) (open'.Power a d)

pub used_unary : (b : Inside) (g : Sign) (a : Expr) → used b (e.Unary g a) ≡ only (read b a)
unfolding used link named pair used_trailer
used_unary b g a = ap (used b) (sym (e.rolls-Unary g a)) ∙
    fold-roll-Expr Used (List Use) (List Use) (List ℕ × List Use) (List Use) (expr_step b) (trailer_step b)
    (link_step b) (named_step b) (pair_step b) (open'.Unary g a)

pub used_chain : (b : Inside) (l : Level) (a : Expr) (ls : List Link) →
    used b (e.Chain l a ls) ≡ only (read b a ++ read_links b ls)
unfolding used link named pair used_trailer
used_chain b l a ls = ap (used b) (sym (e.rolls-Chain l a ls)) ∙
    fold-roll-Expr Used (List Use) (List Use) (List ℕ × List Use) (List Use) (expr_step b) (trailer_step b)
    (link_step b) (named_step b) (pair_step b) (open'.Chain l a ls) ∙ ap (λ z. only (read b a ++ z)) (all_links b ls)

pub used_not : (b : Inside) (a : Expr) → used b (e.Not a) ≡ only (read b a)
unfolding used link named pair used_trailer
used_not b a = ap (used b) (sym (e.rolls-Not a)) ∙ fold-roll-Expr Used (List Use) (List Use) (List ℕ × List Use)
    (List Use) (expr_step b) (trailer_step b) (link_step b) (named_step b) (pair_step b) (open'.Not a)

pub used_choice : (b : Inside) (a : Expr) (d : Expr) (f : Expr) →
    used b (e.Choice a d f) ≡ only (read b a ++ read b d ++ read b f)
unfolding used link named pair used_trailer
used_choice b a d f = ap (used b) (sym (e.rolls-Choice a d f)) ∙
    fold-roll-Expr Used (List Use) (List Use) (List ℕ × List Use) (List Use) (expr_step b) (trailer_step b)
    (link_step b) (named_step b) (pair_step b) (open'.Choice a d f)

pub used_attribute : (b : Inside) (n : List ℕ) → used_trailer b (t.Attribute n) ≡ Text n ∷ []
unfolding used_trailer used link named pair
used_attribute b n = ap (used_trailer b) (sym (t.rolls-Attribute n)) ∙
    fold-roll-Trailer Used (List Use) (List Use) (List ℕ × List Use) (List Use) (expr_step b) (trailer_step b)
    (link_step b) (named_step b) (pair_step b) (open'.Attribute n)

pub used_index : (b : Inside) (a : Expr) → used_trailer b (t.Index a) ≡ read b a
unfolding used_trailer used link named pair
used_index b a = ap (used_trailer b) (sym (t.rolls-Index a)) ∙
    fold-roll-Trailer Used (List Use) (List Use) (List ℕ × List Use) (List Use) (expr_step b) (trailer_step b)
    (link_step b) (named_step b) (pair_step b) (open'.Index a)

pub used_slice : (b : Inside) (a : Option Expr) (d : Option Expr) →
    used_trailer b (t.Slice a d) ≡ read_some b a ++ read_some b d
unfolding used_trailer used link named pair
used_slice b None None = ap (used_trailer b) (sym (t.rolls-Slice None None)) ∙
    fold-roll-Trailer Used (List Use) (List Use) (List ℕ × List Use) (List Use) (expr_step b) (trailer_step b)
    (link_step b) (named_step b) (pair_step b) (open'.Slice None None)
used_slice b None (Some d) = ap (used_trailer b) (sym (t.rolls-Slice None (Some d))) ∙
    fold-roll-Trailer Used (List Use) (List Use) (List ℕ × List Use) (List Use) (expr_step b) (trailer_step b)
    (link_step b) (named_step b) (pair_step b) (open'.Slice None (Some d))
used_slice b (Some a) None = ap (used_trailer b) (sym (t.rolls-Slice (Some a) None)) ∙
    fold-roll-Trailer Used (List Use) (List Use) (List ℕ × List Use) (List Use) (expr_step b) (trailer_step b)
    (link_step b) (named_step b) (pair_step b) (open'.Slice (Some a) None)
used_slice b (Some a) (Some d) = ap (used_trailer b) (sym (t.rolls-Slice (Some a) (Some d))) ∙
    fold-roll-Trailer Used (List Use) (List Use) (List ℕ × List Use) (List Use) (expr_step b) (trailer_step b)
    (link_step b) (named_step b) (pair_step b) (open'.Slice (Some a) (Some d))

pub used_call : (b : Inside) (es : List Expr) (ks : List Named) →
    used_trailer b (t.Call es ks) ≡ read_all b es ++ read_named b ks ++ Keys b.number (key_names ks) ∷ []
unfolding used_trailer used link named pair
used_call b es ks = ap (used_trailer b) (sym (t.rolls-Call es ks)) ∙
    fold-roll-Trailer Used (List Use) (List Use) (List ℕ × List Use) (List Use) (expr_step b) (trailer_step b)
    (link_step b) (named_step b) (pair_step b) (open'.Call es ks) ∙
    ap (λ z. z ++ joined (map (λ k. Text k.0 ∷ k.1) (map (named b) ks)) ++ Keys b.number
    (map (λ k. k.0) (map (named b) ks)) ∷ []) (reads_all b es) ∙
    ap (λ z. read_all b es ++ z ++ Keys b.number (map (λ k. k.0) (map (named b) ks)) ∷ []) (all_named b ks) ∙
    ap (λ z. read_all b es ++ read_named b ks ++ Keys b.number z ∷ []) (all_names b ks)

pub ruleset used_rules = (
  used_name,
  used_int,
  used_str,
  used_group,
  used_tuple,
  used_list,
  used_dict,
  used_trail,
  used_power,
  used_unary,
  used_chain,
  used_not,
  used_choice,
  used_attribute,
  used_index,
  used_slice,
  used_call,
  height_group,
  height_tuple,
  height_list,
  height_dict,
  height_trail,
  height_power,
  height_unary,
  height_chain,
  height_not,
  height_choice,
  height_index,
  height_slice,
  height_call,
)
