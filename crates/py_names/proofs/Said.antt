-- The equations of `said`.
use Rattle.std.proofs.Common.{◌≡◌, ℕ, ℤ, List, [], ◌∷◌, ◌++◌, map, Option, Some, None, refl, sym, ap, ◌∙◌}
use Rattle.py_tree.specs.declared.expr.Expr.{Expr}
use Rattle.py_tree.specs.declared.expr.Trailer.{Trailer}
use Rattle.py_tree.specs.declared.expr.Link.{Link}
use Rattle.py_tree.specs.declared.expr.Named.{Named}
use Rattle.py_tree.specs.declared.expr.Pair.{Pair}
use Rattle.py_tree.specs.declared.expr.Level.{Level}
use Rattle.py_tree.specs.declared.expr.Sign.{Sign}
use Rattle.py_tree.specs.declared.expr.Expr.TheVariants as e
use Rattle.py_tree.specs.declared.expr.Trailer.TheVariants as t
use Rattle.py_tree.specs.declared.expr.Expr.TheOpen as open'
use Rattle.py_tree.specs.declared.expr.Expr.TheFolds.{fold-roll-Expr, fold-roll-Trailer, fold-Link, fold-Named, fold-Pair, fold_out-Link, fold_out-Named, fold_out-Pair}
use Rattle.py_tree.proofs.Heights.{height_group, height_tuple, height_list, height_dict, height_trail, height_power, height_unary, height_chain, height_not, height_choice, height_index, height_slice, height_call}
use Rattle.py_names.specs.declared.expression.Role.{Role}
use Rattle.py_names.specs.declared.expression.Role.TheVariants.{Read, Target}
use Rattle.py_names.specs.inner.Roles.{told}
use Rattle.py_names.specs.declared.event.Event.{Event}
use Rattle.py_base.specs.NameLists.{with_name}
use Rattle.py_names.specs.Outline.{joined, used_name, bound_name, label, repeated, Said, plain, reads, targets, keywords, expr_step, trailer_step, link_step, named_step, pair_step, said, said_trailer, read, target, read_all, target_all, read_some, read_links, read_pairs, read_trailers, read_keywords}

link : ℕ → Link → List Event
link line = fold-Link Said (List Event) (List Event) (List ℕ × Said) (List Event) (expr_step line) (trailer_step line)
    (link_step line) (named_step line) (pair_step line)

named : ℕ → Named → List ℕ × Said
named line = fold-Named Said (List Event) (List Event) (List ℕ × Said) (List Event) (expr_step line)
    (trailer_step line) (link_step line) (named_step line) (pair_step line)

pair : ℕ → Pair → List Event
pair line = fold-Pair Said (List Event) (List Event) (List ℕ × Said) (List Event) (expr_step line) (trailer_step line)
    (link_step line) (named_step line) (pair_step line)

reads_all : (line : ℕ) (es : List Expr) → reads (map (said line) es) ≡ read_all line es
reads_all line [] = refl
reads_all line (a ∷ es) = ap (λ z. read line a ++ z) (reads_all line es)

targets_all : (line : ℕ) (es : List Expr) → targets (map (said line) es) ≡ target_all line es
targets_all line [] = refl
targets_all line (a ∷ es) = ap (λ z. target line a ++ z) (targets_all line es)

one_link : (line : ℕ) (l : Link) → link line l ≡ (said line l.operand).read
unfolding link said
one_link line l = fold_out-Link Said (List Event) (List Event) (List ℕ × Said) (List Event) (expr_step line)
    (trailer_step line) (link_step line) (named_step line) (pair_step line) l

one_named : (line : ℕ) (k : Named) → named line k ≡ (k.name, said line k.value)
unfolding named said
one_named line k = fold_out-Named Said (List Event) (List Event) (List ℕ × Said) (List Event) (expr_step line)
    (trailer_step line) (link_step line) (named_step line) (pair_step line) k

one_pair : (line : ℕ) (p : Pair) → pair line p ≡ (said line p.key).read ++ (said line p.value).read
unfolding pair said
one_pair line p = fold_out-Pair Said (List Event) (List Event) (List ℕ × Said) (List Event) (expr_step line)
    (trailer_step line) (link_step line) (named_step line) (pair_step line) p

all_links : (line : ℕ) (ls : List Link) → joined (map (link line) ls) ≡ read_links line ls
all_links line [] = refl
all_links line (l ∷ ls) = rw (one_link line l) (ap (λ z. (said line l.operand).read ++ z) (all_links line ls))

all_pairs : (line : ℕ) (ps : List Pair) → joined (map (pair line) ps) ≡ read_pairs line ps
all_pairs line [] = refl
all_pairs line (p ∷ ps) = rw (one_pair line p)
    (ap (λ z. ((said line p.key).read ++ (said line p.value).read) ++ z) (all_pairs line ps))

all_trailers : (line : ℕ) (ts : List Trailer) → joined (map (said_trailer line) ts) ≡ read_trailers line ts
all_trailers line [] = refl
all_trailers line (t ∷ ts) = ap (λ z. said_trailer line t ++ z) (all_trailers line ts)

all_keywords : (line : ℕ) (before : List (List ℕ)) (ks : List Named) →
    keywords line before (map (named line) ks) ≡ read_keywords line before ks
all_keywords line before [] = refl
all_keywords line before (k ∷ ks) = rw (one_named line k)
    (ap (λ z. label line k.name ++ repeated line before k.name ++ (said line k.value).read ++ z)
    (all_keywords line (with_name before k.name) ks))

pub said_name : (line : ℕ) (n : List ℕ) →
    said line (e.Name n) ≡ record { read = used_name line n; target = bound_name line n }
unfolding said link named pair said_trailer
said_name line n = ap (said line) (sym (e.rolls-Name n)) ∙
    fold-roll-Expr Said (List Event) (List Event) (List ℕ × Said) (List Event) (expr_step line) (trailer_step line)
    (link_step line) (named_step line) (pair_step line) (open'.Name n)

pub said_int : (line : ℕ) (n : ℤ) → said line (e.Int n) ≡ plain []
unfolding said link named pair said_trailer
said_int line n = ap (said line) (sym (e.rolls-Int n)) ∙ fold-roll-Expr Said (List Event) (List Event) (List ℕ × Said)
    (List Event) (expr_step line) (trailer_step line) (link_step line) (named_step line) (pair_step line) (open'.Int n)

pub said_str : (line : ℕ) (n : List ℕ) → said line (e.Str n) ≡ plain []
unfolding said link named pair said_trailer
said_str line n = ap (said line) (sym (e.rolls-Str n)) ∙ fold-roll-Expr Said (List Event) (List Event) (List ℕ × Said)
    (List Event) (expr_step line) (trailer_step line) (link_step line) (named_step line) (pair_step line) (open'.Str n)

pub said_group : (line : ℕ) (a : Expr) → said line (e.Group a) ≡ said line a
unfolding said link named pair said_trailer
said_group line a = ap (said line) (sym (e.rolls-Group a)) ∙
    fold-roll-Expr Said (List Event) (List Event) (List ℕ × Said) (List Event) (expr_step line) (trailer_step line)
    (link_step line) (named_step line) (pair_step line) (open'.Group a)

pub said_tuple : (line : ℕ) (es : List Expr) →
    said line (e.Tuple es) ≡ record { read = read_all line es; target = target_all line es }
unfolding said link named pair said_trailer
said_tuple line es = ap (said line) (sym (e.rolls-Tuple es)) ∙
    fold-roll-Expr Said (List Event) (List Event) (List ℕ × Said) (List Event) (expr_step line) (trailer_step line)
    (link_step line) (named_step line) (pair_step line) (open'.Tuple es) ∙
    ap (λ z. record { read = z; target = targets (map (said line) es) }) (reads_all line es) ∙
    ap (λ z. record { read = read_all line es; target = z }) (targets_all line es)

pub said_list : (line : ℕ) (es : List Expr) →
    said line (e.List es) ≡ record { read = read_all line es; target = target_all line es }
unfolding said link named pair said_trailer
said_list line es = ap (said line) (sym (e.rolls-List es)) ∙
    fold-roll-Expr Said (List Event) (List Event) (List ℕ × Said) (List Event) (expr_step line) (trailer_step line)
    (link_step line) (named_step line) (pair_step line) (open'.List es) ∙
    ap (λ z. record { read = z; target = targets (map (said line) es) }) (reads_all line es) ∙
    ap (λ z. record { read = read_all line es; target = z }) (targets_all line es)

pub said_dict : (line : ℕ) (ps : List Pair) → said line (e.Dict ps) ≡ plain (read_pairs line ps)
unfolding said link named pair said_trailer
said_dict line ps = ap (said line) (sym (e.rolls-Dict ps)) ∙
    fold-roll-Expr Said (List Event) (List Event) (List ℕ × Said) (List Event) (expr_step line) (trailer_step line)
    (link_step line) (named_step line) (pair_step line) (open'.Dict ps) ∙ ap plain (all_pairs line ps)

pub said_trail : (line : ℕ) (a : Expr) (ts : List Trailer) →
    said line (e.Trail a ts) ≡ plain (read line a ++ read_trailers line ts)
unfolding said link named pair said_trailer
said_trail line a ts = ap (said line) (sym (e.rolls-Trail a ts)) ∙
    fold-roll-Expr Said (List Event) (List Event) (List ℕ × Said) (List Event) (expr_step line) (trailer_step line)
    (link_step line) (named_step line) (pair_step line) (open'.Trail a ts) ∙
    ap (λ z. plain (read line a ++ z)) (all_trailers line ts)

pub said_power : (line : ℕ) (a : Expr) (b : Expr) → said line (e.Power a b) ≡ plain (read line a ++ read line b)
unfolding said link named pair said_trailer
said_power line a b = ap (said line) (sym (e.rolls-Power a b)) ∙
    fold-roll-Expr Said (List Event) (List Event) (List ℕ × Said) (List Event) (expr_step line) (trailer_step line)
    (link_step line) (named_step line) (pair_step line) (open'.Power a b)

pub said_unary : (line : ℕ) (g : Sign) (a : Expr) → said line (e.Unary g a) ≡ plain (read line a)
unfolding said link named pair said_trailer
said_unary line g a = ap (said line) (sym (e.rolls-Unary g a)) ∙
    fold-roll-Expr Said (List Event) (List Event) (List ℕ × Said) (List Event) (expr_step line) (trailer_step line)
    (link_step line) (named_step line) (pair_step line) (open'.Unary g a)

pub said_chain : (line : ℕ) (l : Level) (a : Expr) (ls : List Link) →
    said line (e.Chain l a ls) ≡ plain (read line a ++ read_links line ls)
unfolding said link named pair said_trailer
said_chain line l a ls = ap (said line) (sym (e.rolls-Chain l a ls)) ∙
    fold-roll-Expr Said (List Event) (List Event) (List ℕ × Said) (List Event) (expr_step line) (trailer_step line)
    (link_step line) (named_step line) (pair_step line) (open'.Chain l a ls) ∙
    ap (λ z. plain (read line a ++ z)) (all_links line ls)

pub said_not : (line : ℕ) (a : Expr) → said line (e.Not a) ≡ plain (read line a)
unfolding said link named pair said_trailer
said_not line a = ap (said line) (sym (e.rolls-Not a)) ∙ fold-roll-Expr Said (List Event) (List Event) (List ℕ × Said)
    (List Event) (expr_step line) (trailer_step line) (link_step line) (named_step line) (pair_step line) (open'.Not a)

pub said_choice : (line : ℕ) (a : Expr) (b : Expr) (d : Expr) →
    said line (e.Choice a b d) ≡ plain (read line a ++ read line b ++ read line d)
unfolding said link named pair said_trailer
said_choice line a b d = ap (said line) (sym (e.rolls-Choice a b d)) ∙
    fold-roll-Expr Said (List Event) (List Event) (List ℕ × Said) (List Event) (expr_step line) (trailer_step line)
    (link_step line) (named_step line) (pair_step line) (open'.Choice a b d)

pub said_attribute : (line : ℕ) (n : List ℕ) → said_trailer line (t.Attribute n) ≡ label line n
unfolding said_trailer said link named pair
said_attribute line n = ap (said_trailer line) (sym (t.rolls-Attribute n)) ∙
    fold-roll-Trailer Said (List Event) (List Event) (List ℕ × Said) (List Event) (expr_step line) (trailer_step line)
    (link_step line) (named_step line) (pair_step line) (open'.Attribute n)

pub said_index : (line : ℕ) (a : Expr) → said_trailer line (t.Index a) ≡ read line a
unfolding said_trailer said link named pair
said_index line a = ap (said_trailer line) (sym (t.rolls-Index a)) ∙
    fold-roll-Trailer Said (List Event) (List Event) (List ℕ × Said) (List Event) (expr_step line) (trailer_step line)
    (link_step line) (named_step line) (pair_step line) (open'.Index a)

pub said_slice : (line : ℕ) (a : Option Expr) (b : Option Expr) → said_trailer line (t.Slice a b) ≡ read_some line a ++
    read_some line b
unfolding said_trailer said link named pair
said_slice line None None = ap (said_trailer line) (sym (t.rolls-Slice None None)) ∙
    fold-roll-Trailer Said (List Event) (List Event) (List ℕ × Said) (List Event) (expr_step line) (trailer_step line)
    (link_step line) (named_step line) (pair_step line) (open'.Slice None None)
said_slice line None (Some b) = ap (said_trailer line) (sym (t.rolls-Slice None (Some b))) ∙
    fold-roll-Trailer Said (List Event) (List Event) (List ℕ × Said) (List Event) (expr_step line) (trailer_step line)
    (link_step line) (named_step line) (pair_step line) (open'.Slice None (Some b))
said_slice line (Some a) None = ap (said_trailer line) (sym (t.rolls-Slice (Some a) None)) ∙
    fold-roll-Trailer Said (List Event) (List Event) (List ℕ × Said) (List Event) (expr_step line) (trailer_step line)
    (link_step line) (named_step line) (pair_step line) (open'.Slice (Some a) None)
said_slice line (Some a) (Some b) = ap (said_trailer line) (sym (t.rolls-Slice (Some a) (Some b))) ∙
    fold-roll-Trailer Said (List Event) (List Event) (List ℕ × Said) (List Event) (expr_step line) (trailer_step line)
    (link_step line) (named_step line) (pair_step line) (open'.Slice (Some a) (Some b))

pub said_call : (line : ℕ) (es : List Expr) (ks : List Named) → said_trailer line (t.Call es ks) ≡ read_all line es ++
    read_keywords line [] ks
unfolding said_trailer said link named pair
said_call line es ks = ap (said_trailer line) (sym (t.rolls-Call es ks)) ∙
    fold-roll-Trailer Said (List Event) (List Event) (List ℕ × Said) (List Event) (expr_step line) (trailer_step line)
    (link_step line) (named_step line) (pair_step line) (open'.Call es ks) ∙
    ap (λ z. z ++ keywords line [] (map (named line) ks)) (reads_all line es) ∙
    ap (λ z. read_all line es ++ z) (all_keywords line [] ks)

pub told_int : (r : Role) (line : ℕ) (n : ℤ) → told r line (e.Int n) ≡ []
told_int Read line n = ap (λ s. s.read) (said_int line n)
told_int Target line n = ap (λ s. s.target) (said_int line n)

pub told_str : (r : Role) (line : ℕ) (n : List ℕ) → told r line (e.Str n) ≡ []
told_str Read line n = ap (λ s. s.read) (said_str line n)
told_str Target line n = ap (λ s. s.target) (said_str line n)

pub told_dict : (r : Role) (line : ℕ) (ps : List Pair) → told r line (e.Dict ps) ≡ read_pairs line ps
told_dict Read line ps = ap (λ s. s.read) (said_dict line ps)
told_dict Target line ps = ap (λ s. s.target) (said_dict line ps)

pub told_trail : (r : Role) (line : ℕ) (a : Expr) (ts : List Trailer) →
    told r line (e.Trail a ts) ≡ read line a ++ read_trailers line ts
told_trail Read line a ts = ap (λ s. s.read) (said_trail line a ts)
told_trail Target line a ts = ap (λ s. s.target) (said_trail line a ts)

pub told_power : (r : Role) (line : ℕ) (a : Expr) (b : Expr) → told r line (e.Power a b) ≡ read line a ++ read line b
told_power Read line a b = ap (λ s. s.read) (said_power line a b)
told_power Target line a b = ap (λ s. s.target) (said_power line a b)

pub told_unary : (r : Role) (line : ℕ) (g : Sign) (a : Expr) → told r line (e.Unary g a) ≡ read line a
told_unary Read line g a = ap (λ s. s.read) (said_unary line g a)
told_unary Target line g a = ap (λ s. s.target) (said_unary line g a)

pub told_chain : (r : Role) (line : ℕ) (l : Level) (a : Expr) (ls : List Link) →
    told r line (e.Chain l a ls) ≡ read line a ++ read_links line ls
told_chain Read line l a ls = ap (λ s. s.read) (said_chain line l a ls)
told_chain Target line l a ls = ap (λ s. s.target) (said_chain line l a ls)

pub told_not : (r : Role) (line : ℕ) (a : Expr) → told r line (e.Not a) ≡ read line a
told_not Read line a = ap (λ s. s.read) (said_not line a)
told_not Target line a = ap (λ s. s.target) (said_not line a)

pub told_choice : (r : Role) (line : ℕ) (a : Expr) (b : Expr) (d : Expr) →
    told r line (e.Choice a b d) ≡ read line a ++ read line b ++ read line d
told_choice Read line a b d = ap (λ s. s.read) (said_choice line a b d)
told_choice Target line a b d = ap (λ s. s.target) (said_choice line a b d)

pub ruleset saids = (
  said_name,
  said_int,
  said_str,
  said_group,
  said_tuple,
  said_list,
  said_dict,
  said_trail,
  said_power,
  said_unary,
  said_chain,
  said_not,
  said_choice,
  said_attribute,
  said_index,
  said_slice,
  said_call,
  told_int,
  told_str,
  told_dict,
  told_trail,
  told_power,
  told_unary,
  told_chain,
  told_not,
  told_choice,
  height_group,
  height_tuple,
  height_list,
  height_dict,
  height_trail,
  height_power,
  height_unary,
  height_chain,
  height_not,
  height_choice,
  height_index,
  height_slice,
  height_call,
)
