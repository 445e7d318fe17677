-- The events of names, expressions and the heads of statements are ordinary ones: what begins a body, and takes a
-- parameter, is said by `def` and `class` alone, and `None` is never bound.
use Rattle.std.proofs.Common.{◌≡◌, ℕ, Bool, true, false, List, [], ◌∷◌, ◌++◌, Option, Some, None, refl, sym, subst}
use Rattle.std.specs.Prelude.{if◌then◌else◌}
use Rattle.py_tree.specs.declared.expr.Expr.{Expr}
use Rattle.py_tree.specs.declared.expr.Trailer.{Trailer}
use Rattle.py_tree.specs.declared.expr.Link.{Link}
use Rattle.py_tree.specs.declared.expr.Named.{Named}
use Rattle.py_tree.specs.declared.expr.Pair.{Pair}
use Rattle.py_tree.specs.declared.stmt.Imported.{Imported}
use Rattle.py_tree.specs.declared.stmt.Param.{Param}
use Rattle.py_names.specs.declared.event.Event.{Event}
use Rattle.py_names.specs.declared.event.Event.TheVariants.{Enter, Takes, Uses, Binds, Declares, Misplaced, Doubled}
use Rattle.py_names.specs.declared.statement.Where.{Where}
use Rattle.py_base.specs.NameLists.{has, with_name}
use Rattle.py_names.specs.Outline.{is_none, used_name, bound_name, declared_name, declared, label, repeated, Said, plain, said, said_trailer, read, target, read_all, target_all, read_some, target_some, read_links, read_pairs, read_trailers, read_keywords, only_where, imported_name, imported, parameters, raises}
use Rattle.py_names.proofs.Said.{said_name, said_int, said_str, said_group, said_tuple, said_list, said_dict, said_trail, said_power, said_unary, said_chain, said_not, said_choice, said_attribute, said_index, said_slice, said_call}
use Rattle.py_templates.proofs.ExprInduct.{Every, IfThere, Arms, OfLink, OfNamed, OfPair, expr_induct, every_join, every_of}

-- an event that begins no body, takes no parameter and binds no `None`
abbrev pub Ordinary : Event → Type 0
Ordinary (Enter k) = ⊥
Ordinary (Takes n) = ⊥
Ordinary (Binds l n) = is_none n ≡ false
Ordinary _ = Unit {0}

pub record AllOrdinary (es : List Event) : Type 0 where
  pub each : Every Ordinary es

pub ordinary_nil : AllOrdinary []
ordinary_nil = record { each = tt }

pub ordinary_cons : {e : Event} {es : List Event} → Ordinary e → AllOrdinary es → AllOrdinary (e ∷ es)
ordinary_cons h g = record { each = (h, g.each) }

pub ordinary_join : {a b : List Event} → AllOrdinary a → AllOrdinary b → AllOrdinary (a ++ b)
ordinary_join {a = a} {b = b} h g = record { each = every_join Ordinary a b h.each g.each }

-- ---- names

used_ordinary : (l : ℕ) (n : List ℕ) → AllOrdinary (used_name l n)
used_ordinary l n = by_test (is_none n)
  where
    by_test : (b : Bool) → AllOrdinary (if b then [] else Uses l n ∷ [])
    by_test true = ordinary_nil
    by_test false = ordinary_cons tt ordinary_nil

pub bound_ordinary : (l : ℕ) (n : List ℕ) → AllOrdinary (bound_name l n)
bound_ordinary l n = by_test (is_none n) refl
  where
    by_test : (b : Bool) → is_none n ≡ b → AllOrdinary (if b then Misplaced l ∷ [] else Binds l n ∷ [])
    by_test true e = ordinary_cons tt ordinary_nil
    by_test false e = ordinary_cons e ordinary_nil

label_ordinary : (l : ℕ) (n : List ℕ) → AllOrdinary (label l n)
label_ordinary l n = by_test (is_none n)
  where
    by_test : (b : Bool) → AllOrdinary (if b then Misplaced l ∷ [] else [])
    by_test true = ordinary_cons tt ordinary_nil
    by_test false = ordinary_nil

repeated_ordinary : (l : ℕ) (before : List (List ℕ)) (n : List ℕ) → AllOrdinary (repeated l before n)
repeated_ordinary l before n = by_test (has n before)
  where
    by_test : (b : Bool) → AllOrdinary (if b then Doubled l ∷ [] else [])
    by_test true = ordinary_cons tt ordinary_nil
    by_test false = ordinary_nil

pub only_ordinary : (b : Bool) (l : ℕ) → AllOrdinary (only_where b l)
only_ordinary true l = ordinary_nil
only_ordinary false l = ordinary_cons tt ordinary_nil

pub imported_ordinary : (l : ℕ) (is : List Imported) → AllOrdinary (imported l is)
imported_ordinary l [] = ordinary_nil
imported_ordinary l (i ∷ is) = ordinary_join (bound_ordinary l (imported_name i)) (imported_ordinary l is)

declared_ordinary : (l : ℕ) (n : List ℕ) → AllOrdinary (declared_name l n)
declared_ordinary l n = by_test (is_none n)
  where
    by_test : (b : Bool) → AllOrdinary (if b then [] else Declares l n ∷ [])
    by_test true = ordinary_nil
    by_test false = ordinary_cons tt ordinary_nil

pub declares_ordinary : (l : ℕ) (ns : List (List ℕ)) → AllOrdinary (declared l ns)
declares_ordinary l [] = ordinary_nil
declares_ordinary l (n ∷ ns) = ordinary_join (declared_ordinary l n) (declares_ordinary l ns)

-- ---- expressions

record SaidOrdinary (q : Said) : Type 0 where
  read : AllOrdinary q.read
  target : AllOrdinary q.target

plain_ordinary : {es : List Event} → AllOrdinary es → SaidOrdinary (plain es)
plain_ordinary h = record { read = h; target = h }

abbrev OfExpr : Expr → Type 0
OfExpr a = (l : ℕ) → SaidOrdinary (said l a)

abbrev OfTrailer : Trailer → Type 0
OfTrailer t = (l : ℕ) → AllOrdinary (said_trailer l t)

exprs_read : (l : ℕ) (xs : List Expr) → Every OfExpr xs → AllOrdinary (read_all l xs)
exprs_read l [] h = ordinary_nil
exprs_read l (a ∷ xs) h = ordinary_join (h.0 l).read (exprs_read l xs h.1)

exprs_targets : (l : ℕ) (xs : List Expr) → Every OfExpr xs → AllOrdinary (target_all l xs)
exprs_targets l [] h = ordinary_nil
exprs_targets l (a ∷ xs) h = ordinary_join (h.0 l).target (exprs_targets l xs h.1)

option_read : (l : ℕ) (a : Option Expr) → IfThere OfExpr a → AllOrdinary (read_some l a)
option_read l None h = ordinary_nil
option_read l (Some a) h = (h l).read

links_ordinary : (l : ℕ) (ls : List Link) → Every (OfLink OfExpr OfTrailer) ls → AllOrdinary (read_links l ls)
links_ordinary l [] h = ordinary_nil
links_ordinary l (x ∷ ls) h = ordinary_join (h.0 l).read (links_ordinary l ls h.1)

pairs_ordinary : (l : ℕ) (ps : List Pair) → Every (OfPair OfExpr OfTrailer) ps → AllOrdinary (read_pairs l ps)
pairs_ordinary l [] h = ordinary_nil
pairs_ordinary l (p ∷ ps) h = ordinary_join (ordinary_join (h.0.0 l).read (h.0.1 l).read) (pairs_ordinary l ps h.1)

trailers_ordinary : (l : ℕ) (ts : List Trailer) → Every OfTrailer ts → AllOrdinary (read_trailers l ts)
trailers_ordinary l [] h = ordinary_nil
trailers_ordinary l (t ∷ ts) h = ordinary_join (h.0 l) (trailers_ordinary l ts h.1)

keywords_ordinary : (l : ℕ) (before : List (List ℕ)) (ks : List Named) → Every (OfNamed OfExpr OfTrailer) ks →
    AllOrdinary (read_keywords l before ks)
keywords_ordinary l before [] h = ordinary_nil
keywords_ordinary l before (k ∷ ks) h = ordinary_join
    (ordinary_join (ordinary_join (label_ordinary l k.name) (repeated_ordinary l before k.name)) (h.0 l).read)
    (keywords_ordinary l (with_name before k.name) ks h.1)

expr_arms : Arms OfExpr OfTrailer
expr_arms = record {
  name = λ n l. subst SaidOrdinary (sym (said_name l n))
      (record { read = used_ordinary l n; target = bound_ordinary l n });
  int = λ i l. subst SaidOrdinary (sym (said_int l i)) (plain_ordinary ordinary_nil);
  str = λ x l. subst SaidOrdinary (sym (said_str l x)) (plain_ordinary ordinary_nil);
  group = λ a h l. subst SaidOrdinary (sym (said_group l a)) (h l);
  tuple = λ xs h l. subst SaidOrdinary (sym (said_tuple l xs))
      (record { read = exprs_read l xs h; target = exprs_targets l xs h });
  list = λ xs h l. subst SaidOrdinary (sym (said_list l xs))
      (record { read = exprs_read l xs h; target = exprs_targets l xs h });
  dict = λ ps h l. subst SaidOrdinary (sym (said_dict l ps)) (plain_ordinary (pairs_ordinary l ps h));
  trail = λ a ts h g l. subst SaidOrdinary (sym (said_trail l a ts))
      (plain_ordinary (ordinary_join (h l).read (trailers_ordinary l ts g)));
  power = λ a b h g l. subst SaidOrdinary (sym (said_power l a b))
      (plain_ordinary (ordinary_join (h l).read (g l).read));
  unary = λ o a h l. subst SaidOrdinary (sym (said_unary l o a)) (plain_ordinary (h l).read);
  chain = λ o a ls h g l. subst SaidOrdinary (sym (said_chain l o a ls))
      (plain_ordinary (ordinary_join (h l).read (links_ordinary l ls g)));
  not = λ a h l. subst SaidOrdinary (sym (said_not l a)) (plain_ordinary (h l).read);
  choice = λ a b d h g k l. subst SaidOrdinary (sym (said_choice l a b d))
      (plain_ordinary (ordinary_join (ordinary_join (h l).read (g l).read) (k l).read));
  attribute = λ n l. subst AllOrdinary (sym (said_attribute l n)) (label_ordinary l n);
  index = λ a h l. subst AllOrdinary (sym (said_index l a)) (h l).read;
  slice = λ a b h g l. subst AllOrdinary (sym (said_slice l a b))
      (ordinary_join (option_read l a h) (option_read l b g));
  call = λ xs ks h g l. subst AllOrdinary (sym (said_call l xs ks))
      (ordinary_join (exprs_read l xs h) (keywords_ordinary l [] ks g));
}

said_ordinary : (a : Expr) → OfExpr a
said_ordinary = expr_induct OfExpr OfTrailer expr_arms

pub read_ordinary : (l : ℕ) (a : Expr) → AllOrdinary (read l a)
read_ordinary l a = (said_ordinary a l).read

pub target_ordinary : (l : ℕ) (a : Expr) → AllOrdinary (target l a)
target_ordinary l a = (said_ordinary a l).target

pub read_all_ordinary : (l : ℕ) (xs : List Expr) → AllOrdinary (read_all l xs)
read_all_ordinary l xs = exprs_read l xs (every_of OfExpr said_ordinary xs)

pub target_all_ordinary : (l : ℕ) (xs : List Expr) → AllOrdinary (target_all l xs)
target_all_ordinary l xs = exprs_targets l xs (every_of OfExpr said_ordinary xs)

pub read_some_ordinary : (l : ℕ) (a : Option Expr) → AllOrdinary (read_some l a)
read_some_ordinary l None = ordinary_nil
read_some_ordinary l (Some a) = read_ordinary l a

pub target_some_ordinary : (l : ℕ) (a : Option Expr) → AllOrdinary (target_some l a)
target_some_ordinary l None = ordinary_nil
target_some_ordinary l (Some a) = target_ordinary l a

pub raises_ordinary : (l : ℕ) (a v : Option Expr) (w : Where) → AllOrdinary (raises l a v w)
raises_ordinary l None v w = only_ordinary w.in_clause l
raises_ordinary l (Some a) v w = ordinary_join (read_ordinary l a) (read_some_ordinary l v)

pub parameters_ordinary : (l : ℕ) (before : List (List ℕ)) (ps : List Param) → AllOrdinary (parameters l before ps)
parameters_ordinary l before [] = ordinary_nil
parameters_ordinary l before (p ∷ ps) = ordinary_join
    (ordinary_join (ordinary_join (label_ordinary l p.name) (repeated_ordinary l before p.name))
    (read_some_ordinary l p.default)) (parameters_ordinary l (with_name before p.name) ps)
