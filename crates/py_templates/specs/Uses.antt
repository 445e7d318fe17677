-- What a module uses of roots and keyword lists, in the order of the text, and the numbers that these get.
-- States `docs/LANGUAGE.md`, "Names in code".
use Rattle.std.specs.Prelude.{ℕ, ◌+◌, ◌==◌, List, [], ◌∷◌, ◌++◌, Option, Some, None, Bool, true, false, if◌then◌else◌, map}
use Rattle.std.specs.List.{list_any}
use Rattle.py_tree.specs.declared.expr.Expr.{Expr}
use Rattle.py_tree.specs.declared.expr.Trailer.{Trailer}
use Rattle.py_tree.specs.declared.expr.Expr.TheOpen as open'
use Rattle.py_tree.specs.declared.expr.Expr.TheFolds.{fold-Expr, fold-Trailer}
use Rattle.py_tree.specs.declared.stmt.Stmt.{Stmt}
use Rattle.py_tree.specs.declared.stmt.Param.{Param}
use Rattle.py_tree.specs.declared.stmt.Imported.{Imported}
use Rattle.py_tree.specs.declared.stmt.Stmt.TheOpen as open2
use Rattle.py_tree.specs.declared.stmt.Stmt.TheFolds.{fold-Stmt}
use Rattle.py_templates.specs.Names.{same_names}
use Rattle.py_base.specs.NameLists.{has, with_name}
use Rattle.py_names.specs.Outline.{is_none}
use Rattle.py_templates.specs.Statements.{bound_name}

-- A string, a global name, or the keyword list of a call in the body with that number; without keywords it is empty.
pub data Use : Type 0 where
  Text : List ℕ → Use
  Global : List ℕ → Use
  Keys : ℕ → List (List ℕ) → Use

-- a body: its number, whether it is a class's, and the names that it binds
pub record Inside : Type 0 where
  pub number : ℕ
  pub is_class : Bool
  pub locals : List (List ℕ)

-- A name that is read: a class body looks for its own names in its dictionary, and then in the cell of that name.
abbrev pub own_read : Bool → List ℕ → List Use
own_read true x = Text x ∷ Global x ∷ []
own_read false x = []

abbrev pub name_read : Inside → List ℕ → List Use
name_read b x = if is_none x then [] else (if has x b.locals then own_read b.is_class x else Global x ∷ [])

-- a name that is bound or deleted
abbrev pub own_bound : Bool → List ℕ → List Use
own_bound true x = Text x ∷ []
own_bound false x = []

abbrev pub name_bound : Inside → List ℕ → List Use
name_bound b x = if has x b.locals then own_bound b.is_class x else Global x ∷ []

abbrev pub joined : List (List Use) → List Use
joined [] = []
joined (us ∷ more) = us ++ joined more

-- ---- expressions

-- where it is read, and where it is a target
pub record Used : Type 0 where
  pub read : List Use
  pub target : List Use

abbrev pub only : List Use → Used
only us = record { read = us; target = us }

abbrev pub reads : List Used → List Use
reads us = joined (map (λ u. u.read) us)

abbrev pub targets : List Used → List Use
targets us = joined (map (λ u. u.target) us)

abbrev pub read_or : Option Used → List Use
read_or None = []
read_or (Some u) = u.read

module _ (b : Inside) where
  abbrev pub expr_step : open'.Expr-F Used (List Use) (List Use) (List ℕ × List Use) (List Use) → Used
  expr_step (open'.Name x) = record { read = name_read b x; target = name_bound b x }
  expr_step (open'.Int i) = only []
  expr_step (open'.Str s) = only (Text s ∷ [])
  expr_step (open'.Group u) = u
  expr_step (open'.Tuple us) = record { read = reads us; target = targets us }
  expr_step (open'.List us) = record { read = reads us; target = targets us }
  expr_step (open'.Dict ps) = only (joined ps)
  expr_step (open'.Trail u ts) = only (u.read ++ joined ts)
  expr_step (open'.Power u v) = only (u.read ++ v.read)
  expr_step (open'.Unary s u) = only u.read
  expr_step (open'.Chain l u ls) = only (u.read ++ joined ls)
  expr_step (open'.Not u) = only u.read
  expr_step (open'.Choice x c y) = only (x.read ++ c.read ++ y.read)

  abbrev pub trailer_step : open'.Trailer-F Used (List Use) (List Use) (List ℕ × List Use) (List Use) → List Use
  trailer_step (open'.Attribute m) = Text m ∷ []
  trailer_step (open'.Index u) = u.read
  trailer_step (open'.Slice u v) = read_or u ++ read_or v
  trailer_step (open'.Call us ks) = reads us ++ joined (map (λ k. Text k.0 ∷ k.1) ks) ++ Keys b.number
      (map (λ k. k.0) ks) ∷ []

  abbrev pub link_step : open'.Link-F Used (List Use) (List Use) (List ℕ × List Use) (List Use) → List Use
  link_step l = l.operand.read

  abbrev pub named_step : open'.Named-F Used (List Use) (List Use) (List ℕ × List Use) (List Use) → List ℕ × List Use
  named_step k = (k.name, k.value.read)

  abbrev pub pair_step : open'.Pair-F Used (List Use) (List Use) (List ℕ × List Use) (List Use) → List Use
  pair_step p = p.key.read ++ p.value.read

  unfoldable pub used : Expr → Used
  used = fold-Expr Used (List Use) (List Use) (List ℕ × List Use) (List Use) expr_step trailer_step link_step
      named_step pair_step

  unfoldable pub used_trailer : Trailer → List Use
  used_trailer = fold-Trailer Used (List Use) (List Use) (List ℕ × List Use) (List Use) expr_step trailer_step
      link_step named_step pair_step

  abbrev pub read : Expr → List Use
  read x = (used x).read

  abbrev pub target : Expr → List Use
  target x = (used x).target

  abbrev pub read_all : List Expr → List Use
  read_all [] = []
  read_all (x ∷ xs) = read x ++ read_all xs

  abbrev pub target_all : List Expr → List Use
  target_all [] = []
  target_all (x ∷ xs) = target x ++ target_all xs

  abbrev pub read_some : Option Expr → List Use
  read_some None = []
  read_some (Some x) = read x

  abbrev pub target_some : Option Expr → List Use
  target_some None = []
  target_some (Some x) = target x

  abbrev pub read_defaults : List Param → List Use
  read_defaults [] = []
  read_defaults (p ∷ ps) = read_some p.default ++ read_defaults ps

  abbrev pub import_use : List Imported → List Use
  import_use [] = []
  import_use (i ∷ is) = name_bound b (bound_name i.name i.bound) ++ import_use is

-- ---- statements

-- How many bodies it holds, and what it uses in this body, where its own bodies are numbered from f on.
pub record Uses : Type 0 where
  pub bodies : ℕ
  pub uses : Inside → ℕ → List Use

abbrev pub quiet : (Inside → List Use) → Uses
quiet g = record { bodies = 0; uses = λ b f. g b }

abbrev pub in_turn : Uses → Uses → Uses
in_turn s t = record { bodies = s.bodies + t.bodies; uses = λ b f. s.uses b f ++ t.uses b (f + s.bodies) }

abbrev pub none_used : Uses
none_used = quiet (λ b. [])

abbrev pub all_in_turn : List Uses → Uses
all_in_turn [] = none_used
all_in_turn (s ∷ ss) = in_turn s (all_in_turn ss)

abbrev pub some_used : Option Uses → Uses
some_used None = none_used
some_used (Some s) = s

-- The names that the bodies bind, by their numbers.
module _ (locals : ℕ → List (List ℕ)) where
  -- a body inside, behind what the body round it uses
  abbrev pub body_used : (Inside → List Use) → Bool → Uses → Uses
  body_used before is_class ss = record {
    bodies = 1 + ss.bodies;
    uses = λ b f. before b ++ ss.uses (record { number = f; is_class = is_class; locals = locals f }) (f + 1);
  }

  abbrev pub stmt_step : open2.Stmt-F Uses Uses Uses Uses → Uses
  stmt_step (open2.Do ln e) = quiet (λ b. read b e)
  stmt_step (open2.Assign ln ts e) = quiet (λ b. target_all b ts ++ read b e)
  stmt_step (open2.Augment ln t o e) = quiet (λ b. read b t ++ target b t ++ read b e)
  stmt_step (open2.Print ln es comma) = quiet (λ b. read_all b es)
  stmt_step (open2.Pass ln) = none_used
  stmt_step (open2.Break ln) = none_used
  stmt_step (open2.Continue ln) = none_used
  stmt_step (open2.Return ln e) = quiet (λ b. read_some b e)
  stmt_step (open2.Raise ln e v) = quiet (λ b. read_some b e ++ read_some b v)
  stmt_step (open2.Del ln ts) = quiet (λ b. target_all b ts)
  stmt_step (open2.Global ln xs) = none_used
  stmt_step (open2.Assert ln t m) = quiet (λ b. read b t ++ read_some b m)
  stmt_step (open2.Import ln is) = quiet (λ b. import_use b is)
  stmt_step (open2.From ln m is) = quiet (λ b. import_use b is)
  stmt_step (open2.If as' e) = in_turn (all_in_turn as') (some_used e)
  stmt_step (open2.While a e) = in_turn a (some_used e)
  stmt_step (open2.For ln t x ss e) = in_turn (quiet (λ b. target b t ++ read b x))
      (in_turn (all_in_turn ss) (some_used e))
  stmt_step (open2.Try t hs e d) = in_turn t (in_turn (all_in_turn hs) (in_turn (some_used e) (some_used d)))
  stmt_step (open2.Def ln x ps ss) = body_used (λ b. name_bound b x ++ read_defaults b ps) false (all_in_turn ss)
  stmt_step (open2.Class ln x e ss) = body_used (λ b. name_bound b x ++ read_some b e) true (all_in_turn ss)

  abbrev pub arm_step : open2.Arm-F Uses Uses Uses Uses → Uses
  arm_step a = in_turn (quiet (λ b. read b a.test)) (all_in_turn a.body)

  abbrev pub clause_step : open2.Clause-F Uses Uses Uses Uses → Uses
  clause_step c = all_in_turn c.body

  abbrev pub handler_step : open2.Handler-F Uses Uses Uses Uses → Uses
  handler_step h = in_turn (quiet (λ b. read_some b h.test ++ target_some b h.target)) (all_in_turn h.body)

  unfoldable pub stmt_uses : Stmt → Uses
  stmt_uses = fold-Stmt Uses Uses Uses Uses stmt_step arm_step clause_step handler_step

  -- what a module uses; its own body has number 0
  unfoldable pub module_uses : List Stmt → List Use
  module_uses ss = (all_in_turn (map stmt_uses ss)).uses (record { number = 0; is_class = false; locals = locals 0 }) 1

-- ---- the numbers

-- each once, in the order of first use
abbrev pub with_keys : List (List (List ℕ)) → List (List ℕ) → List (List (List ℕ))
with_keys kss ks = if list_any (same_names ks) kss then kss else kss ++ ks ∷ []

-- the strings
abbrev pub texts_from : List (List ℕ) → List Use → List (List ℕ)
texts_from ns [] = ns
texts_from ns (Text x ∷ us) = texts_from (with_name ns x) us
texts_from ns (u ∷ us) = texts_from ns us

-- the global names
abbrev pub cells_from : List (List ℕ) → List Use → List (List ℕ)
cells_from ns [] = ns
cells_from ns (Global x ∷ us) = cells_from (with_name ns x) us
cells_from ns (u ∷ us) = cells_from ns us

-- the keyword lists of a body
abbrev pub keys_from : ℕ → List (List (List ℕ)) → List Use → List (List (List ℕ))
keys_from b kss [] = kss
keys_from b kss (Keys c ks ∷ us) = keys_from b (if b == c then with_keys kss ks else kss) us
keys_from b kss (u ∷ us) = keys_from b kss us
