-- What the text of a module says about names, in the order of the text. States `docs/LANGUAGE.md`, "Names and their
-- scopes".
use Rattle.std.specs.Prelude.{ℕ, Bool, true, false, ◌&&◌, not, if◌then◌else◌, codes, List, [], ◌∷◌, ◌++◌, map, Option, Some, None}
use Rattle.std.specs.Str.{bytes_eq}
use Rattle.py_base.specs.NameLists.{has, with_name}
use Rattle.py_tree.specs.declared.expr.Expr.{Expr}
use Rattle.py_tree.specs.declared.expr.Link.{Link}
use Rattle.py_tree.specs.declared.expr.Pair.{Pair}
use Rattle.py_tree.specs.declared.expr.Trailer.{Trailer}
use Rattle.py_tree.specs.declared.expr.Named.{Named}
use Rattle.py_tree.specs.declared.expr.Expr.TheOpen as open'
use Rattle.py_tree.specs.declared.expr.Expr.TheFolds.{fold-Expr, fold-Trailer}
use Rattle.py_tree.specs.declared.stmt.Stmt.{Stmt}
use Rattle.py_tree.specs.declared.stmt.Param.{Param}
use Rattle.py_tree.specs.declared.stmt.Imported.{Imported}
use Rattle.py_tree.specs.declared.stmt.Arm.{Arm}
use Rattle.py_tree.specs.declared.stmt.Clause.{Clause}
use Rattle.py_tree.specs.declared.stmt.Handler.{Handler}
use Rattle.py_tree.specs.declared.stmt.Module.{Module}
use Rattle.py_tree.specs.declared.stmt.Stmt.TheOpen as open2
use Rattle.py_tree.specs.declared.stmt.Stmt.TheFolds.{fold-Stmt}
use Rattle.py_names.specs.declared.event.BodyKind.TheVariants as kind
use Rattle.py_names.specs.declared.event.Event.{Event}
use Rattle.py_names.specs.declared.statement.Where.{Where}
use Rattle.py_names.specs.declared.event.Event.TheVariants.{Enter, Leave, Takes, Uses, Binds, Declares, Misplaced, Doubled}

-- ---- names

abbrev pub is_none : List ℕ → Bool
is_none n = bytes_eq n (codes "None")

-- what stands one after another
abbrev pub joined : List (List Event) → List Event
joined [] = []
joined (es ∷ more) = es ++ joined more

-- `None` is a constant: as a variable it is no name, and it can't be bound, nor name a parameter, a keyword or an
-- attribute.
abbrev pub used_name : ℕ → List ℕ → List Event
used_name line n = if is_none n then [] else Uses line n ∷ []

abbrev pub bound_name : ℕ → List ℕ → List Event
bound_name line n = if is_none n then Misplaced line ∷ [] else Binds line n ∷ []

abbrev pub declared_name : ℕ → List ℕ → List Event
declared_name line n = if is_none n then [] else Declares line n ∷ []

abbrev pub label : ℕ → List ℕ → List Event
label line n = if is_none n then Misplaced line ∷ [] else []

-- a name that stands in a list, where these stand before it
abbrev pub repeated : ℕ → List (List ℕ) → List ℕ → List Event
repeated line before n = if has n before then Doubled line ∷ [] else []

-- ---- expressions

-- what an expression says where it is read, and where it is a target
pub record Said : Type 0 where
  pub read : List Event
  pub target : List Event

abbrev pub plain : List Event → Said
plain es = record { read = es; target = es }

abbrev pub reads : List Said → List Event
reads ss = joined (map (λ s. s.read) ss)

abbrev pub targets : List Said → List Event
targets ss = joined (map (λ s. s.target) ss)

abbrev pub read_or : Option Said → List Event
read_or None = []
read_or (Some s) = s.read

-- keyword arguments, after those with these names
abbrev pub keywords : ℕ → List (List ℕ) → List (List ℕ × Said) → List Event
keywords line before [] = []
keywords line before (k ∷ ks) = label line k.0 ++ repeated line before k.0 ++ k.1.read ++ keywords line
    (with_name before k.0) ks

module _ (line : ℕ) where
  abbrev pub expr_step : open'.Expr-F Said (List Event) (List Event) (List ℕ × Said) (List Event) → Said
  expr_step (open'.Name n) = record { read = used_name line n; target = bound_name line n }
  expr_step (open'.Int n) = plain []
  expr_step (open'.Str s) = plain []
  expr_step (open'.Group a) = a
  expr_step (open'.Tuple as') = record { read = reads as'; target = targets as' }
  expr_step (open'.List as') = record { read = reads as'; target = targets as' }
  expr_step (open'.Dict ps) = plain (joined ps)
  expr_step (open'.Trail a ts) = plain (a.read ++ joined ts)
  expr_step (open'.Power a b) = plain (a.read ++ b.read)
  expr_step (open'.Unary s a) = plain a.read
  expr_step (open'.Chain l a ls) = plain (a.read ++ joined ls)
  expr_step (open'.Not a) = plain a.read
  expr_step (open'.Choice a c b) = plain (a.read ++ c.read ++ b.read)

  abbrev pub trailer_step : open'.Trailer-F Said (List Event) (List Event) (List ℕ × Said) (List Event) → List Event
  trailer_step (open'.Attribute n) = label line n
  trailer_step (open'.Index a) = a.read
  trailer_step (open'.Slice a b) = read_or a ++ read_or b
  trailer_step (open'.Call as' ks) = reads as' ++ keywords line [] ks

  abbrev pub link_step : open'.Link-F Said (List Event) (List Event) (List ℕ × Said) (List Event) → List Event
  link_step l = l.operand.read

  abbrev pub named_step : open'.Named-F Said (List Event) (List Event) (List ℕ × Said) (List Event) → List ℕ × Said
  named_step n = (n.name, n.value)

  abbrev pub pair_step : open'.Pair-F Said (List Event) (List Event) (List ℕ × Said) (List Event) → List Event
  pair_step p = p.key.read ++ p.value.read

  unfoldable pub said : Expr → Said
  said = fold-Expr Said (List Event) (List Event) (List ℕ × Said) (List Event) expr_step trailer_step link_step
      named_step pair_step

  unfoldable pub said_trailer : Trailer → List Event
  said_trailer = fold-Trailer Said (List Event) (List Event) (List ℕ × Said) (List Event) expr_step trailer_step
      link_step named_step pair_step

-- what operators say with their operands, and pairs, trailers and keyword arguments
abbrev pub read_links : ℕ → List Link → List Event
read_links line [] = []
read_links line (l ∷ ls) = (said line l.operand).read ++ read_links line ls

abbrev pub read_pairs : ℕ → List Pair → List Event
read_pairs line [] = []
read_pairs line (p ∷ ps) = ((said line p.key).read ++ (said line p.value).read) ++ read_pairs line ps

abbrev pub read_trailers : ℕ → List Trailer → List Event
read_trailers line [] = []
read_trailers line (t ∷ ts) = said_trailer line t ++ read_trailers line ts

abbrev pub read_keywords : ℕ → List (List ℕ) → List Named → List Event
read_keywords line before [] = []
read_keywords line before (k ∷ ks) = label line k.name ++ repeated line before k.name ++ (said line k.value).read ++
    read_keywords line (with_name before k.name) ks

-- what an expression says where it is read
abbrev pub read : ℕ → Expr → List Event
read line a = (said line a).read

-- and where it is a target
abbrev pub target : ℕ → Expr → List Event
target line a = (said line a).target

abbrev pub read_all : ℕ → List Expr → List Event
read_all line [] = []
read_all line (a ∷ as') = read line a ++ read_all line as'

abbrev pub target_all : ℕ → List Expr → List Event
target_all line [] = []
target_all line (a ∷ as') = target line a ++ target_all line as'

abbrev pub read_some : ℕ → Option Expr → List Event
read_some line None = []
read_some line (Some a) = read line a

abbrev pub target_some : ℕ → Option Expr → List Event
target_some line None = []
target_some line (Some a) = target line a

-- ---- statements

abbrev pub outside : Where
outside = record { function = false; in_loop = false; in_finally = false; in_clause = false }

abbrev pub inside_function : Where
inside_function = record { function = true; in_loop = false; in_finally = false; in_clause = false }

abbrev pub inside_loop : Where → Where
inside_loop w = record { function = w.function; in_loop = true; in_finally = false; in_clause = w.in_clause }

abbrev pub inside_finally : Where → Where
inside_finally w = record { function = w.function; in_loop = w.in_loop; in_finally = true; in_clause = w.in_clause }

abbrev pub inside_clause : Where → Where
inside_clause w = record { function = w.function; in_loop = w.in_loop; in_finally = w.in_finally; in_clause = true }

abbrev pub only_where : Bool → ℕ → List Event
only_where may line = if may then [] else Misplaced line ∷ []

abbrev pub imported_name : Imported → List ℕ
imported_name i = as_bound i.name i.bound
  where
    as_bound : List ℕ → Option (List ℕ) → List ℕ
    as_bound n None = n
    as_bound n (Some m) = m

-- the names that an import binds
abbrev pub declared : ℕ → List (List ℕ) → List Event
declared line [] = []
declared line (n ∷ ns) = declared_name line n ++ declared line ns

abbrev pub imported : ℕ → List Imported → List Event
imported line [] = []
imported line (i ∷ is) = bound_name line (imported_name i) ++ imported line is

-- what a statement says, by where it stands
abbrev pub Says : Type 0
Says = Where → List Event

abbrev pub says_all : List Says → Says
says_all ss w = joined (map (λ s. s w) ss)

abbrev pub says_some : Option Says → Says
says_some None w = []
says_some (Some s) w = s w

-- the parameters of a `def`, after those with these names, with their defaults, as the body round the `def` has them
abbrev pub parameters : ℕ → List (List ℕ) → List Param → List Event
parameters line before [] = []
parameters line before (p ∷ ps) = label line p.name ++ repeated line before p.name ++ read_some line p.default ++
    parameters line (with_name before p.name) ps

abbrev pub takes : List Param → List Event
takes ps = map (λ p. Takes p.name) ps

abbrev pub raises : ℕ → Option Expr → Option Expr → Where → List Event
raises line None v w = only_where w.in_clause line
raises line (Some a) v w = read line a ++ read_some line v

abbrev pub stmt_step : open2.Stmt-F Says Says Says Says → Says
stmt_step (open2.Do line a) w = read line a
stmt_step (open2.Assign line ts a) w = target_all line ts ++ read line a
stmt_step (open2.Augment line t o a) w = target line t ++ read line a
stmt_step (open2.Print line as' b) w = read_all line as'
stmt_step (open2.Pass line) w = []
stmt_step (open2.Break line) w = only_where w.in_loop line
stmt_step (open2.Continue line) w = only_where (w.in_loop && not w.in_finally) line
stmt_step (open2.Return line a) w = only_where w.function line ++ read_some line a
stmt_step (open2.Raise line a v) w = raises line a v w
stmt_step (open2.Del line ts) w = target_all line ts
stmt_step (open2.Global line ns) w = declared line ns
stmt_step (open2.Assert line a m) w = read line a ++ read_some line m
stmt_step (open2.Import line is) w = imported line is
stmt_step (open2.From line m is) w = imported line is
stmt_step (open2.If arms d) w = says_all arms w ++ says_some d w
stmt_step (open2.While arm d) w = arm (inside_loop w) ++ says_some d w
stmt_step (open2.For line t a body d) w = target line t ++ read line a ++ says_all body (inside_loop w) ++ says_some d w
stmt_step (open2.Try body hs d f) w = body w ++ says_all hs (inside_clause w) ++ says_some d w ++ says_some f
    (inside_finally w)
stmt_step (open2.Def line n ps body) w = bound_name line n ++ parameters line [] ps ++ Enter kind.Function ∷ takes ps
    ++ says_all body inside_function ++ Leave ∷ []
stmt_step (open2.Class line n a body) w = bound_name line n ++ read_some line a ++ (Enter kind.Class ∷ []) ++ says_all
    body outside ++ Leave ∷ []

abbrev pub arm_step : open2.Arm-F Says Says Says Says → Says
arm_step a w = read a.line a.test ++ says_all a.body w

abbrev pub clause_step : open2.Clause-F Says Says Says Says → Says
clause_step c w = says_all c.body w

abbrev pub handler_step : open2.Handler-F Says Says Says Says → Says
handler_step h w = read_some h.line h.test ++ target_some h.line h.target ++ says_all h.body w

unfoldable pub says : Stmt → Says
says = fold-Stmt Says Says Says Says stmt_step arm_step clause_step handler_step

-- blocks, arms, clauses and handlers
abbrev pub says_block : List Stmt → Says
says_block [] w = []
says_block (s ∷ ss) w = says s w ++ says_block ss w

abbrev pub says_arm : Arm → Says
says_arm a w = read a.line a.test ++ says_block a.body w

abbrev pub says_arms : List Arm → Says
says_arms [] w = []
says_arms (a ∷ as') w = says_arm a w ++ says_arms as' w

abbrev pub says_clause : Option Clause → Says
says_clause None w = []
says_clause (Some c) w = says_block c.body w

abbrev pub says_handler : Handler → Says
says_handler h w = read_some h.line h.test ++ target_some h.line h.target ++ says_block h.body w

abbrev pub says_handlers : List Handler → Says
says_handlers [] w = []
says_handlers (h ∷ hs) w = says_handler h w ++ says_handlers hs w

-- what a module says
unfoldable pub outline : Module → List Event
outline m = Enter kind.Module ∷ says_block m.body outside ++ Leave ∷ []
