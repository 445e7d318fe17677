-- The code of expressions, and what they are as targets: one layer for each kind of node, over the codes of its parts.
-- States `docs/LANGUAGE.md`, "Code of a tree".
use Rattle.std.specs.Prelude.{ℕ, List, [], ◌∷◌, Option, Some, None, if◌then◌else◌, length, map, codes}
use Rattle.py_code.specs.declared.instr.Constant.TheVariants.{None as NoValue, Root, Int as IntValue}
use Rattle.py_code.specs.declared.instr.Instr.{Instr}
use Rattle.py_code.specs.declared.instr.Instr.TheVariants.{Unary, Not, Binary, Compare, KeepFalse, KeepTrue, BuildTuple, BuildList, BuildDict}
use Rattle.py_base.specs.Numbers.{unary_number, binary_number, compare_number}
use Rattle.py_tree.specs.declared.expr.Operator.{Operator}
use Rattle.py_tree.specs.declared.expr.Operator.TheVariants as op
use Rattle.py_tree.specs.declared.expr.Sign.{Sign}
use Rattle.py_tree.specs.declared.expr.Sign.TheVariants as sign
use Rattle.py_tree.specs.declared.expr.Level.{Level}
use Rattle.py_tree.specs.declared.expr.Level.TheVariants as level
use Rattle.py_tree.specs.declared.expr.Expr.{Expr}
use Rattle.py_tree.specs.declared.expr.Trailer.{Trailer}
use Rattle.py_tree.specs.declared.expr.Link.{Link}
use Rattle.py_tree.specs.declared.expr.Named.{Named}
use Rattle.py_tree.specs.declared.expr.Pair.{Pair}
use Rattle.py_tree.specs.declared.expr.Expr.TheOpen as open'
use Rattle.py_tree.specs.declared.expr.Expr.TheFolds.{fold-Expr, fold-Trailer}
use Rattle.py_templates.specs.declared.home.Home.{Home}
use Rattle.py_templates.specs.Template.{Piece, row}
use Rattle.py_templates.specs.Table.{store, del, nothing, one, constant, name, one_value, two_values, link, operators, kept, all_kept, between, chained, conditional, attribute, index, slice, call, method_call, trail, built, pair, to_attr, to_item, to_all, del_attr, del_item, add_name, add_attr, add_item}
use Rattle.py_templates.specs.Names.{Known, home, text, key_list}
use Rattle.py_names.specs.Outline.{is_none}

-- the numbers of the operators, by their signs
abbrev pub operator : Operator → ℕ
operator op.Or = 0
operator op.And = 0
operator op.Less = compare_number (codes "<")
operator op.Greater = compare_number (codes ">")
operator op.Equal = compare_number (codes "==")
operator op.GreaterEqual = compare_number (codes ">=")
operator op.LessEqual = compare_number (codes "<=")
operator op.NotEqual = compare_number (codes "!=")
operator op.In = compare_number (codes "in")
operator op.NotIn = compare_number (codes "not in")
operator op.Is = compare_number (codes "is")
operator op.IsNot = compare_number (codes "is not")
operator op.BitOr = binary_number (codes "|")
operator op.BitXor = binary_number (codes "^")
operator op.BitAnd = binary_number (codes "&")
operator op.ShiftLeft = binary_number (codes "<<")
operator op.ShiftRight = binary_number (codes ">>")
operator op.Plus = binary_number (codes "+")
operator op.Minus = binary_number (codes "-")
operator op.Times = binary_number (codes "*")
operator op.Divide = binary_number (codes "/")
operator op.Floor = binary_number (codes "//")
operator op.Remainder = binary_number (codes "%")
operator op.Power = binary_number (codes "**")

abbrev pub sign_number : Sign → ℕ
sign_number sign.Plus = unary_number (codes "+")
sign_number sign.Minus = unary_number (codes "-")
sign_number sign.Invert = unary_number (codes "~")

-- What an expression is as a target. Of targets in a tuple, list or group these are the codes that store and that
-- delete.
pub data Place : Type 0 where
  AtName : Home → Place
  AtAttr : Piece → ℕ → Place
  AtItem : Piece → Piece → Place
  Spread : Piece → Piece → Place
  NoPlace : Place

-- an expression's code, and what it is as a target
pub record Coded : Type 0 where
  pub value : Piece
  pub place : Place

-- what stands behind an atom
pub data Trailed : Type 0 where
  Attr : List ℕ → Trailed
  Index : Piece → Trailed
  Cut : Piece → Piece → Trailed
  Called : List Piece → List (List ℕ) → List Piece → Trailed

abbrev pub coded_values : List Coded → List Piece
coded_values cs = map (λ c. c.value) cs

-- all but the last
abbrev pub front_of : List Trailed → List Trailed
front_of [] = []
front_of (t ∷ []) = []
front_of (t ∷ u ∷ us) = t ∷ front_of (u ∷ us)

-- an operator with its operand: the last
abbrev pub last_link : ℕ × Piece → List (ℕ × Piece) → ℕ × Piece
last_link x [] = x
last_link x (y ∷ ys) = last_link y ys

-- the keywords of a call
abbrev pub key_names : List Named → List (List ℕ)
key_names [] = []
key_names (k ∷ ks) = k.name ∷ key_names ks

-- In the following `ln` is the line of the simple statement or the clause.
module _ (ln : ℕ) where
  -- a store to a target, its deletion, and its augmented assignment
  abbrev pub store_at : Place → Piece
  store_at (AtName x) = one ln (store x)
  store_at (AtAttr o n) = to_attr ln o n
  store_at (AtItem o i) = to_item ln o i
  store_at (Spread s d) = s
  store_at NoPlace = nothing ln

  abbrev pub del_at : Place → Piece
  del_at (AtName x) = one ln (del x)
  del_at (AtAttr o n) = del_attr ln o n
  del_at (AtItem o i) = del_item ln o i
  del_at (Spread s d) = d
  del_at NoPlace = nothing ln

  abbrev pub add_at : Place → ℕ → Piece → Piece
  add_at (AtName x) o e = add_name ln x o e
  add_at (AtAttr a n) o e = add_attr ln a n o e
  add_at (AtItem a i) o e = add_item ln a i o e
  add_at (Spread s d) o e = nothing ln
  add_at NoPlace o e = nothing ln

  abbrev pub spread : List Coded → Place
  spread cs = Spread (to_all ln (map (λ c. store_at c.place) cs)) (row (map (λ c. del_at c.place) cs))

  -- a and b and c, a or b or c: each operand but the last; the last
  abbrev pub firsts : (ℕ → Instr) → Piece → List (ℕ × Piece) → List Piece
  firsts j a [] = []
  firsts j a (x ∷ xs) = kept ln j a ∷ firsts j x.1 xs

  abbrev pub last_operand : Piece → List (ℕ × Piece) → Piece
  last_operand a [] = a
  last_operand a (x ∷ xs) = last_operand x.1 xs

  abbrev pub logical : (ℕ → Instr) → Piece → List (ℕ × Piece) → Piece
  logical j a xs = all_kept ln (firsts j a xs) (last_operand a xs)

  -- a < b < c: each operand between, with its operator
  abbrev pub betweens : ℕ × Piece → List (ℕ × Piece) → List Piece
  betweens x [] = []
  betweens x (y ∷ ys) = between ln x.0 x.1 ∷ betweens y ys

  abbrev pub all_compared : Piece → ℕ × Piece → List (ℕ × Piece) → Piece
  all_compared a x xs = chained ln a (betweens x xs) (last_link x xs).1 (last_link x xs).0

  abbrev pub comparison : Piece → List (ℕ × Piece) → Piece
  comparison a [] = a
  comparison a (x ∷ []) = two_values ln (Compare x.0) a x.1
  comparison a (x ∷ y ∷ ys) = all_compared a x (y ∷ ys)

  -- a + b - c
  abbrev pub links : List (ℕ × Piece) → List Piece
  links [] = []
  links (x ∷ xs) = link ln (Binary x.0) x.1 ∷ links xs

  abbrev pub operated : Piece → List (ℕ × Piece) → Piece
  operated a xs = operators ln a (links xs)

  abbrev pub chain : Level → Piece → List (ℕ × Piece) → Piece
  chain level.Or a xs = logical KeepTrue a xs
  chain level.And a xs = logical KeepFalse a xs
  chain level.Compare a xs = comparison a xs
  chain level.BitOr a xs = operated a xs
  chain level.BitXor a xs = operated a xs
  chain level.BitAnd a xs = operated a xs
  chain level.Shift a xs = operated a xs
  chain level.Sum a xs = operated a xs
  chain level.Term a xs = operated a xs

  abbrev pub value_or : Option Coded → Piece
  value_or None = constant ln NoValue
  value_or (Some c) = c.value

module _ (n : Known) (ln : ℕ) where
  -- None is a constant
  abbrev pub name_value : List ℕ → Piece
  name_value x = if is_none x then constant ln NoValue else name ln (home n x)

  -- what stands behind an atom, from left to right; an attribute that is called at once is a method call
  abbrev pub behind : List Trailed → List Piece
  behind [] = []
  behind (Attr m ∷ Called args ks vs ∷ ts) = method_call ln (text n m) args (key_list n ks) vs ∷ behind ts
  behind (Attr m ∷ ts) = attribute ln (text n m) ∷ behind ts
  behind (Index i ∷ ts) = index ln i ∷ behind ts
  behind (Cut i j ∷ ts) = slice ln i j ∷ behind ts
  behind (Called args ks vs ∷ ts) = call ln args (key_list n ks) vs ∷ behind ts

  abbrev pub trailed : Piece → List Trailed → Piece
  trailed o ts = trail ln o (behind ts)

  -- as a target: what stands behind the atom but for the last gives the object
  abbrev pub last_place : Piece → Trailed → Place
  last_place o (Attr m) = AtAttr o (text n m)
  last_place o (Index i) = AtItem o i
  last_place o (Cut i j) = NoPlace
  last_place o (Called args ks vs) = NoPlace

  abbrev pub place_by : Piece → List Trailed → Place
  place_by o [] = NoPlace
  place_by o (t ∷ []) = last_place o t
  place_by o (t ∷ u ∷ us) = place_by o (u ∷ us)

  abbrev pub place_of_trail : Piece → List Trailed → Place
  place_of_trail o ts = place_by (trailed o (front_of ts)) ts

  abbrev pub expr_step : open'.Expr-F Coded Trailed (ℕ × Piece) (List ℕ × Piece) Piece → Coded
  expr_step (open'.Name x) = record { value = name_value x; place = AtName (home n x) }
  expr_step (open'.Int i) = record { value = constant ln (IntValue i); place = NoPlace }
  expr_step (open'.Str s) = record { value = constant ln (Root (text n s)); place = NoPlace }
  expr_step (open'.Group c) = c
  expr_step (open'.Tuple cs) = record {
    value = built ln (BuildTuple (length cs)) (coded_values cs);
    place =
        spread ln cs;
  }
  expr_step (open'.List cs) = record {
    value = built ln (BuildList (length cs)) (coded_values cs);
    place =
        spread ln cs;
  }
  expr_step (open'.Dict ps) = record { value = built ln (BuildDict (length ps)) ps; place = NoPlace }
  expr_step (open'.Trail o ts) = record { value = trailed o.value ts; place = place_of_trail o.value ts }
  expr_step (open'.Power a b) = record {
    value = two_values ln (Binary (binary_number (codes "**"))) a.value b.value;
    place = NoPlace;
  }
  expr_step (open'.Unary s a) = record { value = one_value ln (Unary (sign_number s)) a.value; place = NoPlace }
  expr_step (open'.Chain l a xs) = record { value = chain ln l a.value xs; place = NoPlace }
  expr_step (open'.Not a) = record { value = one_value ln Not a.value; place = NoPlace }
  expr_step (open'.Choice x c y) = record { value = conditional ln x.value c.value y.value; place = NoPlace }

  abbrev pub trailer_step : open'.Trailer-F Coded Trailed (ℕ × Piece) (List ℕ × Piece) Piece → Trailed
  trailer_step (open'.Attribute m) = Attr m
  trailer_step (open'.Index c) = Index c.value
  trailer_step (open'.Slice i j) = Cut (value_or ln i) (value_or ln j)
  trailer_step (open'.Call cs ks) = Called (coded_values cs) (map (λ k. k.0) ks) (map (λ k. k.1) ks)

  abbrev pub link_step : open'.Link-F Coded Trailed (ℕ × Piece) (List ℕ × Piece) Piece → ℕ × Piece
  link_step l = (operator l.operator, l.operand.value)

  abbrev pub named_step : open'.Named-F Coded Trailed (ℕ × Piece) (List ℕ × Piece) Piece → List ℕ × Piece
  named_step k = (k.name, k.value.value)

  abbrev pub pair_step : open'.Pair-F Coded Trailed (ℕ × Piece) (List ℕ × Piece) Piece → Piece
  pair_step p = pair ln p.key.value p.value.value

  unfoldable pub coded : Expr → Coded
  coded = fold-Expr Coded Trailed (ℕ × Piece) (List ℕ × Piece) Piece expr_step trailer_step link_step named_step
      pair_step

  unfoldable pub coded_trailer : Trailer → Trailed
  coded_trailer = fold-Trailer Coded Trailed (ℕ × Piece) (List ℕ × Piece) Piece expr_step trailer_step link_step
      named_step pair_step

  -- an expression's code; the store to a target, its deletion
  abbrev pub value : Expr → Piece
  value x = (coded x).value

  abbrev pub stored : Expr → Piece
  stored x = store_at ln (coded x).place

  abbrev pub deleted : Expr → Piece
  deleted x = del_at ln (coded x).place

  -- lists of parts
  abbrev pub values : List Expr → List Piece
  values [] = []
  values (x ∷ xs) = value x ∷ values xs

  abbrev pub all_stored : List Expr → List Piece
  all_stored [] = []
  all_stored (x ∷ xs) = stored x ∷ all_stored xs

  abbrev pub all_deleted : List Expr → List Piece
  all_deleted [] = []
  all_deleted (x ∷ xs) = deleted x ∷ all_deleted xs

  abbrev pub linked : List Link → List (ℕ × Piece)
  linked [] = []
  linked (l ∷ ls) = (operator l.operator, value l.operand) ∷ linked ls

  abbrev pub pairs : List Pair → List Piece
  pairs [] = []
  pairs (p ∷ ps) = pair ln (value p.key) (value p.value) ∷ pairs ps

  abbrev pub key_values : List Named → List Piece
  key_values [] = []
  key_values (k ∷ ks) = value k.value ∷ key_values ks

  abbrev pub trailers : List Trailer → List Trailed
  trailers [] = []
  trailers (t ∷ ts) = coded_trailer t ∷ trailers ts

  abbrev pub value_some : Option Expr → Piece
  value_some None = constant ln NoValue
  value_some (Some x) = value x
