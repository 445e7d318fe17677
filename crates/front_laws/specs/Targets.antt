-- What may be assigned to. States `docs/LANGUAGE.md`, "Grammar".
use Rattle.std.specs.Prelude.{ℕ, Bool, true, List, [], ◌∷◌, Option}
use Rattle.py_tree.specs.declared.expr.Expr.{Expr}
use Rattle.py_tree.specs.declared.expr.Expr.TheVariants as e
use Rattle.py_tree.specs.declared.expr.Trailer.{Trailer}
use Rattle.py_tree.specs.declared.expr.Trailer.TheVariants as t

-- the last trailer of an atom's
pub data LastOf : List Trailer → Trailer → Type 0 where
  last : (r : Trailer) → LastOf (r ∷ []) r
  later : (q : Trailer) {rs : List Trailer} {r : Trailer} → LastOf rs r → LastOf (q ∷ rs) r

-- a name, an attribute, a subscript (a slice where these count), or a group, a list or a tuple of targets; `[]` is one,
-- and `()` none
mutual
  pub data IsTarget : Bool → Expr → Type 0 where
    name : (slices : Bool) (n : List ℕ) → IsTarget slices (e.Name n)
    attribute : (slices : Bool) (a : Expr) {rs : List Trailer} (n : List ℕ) → LastOf rs (t.Attribute n) →
        IsTarget slices (e.Trail a rs)
    subscript : (slices : Bool) (a : Expr) {rs : List Trailer} (i : Expr) → LastOf rs (t.Index i) →
        IsTarget slices (e.Trail a rs)
    slice : (a : Expr) {rs : List Trailer} (low high : Option Expr) → LastOf rs (t.Slice low high) →
        IsTarget true (e.Trail a rs)
    group : {slices : Bool} {a : Expr} → IsTarget slices a → IsTarget slices (e.Group a)
    list : {slices : Bool} {es : List Expr} → AreTargets slices es → IsTarget slices (e.List es)
    tuple : {slices : Bool} {a : Expr} {es : List Expr} → AreTargets slices (a ∷ es) →
        IsTarget slices (e.Tuple (a ∷ es))

  pub data AreTargets : Bool → List Expr → Type 0 where
    none : (slices : Bool) → AreTargets slices []
    more : {slices : Bool} {a : Expr} {es : List Expr} → IsTarget slices a → AreTargets slices es →
        AreTargets slices (a ∷ es)
