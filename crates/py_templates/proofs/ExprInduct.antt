-- Induction over expressions: what holds of a kind of node, if it holds of its parts, holds of every expression.
use Rattle.std.proofs.Common.{ℕ, ℤ, List, [], ◌∷◌, ◌++◌, map, Option, Some, None, sym, subst}
use Rattle.py_tree.specs.declared.expr.Expr.{Expr, roll-Expr}
use Rattle.py_tree.specs.declared.expr.Trailer.{Trailer, roll-Trailer}
use Rattle.py_tree.specs.declared.expr.Link.{Link, roll-Link}
use Rattle.py_tree.specs.declared.expr.Named.{Named, roll-Named}
use Rattle.py_tree.specs.declared.expr.Pair.{Pair, roll-Pair}
use Rattle.py_tree.specs.declared.expr.Level.{Level}
use Rattle.py_tree.specs.declared.expr.Sign.{Sign}
use Rattle.py_tree.specs.declared.expr.Expr.TheVariants as e
use Rattle.py_tree.specs.declared.expr.Trailer.TheVariants as t
use Rattle.py_tree.specs.declared.expr.Expr.TheOpen as open'
use Rattle.py_tree.specs.declared.expr.Expr.TheFolds.{ind-Expr, map-Expr, map-Trailer, map-Link, map-Named, map-Pair}

-- of each of these
abbrev pub Every : {A : Type 0} → (A → Type 0) → List A → Type 0
Every P [] = Unit {0}
Every P (x ∷ xs) = P x × Every P xs

abbrev pub IfThere : {A : Type 0} → (A → Type 0) → Option A → Type 0
IfThere P None = Unit {0}
IfThere P (Some x) = P x

-- what holds of two lists in turn
pub every_front : {A : Type 0} (Q : A → Type 0) (a c : List A) → Every Q (a ++ c) → Every Q a
every_front Q [] c h = tt
every_front Q (x ∷ a) c h = (h.0, every_front Q a c h.1)

pub every_back : {A : Type 0} (Q : A → Type 0) (a c : List A) → Every Q (a ++ c) → Every Q c
every_back Q [] c h = h
every_back Q (x ∷ a) c h = every_back Q a c h.1

pub every_join : {A : Type 0} (Q : A → Type 0) (a c : List A) → Every Q a → Every Q c → Every Q (a ++ c)
every_join Q [] c h g = g
every_join Q (x ∷ a) c h g = (h.0, every_join Q a c h.1 g)

-- what holds of everything
pub every_of : {A : Type 0} (Q : A → Type 0) → ((x : A) → Q x) → (xs : List A) → Every Q xs
every_of Q f [] = tt
every_of Q f (x ∷ xs) = (f x, every_of Q f xs)

-- parts that come with what holds of each
pub every : {A : Type 0} (Q : A → Type 0) (ys : List ((x : A) × Q x)) → Every Q (map (λ y. y.0) ys)
every Q [] = tt
every Q (y ∷ ys) = (y.1, every Q ys)

module _ (P : Expr → Type 0) (T : Trailer → Type 0) where
  abbrev pub OfLink : Link → Type 0
  OfLink l = P l.operand

  abbrev pub OfNamed : Named → Type 0
  OfNamed k = P k.value

  abbrev pub OfPair : Pair → Type 0
  OfPair p = P p.key × P p.value

  -- one arm for each kind of node
  pub record Arms : Type 0 where
    pub name : (x : List ℕ) → P (e.Name x)
    pub int : (i : ℤ) → P (e.Int i)
    pub str : (x : List ℕ) → P (e.Str x)
    pub group : (a : Expr) → P a → P (e.Group a)
    pub tuple : (xs : List Expr) → Every P xs → P (e.Tuple xs)
    pub list : (xs : List Expr) → Every P xs → P (e.List xs)
    pub dict : (ps : List Pair) → Every OfPair ps → P (e.Dict ps)
    pub trail : (a : Expr) (ts : List Trailer) → P a → Every T ts → P (e.Trail a ts)
    pub power : (a b : Expr) → P a → P b → P (e.Power a b)
    pub unary : (g : Sign) (a : Expr) → P a → P (e.Unary g a)
    pub chain : (l : Level) (a : Expr) (ls : List Link) → P a → Every OfLink ls → P (e.Chain l a ls)
    pub not : (a : Expr) → P a → P (e.Not a)
    pub choice : (a b d : Expr) → P a → P b → P d → P (e.Choice a b d)
    pub attribute : (x : List ℕ) → T (t.Attribute x)
    pub index : (a : Expr) → P a → T (t.Index a)
    pub slice : (a b : Option Expr) → IfThere P a → IfThere P b → T (t.Slice a b)
    pub call : (xs : List Expr) (ks : List Named) → Every P xs → Every OfNamed ks → T (t.Call xs ks)

  abbrev E-with : Type 0
  E-with = (x : Expr) × P x

  abbrev T-with : Type 0
  T-with = (x : Trailer) × T x

  abbrev L-with : Type 0
  L-with = (x : Link) × OfLink x

  abbrev N-with : Type 0
  N-with = (x : Named) × OfNamed x

  abbrev P-with : Type 0
  P-with = (x : Pair) × OfPair x

  expr_arm : Arms → (y : open'.Expr-F E-with T-with L-with N-with P-with) →
      P (roll-Expr (map-Expr E-with T-with L-with N-with P-with Expr Trailer Link Named Pair (λ y. y.0) (λ y. y.0)
      (λ y. y.0) (λ y. y.0) (λ y. y.0) y))
  expr_arm m (open'.Name x) = subst P (sym (e.rolls-Name x)) (m.name x)
  expr_arm m (open'.Int x) = subst P (sym (e.rolls-Int x)) (m.int x)
  expr_arm m (open'.Str x) = subst P (sym (e.rolls-Str x)) (m.str x)
  expr_arm m (open'.Group a) = subst P (sym (e.rolls-Group a.0)) (m.group a.0 a.1)
  expr_arm m (open'.Tuple ys) = subst P (sym (e.rolls-Tuple (map (λ y. y.0) ys)))
      (m.tuple (map (λ y. y.0) ys) (every P ys))
  expr_arm m (open'.List ys) = subst P (sym (e.rolls-List (map (λ y. y.0) ys)))
      (m.list (map (λ y. y.0) ys) (every P ys))
  expr_arm m (open'.Dict ys) = subst P (sym (e.rolls-Dict (map (λ y. y.0) ys)))
      (m.dict (map (λ y. y.0) ys) (every OfPair ys))
  expr_arm m (open'.Trail a ys) = subst P (sym (e.rolls-Trail a.0 (map (λ y. y.0) ys)))
      (m.trail a.0 (map (λ y. y.0) ys) a.1 (every T ys))
  expr_arm m (open'.Power a b) = subst P (sym (e.rolls-Power a.0 b.0)) (m.power a.0 b.0 a.1 b.1)
  expr_arm m (open'.Unary g a) = subst P (sym (e.rolls-Unary g a.0)) (m.unary g a.0 a.1)
  expr_arm m (open'.Chain l a ys) = subst P (sym (e.rolls-Chain l a.0 (map (λ y. y.0) ys)))
      (m.chain l a.0 (map (λ y. y.0) ys) a.1 (every OfLink ys))
  expr_arm m (open'.Not a) = subst P (sym (e.rolls-Not a.0)) (m.not a.0 a.1)
  expr_arm m (open'.Choice a b d) = subst P (sym (e.rolls-Choice a.0 b.0 d.0)) (m.choice a.0 b.0 d.0 a.1 b.1 d.1)

  trailer_arm : Arms → (y : open'.Trailer-F E-with T-with L-with N-with P-with) →
      T (roll-Trailer (map-Trailer E-with T-with L-with N-with P-with Expr Trailer Link Named Pair (λ y. y.0)
      (λ y. y.0) (λ y. y.0) (λ y. y.0) (λ y. y.0) y))
  trailer_arm m (open'.Attribute x) = subst T (sym (t.rolls-Attribute x)) (m.attribute x)
  trailer_arm m (open'.Index a) = subst T (sym (t.rolls-Index a.0)) (m.index a.0 a.1)
  trailer_arm m (open'.Slice None None) = subst T (sym (t.rolls-Slice None None)) (m.slice None None tt tt)
  trailer_arm m (open'.Slice None (Some b)) =
      subst T (sym (t.rolls-Slice None (Some b.0))) (m.slice None (Some b.0) tt b.1)
  trailer_arm m (open'.Slice (Some a) None) =
      subst T (sym (t.rolls-Slice (Some a.0) None)) (m.slice (Some a.0) None a.1 tt)
  trailer_arm m (open'.Slice (Some a) (Some b)) =
      subst T (sym (t.rolls-Slice (Some a.0) (Some b.0))) (m.slice (Some a.0) (Some b.0) a.1 b.1)
  trailer_arm m (open'.Call ys zs) = subst T (sym (t.rolls-Call (map (λ y. y.0) ys) (map (λ y. y.0) zs)))
      (m.call (map (λ y. y.0) ys) (map (λ y. y.0) zs) (every P ys) (every OfNamed zs))

  link_arm : (y : open'.Link-F E-with T-with L-with N-with P-with) →
      OfLink (roll-Link (map-Link E-with T-with L-with N-with P-with Expr Trailer Link Named Pair (λ y. y.0) (λ y. y.0)
      (λ y. y.0) (λ y. y.0) (λ y. y.0) y))
  link_arm y = y.operand.1

  named_arm : (y : open'.Named-F E-with T-with L-with N-with P-with) →
      OfNamed (roll-Named (map-Named E-with T-with L-with N-with P-with Expr Trailer Link Named Pair (λ y. y.0)
      (λ y. y.0) (λ y. y.0) (λ y. y.0) (λ y. y.0) y))
  named_arm y = y.value.1

  pair_arm : (y : open'.Pair-F E-with T-with L-with N-with P-with) →
      OfPair (roll-Pair (map-Pair E-with T-with L-with N-with P-with Expr Trailer Link Named Pair (λ y. y.0) (λ y. y.0)
      (λ y. y.0) (λ y. y.0) (λ y. y.0) y))
  pair_arm y = (y.key.1, y.value.1)

  pub expr_induct : Arms → (x : Expr) → P x
  expr_induct m = ind-Expr P T OfLink OfNamed OfPair
      (λ x y is. subst (λ z. P (roll-Expr z)) is (expr_arm m y))
      (λ x y is. subst (λ z. T (roll-Trailer z)) is (trailer_arm m y))
      (λ x y is. subst (λ z. OfLink (roll-Link z)) is (link_arm y))
      (λ x y is. subst (λ z. OfNamed (roll-Named z)) is (named_arm y))
      (λ x y is. subst (λ z. OfPair (roll-Pair z)) is (pair_arm y))
