-- The mirror of the code: nothing public rests on it.
-- A tree with its height and its form, as reading builds it. The heights are those of `docs/LANGUAGE.md`, "Height".
use Rattle.std.specs.Prelude.{ℕ, ℤ, ◌+◌, max, ◌&&◌, true, false, List, [], ◌∷◌, ◌++◌, Option, Some, None}
use Rattle.py_grammar.specs.declared.tall.Tall.{Tall}
use Rattle.py_tree.specs.declared.form.Form.{Form}
use Rattle.py_tree.specs.declared.form.Form.TheVariants.{Bare, Part, Cut, Many, Plain}
use Rattle.py_tree.specs.Form.{is_target}
use Rattle.py_tree.specs.declared.expr.Expr.{Expr}
use Rattle.py_tree.specs.declared.expr.Expr.TheVariants as e
use Rattle.py_tree.specs.declared.expr.Link.{Link}
use Rattle.py_tree.specs.declared.expr.Pair.{Pair}
use Rattle.py_tree.specs.declared.expr.Trailer.{Trailer}
use Rattle.py_tree.specs.declared.expr.Trailer.TheVariants as t
use Rattle.py_tree.specs.declared.expr.Named.{Named}
use Rattle.py_tree.specs.declared.expr.Level.{Level}
use Rattle.py_tree.specs.declared.expr.Operator.{Operator}
use Rattle.py_tree.specs.declared.expr.Sign.{Sign}

abbrev pub plain : {A : Type 0} → A → ℕ → Tall A
plain a h = record { tree = a; tall = h; form = Plain }

-- ---- lists of parts

abbrev pub joined : Form → Form → Form
joined (Many strict wide) f = Many (strict && is_target false f) (wide && is_target true f)
joined other f = Plain

abbrev pub push : Tall (List Expr) → Tall Expr → Tall (List Expr)
push es a = record { tree = es.tree ++ a.tree ∷ []; tall = max es.tall a.tall; form = joined es.form a.form }

abbrev pub none : Tall (List Expr)
none = record { tree = []; tall = 0; form = Many true true }

abbrev pub start : Tall Expr → Tall (List Expr)
start a = push none a

abbrev pub push_link : Tall (List Link) → Operator → Tall Expr → Tall (List Link)
push_link ls o a = plain (ls.tree ++ record { operator = o; operand = a.tree } ∷ []) (max ls.tall a.tall)

abbrev pub push_pair : Tall (List Pair) → Tall Expr → Tall Expr → Tall (List Pair)
push_pair ps a b = plain (ps.tree ++ record { key = a.tree; value = b.tree } ∷ []) (max ps.tall (max a.tall b.tall))

abbrev pub push_named : Tall (List Named) → List ℕ → Tall Expr → Tall (List Named)
push_named ns n a = plain (ns.tree ++ record { name = n; value = a.tree } ∷ []) (max ns.tall a.tall)

abbrev pub push_trailer : Tall (List Trailer) → Tall Trailer → Tall (List Trailer)
push_trailer rs r = record { tree = rs.tree ++ r.tree ∷ []; tall = max rs.tall r.tall; form = r.form }

-- ---- expressions

abbrev pub of_name : List ℕ → Tall Expr
of_name n = record { tree = e.Name n; tall = 1; form = Bare }

abbrev pub of_int : ℤ → Tall Expr
of_int n = plain (e.Int n) 1

abbrev pub of_string : List ℕ → Tall Expr
of_string n = plain (e.Str n) 1

abbrev pub of_group : Tall Expr → Tall Expr
of_group a = record {
  tree = e.Group a.tree;
  tall = a.tall + 1;
  form =
      Many (is_target false a.form) (is_target true a.form);
}

abbrev pub unit : Tall Expr
unit = plain (e.Tuple []) 1

abbrev pub of_tuple : Tall (List Expr) → Tall Expr
of_tuple es = record { tree = e.Tuple es.tree; tall = es.tall + 1; form = es.form }

abbrev pub of_list : Tall (List Expr) → Tall Expr
of_list es = record { tree = e.List es.tree; tall = es.tall + 1; form = es.form }

abbrev pub of_dict : Tall (List Pair) → Tall Expr
of_dict ps = plain (e.Dict ps.tree) (ps.tall + 1)

abbrev pub of_trail : Tall Expr → Tall (List Trailer) → Tall Expr
of_trail a rs = record { tree = e.Trail a.tree rs.tree; tall = max a.tall rs.tall + 1; form = rs.form }

abbrev pub of_power : Tall Expr → Tall Expr → Tall Expr
of_power a b = plain (e.Power a.tree b.tree) (max a.tall b.tall + 1)

abbrev pub of_sign : Sign → Tall Expr → Tall Expr
of_sign s a = plain (e.Unary s a.tree) (a.tall + 1)

abbrev pub of_chain : Level → Tall Expr → Tall (List Link) → Tall Expr
of_chain l a ls = plain (e.Chain l a.tree ls.tree) (max a.tall ls.tall + 1)

abbrev pub of_not : Tall Expr → Tall Expr
of_not a = plain (e.Not a.tree) (a.tall + 1)

abbrev pub of_choice : Tall Expr → Tall Expr → Tall Expr → Tall Expr
of_choice a b d = plain (e.Choice a.tree b.tree d.tree) (max a.tall (max b.tall d.tall) + 1)

-- ---- trailers

abbrev pub of_attribute : List ℕ → Tall Trailer
of_attribute n = record { tree = t.Attribute n; tall = 0; form = Part }

abbrev pub of_index : Tall Expr → Tall Trailer
of_index a = record { tree = t.Index a.tree; tall = a.tall; form = Part }

abbrev pub tree_or : Option (Tall Expr) → Option Expr
tree_or None = None
tree_or (Some a) = Some a.tree

abbrev pub tall_or : Option (Tall Expr) → ℕ
tall_or None = 0
tall_or (Some a) = a.tall

abbrev pub of_slice : Option (Tall Expr) → Option (Tall Expr) → Tall Trailer
of_slice a b = record { tree = t.Slice (tree_or a) (tree_or b); tall = max (tall_or a) (tall_or b); form = Cut }

abbrev pub of_call : Tall (List Expr) → Tall (List Named) → Tall Trailer
of_call es ns = record { tree = t.Call es.tree ns.tree; tall = max es.tall ns.tall; form = Plain }
