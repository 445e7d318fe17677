-- The equations of `form`.
use Rattle.std.proofs.Common.{◌≡◌, ℕ, ℤ, List, [], ◌∷◌, map, Option, sym, ap, ◌∙◌}
use Rattle.py_tree.specs.declared.expr.Expr.{Expr}
use Rattle.py_tree.specs.declared.expr.Trailer.{Trailer}
use Rattle.py_tree.specs.declared.expr.Link.{Link}
use Rattle.py_tree.specs.declared.expr.Named.{Named}
use Rattle.py_tree.specs.declared.expr.Pair.{Pair}
use Rattle.py_tree.specs.declared.expr.Level.{Level}
use Rattle.py_tree.specs.declared.expr.Sign.{Sign}
use Rattle.py_tree.specs.declared.expr.Expr.TheVariants.{Name, Int, Str, Group, Tuple, List as ListOf, Dict, Trail, Power, Unary, Chain, Not, Choice, rolls-Name, rolls-Int, rolls-Str, rolls-Group, rolls-Tuple, rolls-List, rolls-Dict, rolls-Trail, rolls-Power, rolls-Unary, rolls-Chain, rolls-Not, rolls-Choice}
use Rattle.py_tree.specs.declared.expr.Expr.TheOpen as open'
use Rattle.py_tree.specs.declared.expr.Expr.TheFolds.{fold-roll-Expr, fold-roll-Trailer}
use Rattle.py_tree.specs.declared.expr.Trailer.TheVariants as t
use Rattle.py_tree.specs.declared.form.Form.{Form}
use Rattle.py_tree.specs.declared.form.Form.TheVariants.{Bare, Part, Cut, Plain}
use Rattle.py_tree.specs.Form.{many, last_form, form, form_trailer, expr_form, trailer_form}

pub form_name : (n : List ℕ) → form (Name n) ≡ Bare
unfolding form form_trailer
form_name n = ap form (sym (rolls-Name n)) ∙ fold-roll-Expr Form Form Form Form Form expr_form trailer_form
    (λ l. Plain) (λ n. Plain) (λ p. Plain) (open'.Name n)

pub form_int : (n : ℤ) → form (Int n) ≡ Plain
unfolding form form_trailer
form_int n = ap form (sym (rolls-Int n)) ∙ fold-roll-Expr Form Form Form Form Form expr_form trailer_form (λ l. Plain)
    (λ n. Plain) (λ p. Plain) (open'.Int n)

pub form_str : (n : List ℕ) → form (Str n) ≡ Plain
unfolding form form_trailer
form_str n = ap form (sym (rolls-Str n)) ∙ fold-roll-Expr Form Form Form Form Form expr_form trailer_form (λ l. Plain)
    (λ n. Plain) (λ p. Plain) (open'.Str n)

pub form_group : (a : Expr) → form (Group a) ≡ many (form a ∷ [])
unfolding form form_trailer
form_group a = ap form (sym (rolls-Group a)) ∙ fold-roll-Expr Form Form Form Form Form expr_form trailer_form
    (λ l. Plain) (λ n. Plain) (λ p. Plain) (open'.Group a)

pub form_unit : form (Tuple []) ≡ Plain
unfolding form form_trailer
form_unit = ap form (sym (rolls-Tuple [])) ∙ fold-roll-Expr Form Form Form Form Form expr_form trailer_form
    (λ l. Plain) (λ n. Plain) (λ p. Plain) (open'.Tuple [])

pub form_tuple : (a : Expr) (es : List Expr) → form (Tuple (a ∷ es)) ≡ many (map form (a ∷ es))
unfolding form form_trailer
form_tuple a es = ap form (sym (rolls-Tuple (a ∷ es))) ∙ fold-roll-Expr Form Form Form Form Form expr_form trailer_form
    (λ l. Plain) (λ n. Plain) (λ p. Plain) (open'.Tuple (a ∷ es))

pub form_list : (es : List Expr) → form (ListOf es) ≡ many (map form es)
unfolding form form_trailer
form_list es = ap form (sym (rolls-List es)) ∙ fold-roll-Expr Form Form Form Form Form expr_form trailer_form
    (λ l. Plain) (λ n. Plain) (λ p. Plain) (open'.List es)

pub form_dict : (ps : List Pair) → form (Dict ps) ≡ Plain
unfolding form form_trailer
form_dict ps = ap form (sym (rolls-Dict ps)) ∙ fold-roll-Expr Form Form Form Form Form expr_form trailer_form
    (λ l. Plain) (λ n. Plain) (λ p. Plain) (open'.Dict ps)

pub form_trail : (a : Expr) (rs : List Trailer) → form (Trail a rs) ≡ last_form (map form_trailer rs)
unfolding form form_trailer
form_trail a rs = ap form (sym (rolls-Trail a rs)) ∙ fold-roll-Expr Form Form Form Form Form expr_form trailer_form
    (λ l. Plain) (λ n. Plain) (λ p. Plain) (open'.Trail a rs)

pub form_power : (a b : Expr) → form (Power a b) ≡ Plain
unfolding form form_trailer
form_power a b = ap form (sym (rolls-Power a b)) ∙ fold-roll-Expr Form Form Form Form Form expr_form trailer_form
    (λ l. Plain) (λ n. Plain) (λ p. Plain) (open'.Power a b)

pub form_unary : (g : Sign) (a : Expr) → form (Unary g a) ≡ Plain
unfolding form form_trailer
form_unary g a = ap form (sym (rolls-Unary g a)) ∙ fold-roll-Expr Form Form Form Form Form expr_form trailer_form
    (λ l. Plain) (λ n. Plain) (λ p. Plain) (open'.Unary g a)

pub form_chain : (l : Level) (a : Expr) (ls : List Link) → form (Chain l a ls) ≡ Plain
unfolding form form_trailer
form_chain l a ls = ap form (sym (rolls-Chain l a ls)) ∙ fold-roll-Expr Form Form Form Form Form expr_form trailer_form
    (λ l. Plain) (λ n. Plain) (λ p. Plain) (open'.Chain l a ls)

pub form_not : (a : Expr) → form (Not a) ≡ Plain
unfolding form form_trailer
form_not a = ap form (sym (rolls-Not a)) ∙ fold-roll-Expr Form Form Form Form Form expr_form trailer_form (λ l. Plain)
    (λ n. Plain) (λ p. Plain) (open'.Not a)

pub form_choice : (a b d : Expr) → form (Choice a b d) ≡ Plain
unfolding form form_trailer
form_choice a b d = ap form (sym (rolls-Choice a b d)) ∙ fold-roll-Expr Form Form Form Form Form expr_form trailer_form
    (λ l. Plain) (λ n. Plain) (λ p. Plain) (open'.Choice a b d)

pub form_attribute : (n : List ℕ) → form_trailer (t.Attribute n) ≡ Part
unfolding form_trailer
form_attribute n = ap form_trailer (sym (t.rolls-Attribute n)) ∙
    fold-roll-Trailer Form Form Form Form Form expr_form trailer_form (λ l. Plain) (λ n. Plain) (λ p. Plain)
    (open'.Attribute n)

pub form_index : (a : Expr) → form_trailer (t.Index a) ≡ Part
unfolding form_trailer
form_index a = ap form_trailer (sym (t.rolls-Index a)) ∙
    fold-roll-Trailer Form Form Form Form Form expr_form trailer_form (λ l. Plain) (λ n. Plain) (λ p. Plain)
    (open'.Index a)

pub form_slice : (a b : Option Expr) → form_trailer (t.Slice a b) ≡ Cut
unfolding form_trailer
form_slice a b = ap form_trailer (sym (t.rolls-Slice a b)) ∙
    fold-roll-Trailer Form Form Form Form Form expr_form trailer_form (λ l. Plain) (λ n. Plain) (λ p. Plain)
    (open'.Slice a b)

pub form_call : (es : List Expr) (ns : List Named) → form_trailer (t.Call es ns) ≡ Plain
unfolding form_trailer
form_call es ns = ap form_trailer (sym (t.rolls-Call es ns)) ∙
    fold-roll-Trailer Form Form Form Form Form expr_form trailer_form (λ l. Plain) (λ n. Plain) (λ p. Plain)
    (open'.Call es ns)
