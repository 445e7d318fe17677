-- The values that reading builds, and the steps that build them.
use Rattle.std.proofs.Common.{◌≡◌, ℕ, ℤ, max, Bool, true, false, ◌&&◌, List, [], ◌∷◌, ◌++◌, Option, Some, None, refl, sym, ap, ◌∙◌, append_assoc, arith}
use Rattle.py_tree.specs.declared.expr.Expr.{Expr}
use Rattle.py_tree.specs.declared.expr.Level.{Level}
use Rattle.py_tree.specs.declared.expr.Operator.{Operator}
use Rattle.py_tree.specs.Form.{form}
use Rattle.py_grammar.specs.declared.tall.Tall.{Tall}
use Rattle.py_grammar.specs.inner.Tall.{plain, push, none, start, joined, push_link, push_pair, push_named, push_trailer, of_name, of_int, of_string, of_group, unit, of_tuple, of_list, of_dict, of_trail, of_power, of_sign, of_chain, of_not, of_choice, of_attribute, of_index, of_slice, of_call}
use Rattle.py_tree.specs.Height.{tops, tops_links, tops_pairs, tops_named, tops_trailers, height_trailer}
use Rattle.py_tree.specs.Form.{form_trailer, all_targets, is_target, last_form}
use Rattle.py_tree.proofs.Heights as h
use Rattle.py_tree.proofs.Forms as f
use Rattle.py_tree.specs.declared.form.Form.{Form}
use Rattle.py_tree.specs.declared.form.Form.TheVariants.{Many, Plain}
use Rattle.py_tree.specs.declared.expr.Expr.TheVariants as e
use Rattle.py_tree.specs.declared.expr.Link.{Link}
use Rattle.py_tree.specs.declared.expr.Pair.{Pair}
use Rattle.py_tree.specs.declared.expr.Named.{Named}
use Rattle.py_tree.specs.declared.expr.Trailer.{Trailer}
use Rattle.py_tree.specs.declared.expr.Trailer.TheVariants as t
use Rattle.py_tree.specs.declared.expr.Sign.{Sign}
use Rattle.std.proofs.Common.{map}
use Rattle.py_grammar.proofs.Steps.{of}

abbrev pub mk : {A : Type 0} → A → ℕ → Form → Tall A
mk a n f = record { tree = a; tall = n; form = f }

pub same : {A : Type 0} {a b : A} {n m : ℕ} {f g : Form} → a ≡ b → n ≡ m → f ≡ g → mk a n f ≡ mk b m g
same {a = a} {b = b} {n = n} {m = m} {f = f} {g = g} p q r = ap (λ z. mk z n f) p ∙ ap (λ z. mk b z f) q ∙
    ap (λ z. mk b m z) r

-- ---- lists of parts after those that were found

abbrev pub all_joined : Form → List Expr → Form
all_joined f [] = f
all_joined f (a ∷ es) = all_joined (joined f (form a)) es

abbrev pub plus_tests : Tall (List Expr) → List Expr → Tall (List Expr)
plus_tests r es = mk (r.tree ++ es) (max r.tall (tops es)) (all_joined r.form es)

pub push_tests : (r : Tall (List Expr)) (a : Expr) (es : List Expr) →
    plus_tests (push r (of a)) es ≡ plus_tests r (a ∷ es)
push_tests r a es = same (append_assoc r.tree (a ∷ []) es) (omega arith) refl

abbrev pub plus_links : Tall (List Link) → List Link → Tall (List Link)
plus_links r ls = mk (r.tree ++ ls) (max r.tall (tops_links ls)) Plain

pub push_links : (r : Tall (List Link)) (o : Operator) (a : Expr) (ls : List Link) →
    plus_links (push_link r o (of a)) ls ≡ plus_links r (record { operator = o; operand = a } ∷ ls)
push_links r o a ls = same (append_assoc r.tree (record { operator = o; operand = a } ∷ []) ls) (omega arith) refl

abbrev pub plus_pairs : Tall (List Pair) → List Pair → Tall (List Pair)
plus_pairs r ps = mk (r.tree ++ ps) (max r.tall (tops_pairs ps)) Plain

pub push_pairs : (r : Tall (List Pair)) (a b : Expr) (ps : List Pair) →
    plus_pairs (push_pair r (of a) (of b)) ps ≡ plus_pairs r (record { key = a; value = b } ∷ ps)
push_pairs r a b ps = same (append_assoc r.tree (record { key = a; value = b } ∷ []) ps) (omega arith) refl

abbrev pub plus_named : Tall (List Named) → List Named → Tall (List Named)
plus_named r ns = mk (r.tree ++ ns) (max r.tall (tops_named ns)) Plain

pub push_nameds : (r : Tall (List Named)) (n : List ℕ) (a : Expr) (ns : List Named) →
    plus_named (push_named r n (of a)) ns ≡ plus_named r (record { name = n; value = a } ∷ ns)
push_nameds r n a ns = same (append_assoc r.tree (record { name = n; value = a } ∷ []) ns) (omega arith) refl

abbrev pub of_r : Trailer → Tall Trailer
of_r r = mk r (height_trailer r) (form_trailer r)

-- the form of the last trailer, or of what was before
abbrev pub last_of : Form → List Trailer → Form
last_of f [] = f
last_of f (r ∷ rs) = last_of (form_trailer r) rs

abbrev pub plus_trailers : Tall (List Trailer) → List Trailer → Tall (List Trailer)
plus_trailers w rs = mk (w.tree ++ rs) (max w.tall (tops_trailers rs)) (last_of w.form rs)

pub push_trailers : (w : Tall (List Trailer)) (r : Trailer) (rs : List Trailer) →
    plus_trailers (push_trailer w (of_r r)) rs ≡ plus_trailers w (r ∷ rs)
push_trailers w r rs = same (append_assoc w.tree (r ∷ []) rs) (omega arith) refl

-- ---- forms of lists

and_assoc : (a b d : Bool) → ((a && b) && d) ≡ (a && (b && d))
and_assoc true b d = refl
and_assoc false b d = refl

and_true : (a : Bool) → (a && true) ≡ a
and_true true = refl
and_true false = refl

many_eq : {a b a' b' : Bool} → a ≡ a' → b ≡ b' → Many a b ≡ Many a' b'
many_eq {a = a} {b = b} {a' = a'} {b' = b'} p q = ap (λ z. Many z b) p ∙ ap (λ z. Many a' z) q

all_many : (s w : Bool) (es : List Expr) → all_joined (Many s w) es ≡ Many (s && all_targets false (map form es))
    (w && all_targets true (map form es))
all_many s w [] = many_eq (sym (and_true s)) (sym (and_true w))
all_many s w (a ∷ es) = all_many (s && is_target false (form a)) (w && is_target true (form a)) es ∙
    many_eq (and_assoc s _ _) (and_assoc w _ _)

last_last : (f : Form) (r : Trailer) (rs : List Trailer) → last_of f (r ∷ rs) ≡ last_form (map form_trailer (r ∷ rs))
last_last f r [] = refl
last_last f r (q ∷ rs) = last_last (form_trailer r) q rs

-- ---- trees

pub as_name : (n : List ℕ) → of_name n ≡ of (e.Name n)
as_name n = same refl (sym (h.height_name n)) (sym (f.form_name n))

pub as_int : (n : ℤ) → of_int n ≡ of (e.Int n)
as_int n = same refl (sym (h.height_int n)) (sym (f.form_int n))

pub as_string : (n : List ℕ) → of_string n ≡ of (e.Str n)
as_string n = same refl (sym (h.height_str n)) (sym (f.form_str n))

pub as_group : (a : Expr) → of_group (of a) ≡ of (e.Group a)
as_group a = same refl (sym (h.height_group a)) (many_eq (sym (and_true _)) (sym (and_true _)) ∙ sym (f.form_group a))

pub as_unit : unit ≡ of (e.Tuple [])
as_unit = same refl (sym (h.height_tuple [])) (sym f.form_unit)

pub as_tuple : (a : Expr) (es : List Expr) → of_tuple (plus_tests (start (of a)) es) ≡ of (e.Tuple (a ∷ es))
as_tuple a es = same refl (omega (arith, h.height_tuple (a ∷ es))) (all_many _ _ es ∙ sym (f.form_tuple a es))

pub as_no_list : of_list none ≡ of (e.List [])
as_no_list = same refl (sym (h.height_list [])) (sym (f.form_list []))

pub as_list : (a : Expr) (es : List Expr) → of_list (plus_tests (start (of a)) es) ≡ of (e.List (a ∷ es))
as_list a es = same refl (omega (arith, h.height_list (a ∷ es))) (all_many _ _ es ∙ sym (f.form_list (a ∷ es)))

pub as_dict : (ps : List Pair) → of_dict (plus_pairs (plain [] 0) ps) ≡ of (e.Dict ps)
as_dict ps = same refl (omega (arith, h.height_dict ps)) (sym (f.form_dict ps))

pub as_trail : (a : Expr) (r : Trailer) (rs : List Trailer) → of_trail (of a) (plus_trailers (plain [] 0) (r ∷ rs)) ≡
    of (e.Trail a (r ∷ rs))
as_trail a r rs = same refl (omega (arith, h.height_trail a (r ∷ rs)))
    (last_last Plain r rs ∙ sym (f.form_trail a (r ∷ rs)))

pub as_power : (a b : Expr) → of_power (of a) (of b) ≡ of (e.Power a b)
as_power a b = same refl (sym (h.height_power a b)) (sym (f.form_power a b))

pub as_sign : (s : Sign) (a : Expr) → of_sign s (of a) ≡ of (e.Unary s a)
as_sign s a = same refl (sym (h.height_unary s a)) (sym (f.form_unary s a))

pub as_chain : (l : Level) (a : Expr) (ls : List Link) →
    of_chain l (of a) (plus_links (plain [] 0) ls) ≡ of (e.Chain l a ls)
as_chain l a ls = same refl (omega (arith, h.height_chain l a ls)) (sym (f.form_chain l a ls))

pub as_not : (a : Expr) → of_not (of a) ≡ of (e.Not a)
as_not a = same refl (sym (h.height_not a)) (sym (f.form_not a))

pub as_choice : (a b d : Expr) → of_choice (of a) (of b) (of d) ≡ of (e.Choice a b d)
as_choice a b d = same refl (sym (h.height_choice a b d)) (sym (f.form_choice a b d))

pub as_attribute : (n : List ℕ) → of_attribute n ≡ of_r (t.Attribute n)
as_attribute n = same refl (sym (h.height_attribute n)) (sym (f.form_attribute n))

pub as_index : (a : Expr) → of_index (of a) ≡ of_r (t.Index a)
as_index a = same refl (sym (h.height_index a)) (sym (f.form_index a))

abbrev pub of_or : Option Expr → Option (Tall Expr)
of_or None = None
of_or (Some a) = Some (of a)

pub as_slice : (a b : Option Expr) → of_slice (of_or a) (of_or b) ≡ of_r (t.Slice a b)
as_slice None None = same refl (omega (arith, h.height_slice None None)) (sym (f.form_slice None None))
as_slice None (Some b) = same refl (omega (arith, h.height_slice None (Some b))) (sym (f.form_slice None (Some b)))
as_slice (Some a) None = same refl (omega (arith, h.height_slice (Some a) None)) (sym (f.form_slice (Some a) None))
as_slice (Some a) (Some b) = same refl (omega (arith, h.height_slice (Some a) (Some b)))
    (sym (f.form_slice (Some a) (Some b)))

pub as_call : (es : List Expr) (ns : List Named) → of_call (plus_tests none es) (plus_named (plain [] 0) ns) ≡ of_r
    (t.Call es ns)
as_call es ns = same refl (omega (arith, h.height_call es ns)) (sym (f.form_call es ns))
