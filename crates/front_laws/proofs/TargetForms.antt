-- What the attribute `form` takes as a target is one, and the other way round.
use Rattle.std.proofs.Common.{◌≡◌, Bool, true, false, List, [], ◌∷◌, map, Option, Some, None, refl, sym, ap, ◌∙◌, subst}
use Rattle.std.proofs.lemmas.Bool.{and_parts, and_from}
use Rattle.py_tree.specs.declared.expr.Expr.{Expr, roll-Expr}
use Rattle.py_tree.specs.declared.expr.Trailer.{Trailer, roll-Trailer}
use Rattle.py_tree.specs.declared.expr.Link.{Link}
use Rattle.py_tree.specs.declared.expr.Named.{Named}
use Rattle.py_tree.specs.declared.expr.Pair.{Pair}
use Rattle.py_tree.specs.declared.expr.Expr.TheVariants as e
use Rattle.py_tree.specs.declared.expr.Trailer.TheVariants as t
use Rattle.py_tree.specs.declared.expr.Expr.TheOpen as open'
use Rattle.py_tree.specs.declared.expr.Expr.TheFolds.{ind-Expr, map-Expr, map-Trailer}
use Rattle.py_tree.specs.declared.form.Form.{Form}
use Rattle.py_tree.specs.declared.form.Form.TheVariants.{Plain}
use Rattle.py_tree.specs.Form.{is_target, all_targets, many, last_form, form, form_trailer}
use Rattle.py_tree.proofs.Forms as forms
use Rattle.front_laws.specs.Targets.{LastOf, IsTarget, AreTargets}
use Rattle.front_laws.proofs.Tables.{never}

many_targets : (slices : Bool) (fs : List Form) → is_target slices (many fs) ≡ all_targets slices fs
many_targets true fs = refl
many_targets false fs = refl

-- ---- from the relation to the attribute

last_later : (q : Trailer) {rs : List Trailer} {r : Trailer} → LastOf rs r →
    last_form (map form_trailer (q ∷ rs)) ≡ last_form (map form_trailer rs)
last_later q (LastOf.last r) = refl
last_later q (LastOf.later p l) = refl

last_is : {rs : List Trailer} {r : Trailer} → LastOf rs r → last_form (map form_trailer rs) ≡ form_trailer r
last_is (LastOf.last r) = refl
last_is (LastOf.later q l) = last_later q l ∙ last_is l

mutual
  one_only : {slices : Bool} {a : Expr} → IsTarget slices a → is_target slices (form a) ≡ true
  one_only (IsTarget.name slices n) = ap (is_target slices) (forms.form_name n)
  one_only (IsTarget.attribute slices a {rs = rs} n l) =
      ap (is_target slices) (forms.form_trail a rs ∙ last_is l ∙ forms.form_attribute n)
  one_only (IsTarget.subscript slices a {rs = rs} i l) =
      ap (is_target slices) (forms.form_trail a rs ∙ last_is l ∙ forms.form_index i)
  one_only (IsTarget.slice a {rs = rs} low high l) =
      ap (is_target true) (forms.form_trail a rs ∙ last_is l ∙ forms.form_slice low high)
  one_only (IsTarget.group {slices = slices} {a = a} h) =
      ap (is_target slices) (forms.form_group a) ∙ many_targets slices (form a ∷ []) ∙
      and_from (is_target slices (form a)) true (one_only h) refl
  one_only (IsTarget.list {slices = slices} {es = es} h) =
      ap (is_target slices) (forms.form_list es) ∙ many_targets slices (map form es) ∙ all_only h
  one_only (IsTarget.tuple {slices = slices} {a = a} {es = es} h) =
      ap (is_target slices) (forms.form_tuple a es) ∙ many_targets slices (map form (a ∷ es)) ∙ all_only h

  all_only : {slices : Bool} {es : List Expr} → AreTargets slices es → all_targets slices (map form es) ≡ true
  all_only (AreTargets.none slices) = refl
  all_only (AreTargets.more {slices = slices} {a = a} {es = es} h k) =
      and_from (is_target slices (form a)) (all_targets slices (map form es)) (one_only h) (all_only k)

pub only_target : (slices : Bool) (a : Expr) → IsTarget slices a → is_target slices (form a) ≡ true
only_target slices a h = one_only h

-- ---- from the attribute to the relation

abbrev Found : Expr → Type 0
Found a = (slices : Bool) → is_target slices (form a) ≡ true → IsTarget slices a

-- an atom is a target if this is its last trailer
abbrev Ends : Trailer → Type 0
Ends r = (slices : Bool) → is_target slices (form_trailer r) ≡ true → (a : Expr) (rs : List Trailer) → LastOf rs r →
    IsTarget slices (e.Trail a rs)

abbrev Every : {A : Type 0} → (A → Type 0) → List A → Type 0
Every P [] = Unit {0}
Every P (x ∷ xs) = P x × Every P xs

every : {A : Type 0} (P : A → Type 0) (ys : List ((x : A) × P x)) → Every P (map (λ y. y.0) ys)
every P [] = tt
every P (y ∷ ys) = (y.1, every P ys)

-- what is plain is no target
plain : {A : Type 0} (slices : Bool) (f : Form) → f ≡ Plain → is_target slices f ≡ true → A
plain slices f q h = never (is_target slices f) (ap (is_target slices) q) h

all_found : (slices : Bool) (es : List Expr) → Every Found es → all_targets slices (map form es) ≡ true →
    AreTargets slices es
all_found slices [] fs h = AreTargets.none slices
all_found slices (a ∷ es) fs h =
    let p = and_parts (is_target slices (form a)) (all_targets slices (map form es)) h in
    AreTargets.more (fs.0 slices p.0) (all_found slices es fs.1 p.1)

group_found : (a : Expr) → Found a → Found (e.Group a)
group_found a f slices h =
    let p = sym (many_targets slices (form a ∷ [])) ∙ ap (is_target slices) (sym (forms.form_group a)) ∙ h in
    IsTarget.group (f slices (and_parts (is_target slices (form a)) true p).0)

list_found : (es : List Expr) → Every Found es → Found (e.List es)
list_found es fs slices h =
    let p = sym (many_targets slices (map form es)) ∙ ap (is_target slices) (sym (forms.form_list es)) ∙ h in
    IsTarget.list (all_found slices es fs p)

tuple_found : (es : List Expr) → Every Found es → Found (e.Tuple es)
tuple_found [] fs slices h = plain slices (form (e.Tuple [])) forms.form_unit h
tuple_found (a ∷ es) fs slices h =
    let p = sym (many_targets slices (map form (a ∷ es))) ∙ ap (is_target slices) (sym (forms.form_tuple a es)) ∙ h in
    IsTarget.tuple (all_found slices (a ∷ es) fs p)

-- the last of these trailers is the last of all
last_found : (slices : Bool) (a : Expr) (all rs : List Trailer) → Every Ends rs →
    ((r : Trailer) → LastOf rs r → LastOf all r) →
    is_target slices (last_form (map form_trailer rs)) ≡ true → IsTarget slices (e.Trail a all)
last_found slices a all [] fs g h = plain slices Plain refl h
last_found slices a all (r ∷ []) fs g h = fs.0 slices h a all (g r (LastOf.last r))
last_found slices a all (q ∷ r ∷ rs) fs g h = last_found slices a all (r ∷ rs) fs.1 (λ p l. g p (LastOf.later q l)) h

trail_found : (a : Expr) (rs : List Trailer) → Every Ends rs → Found (e.Trail a rs)
trail_found a rs fs slices h = last_found slices a rs rs fs (λ r l. l)
    (ap (is_target slices) (sym (forms.form_trail a rs)) ∙ h)

slice_ends : (low high : Option Expr) → Ends (t.Slice low high)
slice_ends low high true h a rs l = IsTarget.slice a low high l
slice_ends low high false h a rs l = never false refl (ap (is_target false) (sym (forms.form_slice low high)) ∙ h)

-- ---- induction over expressions

abbrev OfExpr : Type 0
OfExpr = (x : Expr) × Found x

abbrev OfTrailer : Type 0
OfTrailer = (x : Trailer) × Ends x

-- of the other parts nothing need hold
abbrev OfLink : Type 0
OfLink = Link × Unit {0}

abbrev OfNamed : Type 0
OfNamed = Named × Unit {0}

abbrev OfPair : Type 0
OfPair = Pair × Unit {0}

of_expr : (y : open'.Expr-F OfExpr OfTrailer OfLink OfNamed OfPair) →
    Found (roll-Expr (map-Expr OfExpr OfTrailer OfLink OfNamed OfPair Expr Trailer Link Named Pair
    (λ y. y.0) (λ y. y.0) (λ y. y.0) (λ y. y.0) (λ y. y.0) y))
of_expr (open'.Name n) = subst Found (sym (e.rolls-Name n)) (λ slices h. IsTarget.name slices n)
of_expr (open'.Int n) = subst Found (sym (e.rolls-Int n)) (λ slices h. plain slices _ (forms.form_int n) h)
of_expr (open'.Str n) = subst Found (sym (e.rolls-Str n)) (λ slices h. plain slices _ (forms.form_str n) h)
of_expr (open'.Group a) = subst Found (sym (e.rolls-Group a.0)) (group_found a.0 a.1)
of_expr (open'.Tuple ys) = subst Found (sym (e.rolls-Tuple (map (λ y. y.0) ys)))
    (tuple_found (map (λ y. y.0) ys) (every Found ys))
of_expr (open'.List ys) = subst Found (sym (e.rolls-List (map (λ y. y.0) ys)))
    (list_found (map (λ y. y.0) ys) (every Found ys))
of_expr (open'.Dict ys) =
    subst Found (sym (e.rolls-Dict (map (λ y. y.0) ys))) (λ slices h. plain slices _ (forms.form_dict _) h)
of_expr (open'.Trail a ys) =
    subst Found (sym (e.rolls-Trail a.0 (map (λ y. y.0) ys))) (trail_found a.0 (map (λ y. y.0) ys) (every Ends ys))
of_expr (open'.Power a b) = subst Found (sym (e.rolls-Power a.0 b.0))
    (λ slices h. plain slices _ (forms.form_power a.0 b.0) h)
of_expr (open'.Unary g a) = subst Found (sym (e.rolls-Unary g a.0))
    (λ slices h. plain slices _ (forms.form_unary g a.0) h)
of_expr (open'.Chain l a ys) =
    subst Found (sym (e.rolls-Chain l a.0 (map (λ y. y.0) ys)))
    (λ slices h. plain slices _ (forms.form_chain l a.0 _) h)
of_expr (open'.Not a) = subst Found (sym (e.rolls-Not a.0)) (λ slices h. plain slices _ (forms.form_not a.0) h)
of_expr (open'.Choice a b d) =
    subst Found (sym (e.rolls-Choice a.0 b.0 d.0)) (λ slices h. plain slices _ (forms.form_choice a.0 b.0 d.0) h)

of_trailer : (y : open'.Trailer-F OfExpr OfTrailer OfLink OfNamed OfPair) →
    Ends (roll-Trailer (map-Trailer OfExpr OfTrailer OfLink OfNamed OfPair Expr Trailer Link Named Pair
    (λ y. y.0) (λ y. y.0) (λ y. y.0) (λ y. y.0) (λ y. y.0) y))
of_trailer (open'.Attribute n) = subst Ends (sym (t.rolls-Attribute n))
    (λ slices h a rs l. IsTarget.attribute slices a n l)
of_trailer (open'.Index i) = subst Ends (sym (t.rolls-Index i.0)) (λ slices h a rs l. IsTarget.subscript slices a i.0 l)
of_trailer (open'.Slice None None) = subst Ends (sym (t.rolls-Slice None None)) (slice_ends None None)
of_trailer (open'.Slice None (Some b)) = subst Ends (sym (t.rolls-Slice None (Some b.0))) (slice_ends None (Some b.0))
of_trailer (open'.Slice (Some a) None) = subst Ends (sym (t.rolls-Slice (Some a.0) None)) (slice_ends (Some a.0) None)
of_trailer (open'.Slice (Some a) (Some b)) = subst Ends (sym (t.rolls-Slice (Some a.0) (Some b.0)))
    (slice_ends (Some a.0) (Some b.0))
of_trailer (open'.Call ys zs) =
    subst Ends (sym (t.rolls-Call (map (λ y. y.0) ys) (map (λ z. z.0) zs)))
    (λ slices h a rs l. plain slices _ (forms.form_call _ _) h)

found : (a : Expr) → Found a
found = ind-Expr Found Ends (λ l. Unit {0}) (λ n. Unit {0}) (λ p. Unit {0})
    (λ x y is. subst (λ z. Found (roll-Expr z)) is (of_expr y))
    (λ x y is. subst (λ z. Ends (roll-Trailer z)) is (of_trailer y))
    (λ x y is. tt)
    (λ x y is. tt)
    (λ x y is. tt)

pub target_of : (slices : Bool) (a : Expr) → is_target slices (form a) ≡ true → IsTarget slices a
target_of slices a h = found a slices h
