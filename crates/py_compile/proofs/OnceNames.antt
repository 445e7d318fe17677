-- The scopes of a module name each local name once, so a set of them has them in their order.
use Rattle.std.proofs.Common.{◌≡◌, ◌∙◌, ◌||◌, ℕ, suc, ◌<◌, false, cond, List, [], ◌∷◌, ◌++◌, Option, Some, None, refl, sym, ap, subst, append_assoc}
use Rattle.std.specs.Prelude.{slice_get}
use Rattle.std.specs.List.{AllByRecursion, IsDistinct}
use Rattle.std.specs.Str.{bytes_eq}
use Rattle.std.proofs.lemmas.Cmp.{nat_list_eq_equiv}
use Rattle.std.proofs.lemmas.Option.{slice_get_within}
use Rattle.py_names.specs.declared.scope.Scope.{Scope}
use Rattle.py_names.specs.declared.event.Event.{Event}
use Rattle.py_base.specs.NameLists.{has, with_name}
use Rattle.py_names.specs.Scopes.{AreScopes, said_in, placed}
use Rattle.py_names.proofs.ScopeLemmas.{locals_once}
use Rattle.py_compile.specs.inner.Bodies.{NamedOnce}

-- ---- one more name

apart_there : (x y : List ℕ) (xs ys : List (List ℕ)) → AllByRecursion (λ z. bytes_eq x z ≡ false) (xs ++ y ∷ ys) →
    bytes_eq x y ≡ false
apart_there x y [] ys h = h.0
apart_there x y (z ∷ xs) ys h = apart_there x y xs ys h.1

is_new : (xs : List (List ℕ)) (y : List ℕ) (ys : List (List ℕ)) → IsDistinct bytes_eq (xs ++ y ∷ ys) → has y xs ≡ false
unfolding IsDistinct
is_new [] y ys d = refl
is_new (x ∷ xs) y ys d = ap (λ b. b || has y xs) (nat_list_eq_equiv.symm y x ∙ apart_there x y xs ys d.0) ∙
    is_new xs y ys d.1

pub one_more : (all set set' : List (List ℕ)) (x : List ℕ) (rest more : List (List ℕ)) → IsDistinct bytes_eq all →
    set ++ rest ≡ all → rest ≡ x ∷ more → set' ≡ with_name set x → set' ++ more ≡ all
one_more all set set' x rest more d e r w =
    let whole : set ++ x ∷ more ≡ all = ap (λ z. set ++ z) (sym r) ∙ e in
    let new : has x set ≡ false = is_new set x more (subst (IsDistinct bytes_eq) (sym whole) d) in
    ap (λ z. z ++ more) (w ∙ ap (λ b. cond b set (set ++ x ∷ [])) new) ∙ append_assoc set (x ∷ []) more ∙ whole

-- ---- the scopes of a module

named_once : (scopes : List Scope) → ((k : ℕ) (s : Scope) → slice_get scopes k ≡ Some s → IsDistinct bytes_eq s.locals)
    → NamedOnce scopes
unfolding NamedOnce
named_once [] h = tt
named_once (s ∷ more) h = (h 0 s refl, named_once more (λ k t e. h (suc k) t e))

pub scopes_once : (es : List Event) (scopes : List Scope) → AreScopes es scopes → NamedOnce scopes
scopes_once es scopes are = named_once scopes (λ k s e.
    let within = slice_get_within scopes k s e in
    let there = are.each k (subst (λ n. k < n) are.count within) in
    subst (λ o. at o) (sym there ∙ e) (locals_once (said_in k (placed [] 0 es))))
  where
    at : Option Scope → Type 0
    at None = Unit {0}
    at (Some s) = IsDistinct bytes_eq s.locals
