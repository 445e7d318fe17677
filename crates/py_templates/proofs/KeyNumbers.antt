-- The number of a keyword list is the place where it is found, and 0 where it isn't there.
use Rattle.std.proofs.Common.{◌≡◌, ◌∙◌, ◌||◌, ℕ, suc, ◌+◌, List, [], ◌∷◌, Option, Some, None, Bool, true, false, cond, not, nat_lt, refl, sym, ap, arith, length, unwrap_or}
use Rattle.std.specs.Prelude.{if◌then◌else◌, position}
use Rattle.std.specs.List.{list_any, position_or_len}
use Rattle.py_tree.specs.declared.expr.Named.{Named}
use Rattle.py_templates.specs.Expressions.{key_names}
use Rattle.py_templates.specs.Names.{same_names, list_number}
use Rattle.py_templates.proofs.Homes.{any_place}

number_from : (i : ℕ) (ks : List (List ℕ)) (kss : List (List (List ℕ))) →
    list_number i ks kss ≡ (if list_any (same_names ks) kss then i + position_or_len (same_names ks) kss else 0)
number_from i ks [] = refl
number_from i ks (x ∷ xs) = by_test (same_names ks x) (list_any (same_names ks) xs)
    (position_or_len (same_names ks) xs) (number_from (i + 1) ks xs)
  where
    by_test : (b more : Bool) (p : ℕ) → list_number (i + 1) ks xs ≡ (if more then i + 1 + p else 0) →
        (if b then i else list_number (i + 1) ks xs) ≡ (if b || more then i + cond (not b) (1 + p) 0 else 0)
    by_test true more p e = omega arith
    by_test false true p e = e ∙ omega arith
    by_test false false p e = e

pub number_is : (ks : List (List ℕ)) (kss : List (List (List ℕ))) (o : Option ℕ) → o ≡ position (same_names ks) kss →
    unwrap_or o 0 ≡ list_number 0 ks kss
number_is ks kss o e =
    let p = position_or_len (same_names ks) kss in
    ap (λ z. unwrap_or z 0) e ∙ found (nat_lt p (length kss)) p ∙
    ap (λ b. if b then 0 + p else 0) (sym (any_place (same_names ks) kss)) ∙ sym (number_from 0 ks kss)
  where
    found : (b : Bool) (p : ℕ) → unwrap_or (cond b (Some p) None) 0 ≡ (if b then 0 + p else 0)
    found true p = omega arith
    found false p = refl

-- a call has as many names as keyword arguments
pub length_key_names : (named : List Named) → length (key_names named) ≡ length named
length_key_names [] = refl
length_key_names (k ∷ ks) = ap (λ n. suc n) (length_key_names ks)
