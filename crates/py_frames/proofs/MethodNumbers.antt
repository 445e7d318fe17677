-- What a kind has as a method is a builtin.
use Rattle.std.proofs.Common.{◌≡◌, ℕ, ◌<◌, Bool, true, false, ltb, ◌&&◌, List, [], ◌∷◌, Some, if◌then◌else◌, refl}
use Rattle.std.specs.Option.{IfSome}
use Rattle.std.specs.Str.{bytes_eq}
use Rattle.std.proofs.lemmas.Bool.{and_parts, ltb-true}
use Rattle.py_base.specs.declared.kind.Kind.{Kind}
use Rattle.py_base.specs.declared.kind.Kind.TheVariants.{Str, List as ListKind, Dict, Lock, Thread}
use Rattle.py_base.specs.Numbers.{builtin_count, number_beside}
use Rattle.obj_class.specs.Named.{method_of, methods_of}

abbrev all_below : List (ℕ × List ℕ) → Bool
all_below [] = true
all_below (e ∷ es) = ltb e.0 builtin_count && all_below es

number_below : (es : List (ℕ × List ℕ)) (name : List ℕ) → all_below es ≡ true →
    IfSome (number_beside es name) (λ b. b < builtin_count)
number_below [] name a = tt
number_below (e ∷ es) name a =
    let both = and_parts (ltb e.0 builtin_count) (all_below es) a in
    by (bytes_eq e.1 name) (ltb-true e.0 builtin_count both.0) (number_below es name both.1)
  where
    by : (b : Bool) → e.0 < builtin_count → IfSome (number_beside es name) (λ b. b < builtin_count) →
        IfSome (if b then Some e.0 else number_beside es name) (λ b. b < builtin_count)
    by true l more = l
    by false l more = more

methods_below : (k : Kind) → all_below (methods_of k) ≡ true
methods_below Str = refl
methods_below ListKind = refl
methods_below Dict = refl
methods_below Lock = refl
methods_below Thread = refl
methods_below _ = refl

pub method_below : (k : Kind) (name : List ℕ) → IfSome (method_of k name) (λ b. b < builtin_count)
method_below k name = number_below (methods_of k) name (methods_below k)
