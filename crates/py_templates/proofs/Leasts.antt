-- The lesser of two lines, where there are any.
use Rattle.std.proofs.Common.{◌≡◌, ℕ, Option, Some, None, refl, ap, arith}
use Rattle.std.specs.Prelude.{min}
use Rattle.py_templates.specs.Whole.{least}

min_both : (a b c : ℕ) → min (min a b) c ≡ min a (min b c)
min_both a b c = omega arith

pub least_both : (a b c : Option ℕ) → least (least a b) c ≡ least a (least b c)
least_both None b c = refl
least_both (Some a) None c = refl
least_both (Some a) (Some b) None = refl
least_both (Some a) (Some b) (Some c) = ap Some (min_both a b c)

pub least_none : (a : Option ℕ) → least a None ≡ a
least_none None = refl
least_none (Some a) = refl

-- neither has a line
pub least_apart : (a b : Option ℕ) → least a b ≡ None → (a ≡ None) × (b ≡ None)
least_apart None b e = (refl, e)
least_apart (Some a) None e = cc
least_apart (Some a) (Some b) e = cc
