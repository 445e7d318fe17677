-- Operands of which one holds nothing.
use Rattle.std.proofs.Common.{◌≡◌, Bool, true, false, ◌||◌, List, ◌++◌, sym, ap, ◌∙◌}
use Rattle.std.proofs.lemmas.List.Folds.{list_any-append}
use Rattle.py_data.specs.declared.value.Value.{Value}
use Rattle.py_frames.specs.Steps.{is_unset, has_unset}

pub with_first : (xs ys : List Value) → has_unset xs ≡ true → true ≡ has_unset (xs ++ ys)
with_first xs ys e = sym (list_any-append is_unset xs ys ∙ ap (λ b. b || has_unset ys) e)

pub with_rest : (xs ys : List Value) → has_unset xs ≡ false → has_unset ys ≡ has_unset (xs ++ ys)
with_rest xs ys e = sym (list_any-append is_unset xs ys ∙ ap (λ b. b || has_unset ys) e)
