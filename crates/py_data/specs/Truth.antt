-- Which values are true. States `docs/HEAP.md`, "Truth".
use Rattle.std.specs.Prelude.{ℕ, pos, Bool, true, false, not, List, [], ◌∷◌, nat_lt}
use Rattle.std.specs.Ordering.{int_eq}
use Rattle.py_data.specs.declared.value.Value.{Value}
use Rattle.py_data.specs.declared.value.Value.TheVariants.{Unset, None as NoneValue, Bool as BoolValue, Int, Ref, Builtin}
use Rattle.py_base.specs.declared.kind.Kind.{Kind}
use Rattle.py_base.specs.declared.kind.Kind.TheVariants.{Str, Tuple, List as ListKind, Dict, Range}
use Rattle.py_data.specs.Heap.{Heap, at}
use Rattle.py_data.specs.Range.{range_length}

abbrev pub is_filled : {A : Type 0} → List A → Bool
is_filled [] = false
is_filled (x ∷ xs) = true

-- whether a range has an item
abbrev pub has_item : List Value → Bool
has_item (Int start ∷ Int stop ∷ Int step ∷ []) = nat_lt 0 (range_length start stop step)
has_item _ = false

-- a record of this kind is true unless it is empty; of kinds that can't be empty each is
abbrev pub truth_by : Kind → List Value → List ℕ → Bool
truth_by Str xs bs = is_filled bs
truth_by Tuple xs bs = is_filled xs
truth_by ListKind xs bs = is_filled xs
truth_by Dict xs bs = is_filled xs
truth_by Range xs bs = has_item xs
truth_by _ xs bs = true

abbrev pub truth : Heap → Value → Bool
truth h Unset = false
truth h NoneValue = false
truth h (BoolValue b) = b
truth h (Int i) = not (int_eq i (pos 0))
truth h (Builtin b) = true
truth h (Ref a) = truth_by (at h a.0).kind (at h a.0).values (at h a.0).bytes
