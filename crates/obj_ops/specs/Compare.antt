-- The row of COMPARE. States `docs/HEAP.md`, "Equality and order", and `docs/LANGUAGE.md`, "Operators on sequences".
use Rattle.std.specs.Prelude.{ℕ, ◌==◌, Bool, true, false, cond, not, if◌then◌else◌, codes}
use Rattle.std.specs.declared.cmp.Ordering.{Ordering}
use Rattle.std.specs.declared.cmp.Ordering.TheVariants.{Less as Below, Greater as Above}
use Rattle.py_base.specs.Numbers.{compare_number}
use Rattle.py_data.specs.declared.value.Value.{Value}
use Rattle.py_data.specs.declared.value.Value.TheVariants.{Bool as BoolValue}
use Rattle.py_data.specs.declared.record.Got.{Got}
use Rattle.py_data.specs.declared.record.Got.TheVariants.{Is}
use Rattle.py_data.specs.Comparing.{is_same}
use Rattle.py_data.specs.Texts.{got_then}
use Rattle.py_data.specs.Row.{Row, Ret, bind}
use Rattle.obj_nest.specs.Equal.{equal_row}
use Rattle.obj_nest.specs.Ordering.{order_row}
use Rattle.obj_ops.specs.declared.operator.Comparison.{Comparison}
use Rattle.obj_ops.specs.declared.operator.Comparison.TheVariants.{Less, Greater, Equal, GreaterEqual, LessEqual, NotEqual, In, NotIn, Is as Identical, IsNot}
use Rattle.obj_ops.specs.Contains.{contains_row}

-- which comparison a number names; one that names none counts as the last
abbrev pub comparison_of : ℕ → Comparison
comparison_of n =
    if n == compare_number (codes "<") then Less else
    if n == compare_number (codes ">") then Greater else
    if n == compare_number (codes "==") then Equal else
    if n == compare_number (codes ">=") then GreaterEqual else
    if n == compare_number (codes "<=") then LessEqual else
    if n == compare_number (codes "!=") then NotEqual else
    if n == compare_number (codes "in") then In else
    if n == compare_number (codes "not in") then NotIn else
    if n == compare_number (codes "is") then Identical else IsNot

-- ---- the test that a comparison makes; of two that are each other's opposite it is the same one

abbrev pub is_below : Ordering → Bool
is_below Below = true
is_below _ = false

abbrev pub is_above : Ordering → Bool
is_above Above = true
is_above _ = false

-- what an order says to `<`, `>`, `>=` and `<=`
abbrev pub suits : Comparison → Ordering → Bool
suits Less o = is_below o
suits Greater o = is_above o
suits GreaterEqual o = not (is_below o)
suits LessEqual o = not (is_above o)
suits _ o = false

abbrev pub suited : Comparison → Got Ordering → Got Bool
suited c g = got_then g (λ o. Is (suits c o))

unfoldable pub ordered_row : {S : Type 0} → Comparison → Value → Value → Row S (Got Bool)
ordered_row c x y = bind (order_row x y) (λ g. Ret (suited c g))

unfoldable pub test_row : {S : Type 0} → Comparison → Value → Value → Row S (Got Bool)
test_row Equal x y = equal_row x y
test_row NotEqual x y = equal_row x y
test_row In x y = contains_row x y
test_row NotIn x y = contains_row x y
test_row Identical x y = Ret (Is (is_same x y))
test_row IsNot x y = Ret (Is (is_same x y))
test_row c x y = ordered_row c x y

-- ---- the answer

abbrev pub is_negated : Comparison → Bool
is_negated NotEqual = true
is_negated NotIn = true
is_negated IsNot = true
is_negated _ = false

abbrev pub told : Bool → Got Bool → Got Value
told negated g = got_then g (λ b. Is (BoolValue (cond negated (not b) b)))

unfoldable pub compared_row : {S : Type 0} → Comparison → Value → Value → Row S (Got Value)
compared_row c x y = bind (test_row c x y) (λ g. Ret (told (is_negated c) g))

unfoldable pub compare_row : {S : Type 0} → ℕ → Value → Value → Row S (Got Value)
compare_row op x y = compared_row (comparison_of op) x y
