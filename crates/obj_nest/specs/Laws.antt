-- What the operations on nested values answer, as laws. States `docs/HEAP.md`, "Equality and order", "Truth" and
-- "Texts".
use Rattle.std.specs.Prelude.{◌≡◌, ◌↔◌, ◌⊎◌, ℕ, ℤ, Bool, true, Some}
use Rattle.std.specs.declared.cmp.Ordering.{Ordering}
use Rattle.std.specs.declared.cmp.Ordering.TheVariants.{Less, Equal}
use Rattle.std.specs.Ordering.{ordering_reverse}
use Rattle.py_data.specs.declared.value.Value.{Value}
use Rattle.py_base.specs.declared.kind.Kind.TheVariants.{Str}
use Rattle.py_data.specs.declared.record.Got.TheVariants.{Is, Raise}
use Rattle.py_data.specs.Fault.{depth_fault}
use Rattle.py_data.specs.Heap.{Heap}
use Rattle.py_data.specs.Shape.{RefTo}
use Rattle.py_data.specs.Closed.{IsItem}
use Rattle.py_data.specs.Comparing.{equal, order, number_of}
use Rattle.py_data.specs.Truth.{truth}
use Rattle.py_data.specs.Order.{Rules, IsOrdered}
use Rattle.py_data.specs.Looking.{Looks}
use Rattle.py_data.specs.Steady.{Calm}
use Rattle.obj_nest.specs.Equal.{equal_row}
use Rattle.obj_nest.specs.Ordering.{order_row}
use Rattle.obj_nest.specs.Truth.{truth_row}
use Rattle.obj_nest.specs.Text.{text_within, text_row}

-- over each heap in order the rows may be begun with any items, only look, and answer what the definitions say
pub record NestLooks (S : Type 0) (rules : Rules) : Type 0 where
  pub equal : (h : Heap) (x y : Value) → IsOrdered rules h → IsItem h x → IsItem h y →
      Looks {S = S} (λ z. z ≡ equal h x y) (equal_row x y) h
  pub order : (h : Heap) (x y : Value) → IsOrdered rules h → IsItem h x → IsItem h y →
      Looks {S = S} (λ z. z ≡ order h x y) (order_row x y) h
  pub truth : (h : Heap) (x : Value) → IsOrdered rules h → IsItem h x →
      Looks {S = S} (λ z. z ≡ truth h x) (truth_row x) h
  pub text : (h : Heap) (d : ℕ) (x : Value) (quoted : Bool) → IsOrdered rules h → IsItem h x →
      Looks {S = S} (λ z. z ≡ text_within h d x quoted) (text_row d x quoted) h

-- the rows make nothing shorter
pub record NestCalm (S : Type 0) : Type 0 where
  pub equal : (x y : Value) → Calm {S = S} (equal_row x y)
  pub order : (x y : Value) → Calm {S = S} (order_row x y)
  pub truth : (x : Value) → Calm {S = S} (truth_row x)
  pub text : (d : ℕ) (x : Value) (quoted : Bool) → Calm {S = S} (text_row d x quoted)

-- ---- equality is an equivalence

-- over the items of a heap in order; a value is equal to itself unless it is nested too deep
pub record EqualLaw (rules : Rules) : Type 0 where
  pub same : (h : Heap) (x : Value) → IsOrdered rules h → IsItem h x →
      equal h x x ≡ Is true ⊎ equal h x x ≡ Raise depth_fault
  pub turned : (h : Heap) (x y : Value) → IsOrdered rules h → IsItem h x → IsItem h y → equal h x y ≡ Is true →
      equal h y x ≡ Is true
  pub joined : (h : Heap) (x y z : Value) → IsOrdered rules h → IsItem h x → IsItem h y → IsItem h z →
      equal h x y ≡ Is true → equal h y z ≡ Is true → equal h x z ≡ Is true

-- ---- order is total on numbers and on strings

-- a value is a number, a truth value included
abbrev pub IsNumber : Heap → Value → Type 0
IsNumber h x = (i : ℤ) × (number_of x ≡ Some i)

-- a value is a string
abbrev pub IsString : Heap → Value → Type 0
IsString h x = RefTo h Str x

-- On such values: of two, one comes first, or they are equal, and then `==` says so too; turned round the order is the
-- opposite; and what comes before a value comes before all that come behind it.
pub record TotalLaw (has : Heap → Value → Type 0) : Type 0 where
  pub one : (h : Heap) (x y : Value) → has h x → has h y → (o : Ordering) × (order h x y ≡ Is o)
  pub equal : (h : Heap) (x y : Value) → has h x → has h y → (order h x y ≡ Is Equal) ↔ (equal h x y ≡ Is true)
  pub turned : (h : Heap) (x y : Value) (o : Ordering) → has h x → has h y → order h x y ≡ Is o →
      order h y x ≡ Is (ordering_reverse o)
  pub joined : (h : Heap) (x y z : Value) → has h x → has h y → has h z → order h x y ≡ Is Less → order h y z ≡ Is Less
      → order h x z ≡ Is Less
