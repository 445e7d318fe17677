-- The rows of equality, order, truth and texts only look, may be begun over every heap in order, and answer what the
-- definitions say: with these four a proof above needs nothing else of these rows.
use Rattle.std.proofs.Common.{◌≡◌, ℕ, Bool, true, false}
use Rattle.py_data.specs.declared.value.Value.{Value}
use Rattle.py_data.specs.Heap.{Heap}
use Rattle.py_data.specs.Closed.{IsItem}
use Rattle.py_data.specs.Comparing.{DEPTH_LIMIT, equal, order}
use Rattle.py_data.specs.Truth.{truth}
use Rattle.py_data.specs.Order.{Rules, IsOrdered}
use Rattle.py_data.specs.Looking.{Looks}
use Rattle.obj_nest.specs.Equal.{equal_row}
use Rattle.obj_nest.specs.Ordering.{order_row}
use Rattle.obj_nest.specs.Truth.{truth_row}
use Rattle.obj_nest.specs.Text.{text_within, text_row}
use Rattle.obj_nest.specs.Laws.{NestLooks}
use Rattle.obj_nest.proofs.EqualLooks.{equal_at_looks}
use Rattle.obj_nest.proofs.OrderLooks.{order_at_looks}
use Rattle.obj_nest.proofs.TruthLooks.{truth_at_looks}
use Rattle.obj_nest.proofs.TextLooks.{repr_looks, alone_looks}

module _ (S : Type 0) (rules : Rules) (h : Heap) where
  pub equal_looks : (x y : Value) → IsOrdered rules h → IsItem h x → IsItem h y →
      Looks {S = S} (λ z. z ≡ equal h x y) (equal_row x y) h
  unfolding equal_row
  equal_looks x y ordered i j = equal_at_looks S rules h ordered DEPTH_LIMIT x y i.0 j.0

  pub order_looks : (x y : Value) → IsOrdered rules h → IsItem h x → IsItem h y →
      Looks {S = S} (λ z. z ≡ order h x y) (order_row x y) h
  unfolding order_row
  order_looks x y ordered i j = order_at_looks S rules h ordered DEPTH_LIMIT x y i.0 j.0

  pub truth_looks : (x : Value) → IsOrdered rules h → IsItem h x → Looks {S = S} (λ z. z ≡ truth h x) (truth_row x) h
  truth_looks x ordered i = truth_at_looks S rules h ordered x i.0

  pub text_looks : (d : ℕ) (x : Value) (quoted : Bool) → IsOrdered rules h → IsItem h x →
      Looks {S = S} (λ z. z ≡ text_within h d x quoted) (text_row d x quoted) h
  unfolding text_row
  text_looks d x true ordered i = repr_looks S rules h ordered d x i.0
  text_looks d x false ordered i = alone_looks S rules h ordered d x i.0

pub nest_looks : (S : Type 0) (rules : Rules) → NestLooks S rules
nest_looks S rules = record {
  equal = λ h x y. equal_looks S rules h x y;
  order = λ h x y. order_looks S rules h x y;
  truth = λ h x. truth_looks S rules h x;
  text = λ h d x quoted. text_looks S rules h d x quoted;
}
