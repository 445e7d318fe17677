-- Records that a step makes fit.
use Rattle.std.proofs.Common.{arith, ◌≡◌, ℕ, [], Some, None, refl, ap}
use Rattle.std.specs.Prelude.{is_some}
use Rattle.py_base.specs.declared.kind.Kind.TheVariants.{Dict, Cell, Function, Class}
use Rattle.py_data.specs.declared.value.Value.TheVariants.{Unset}
use Rattle.py_data.specs.Changes.{IsShort}
use Rattle.py_data.specs.Closed.{IsItem}
use Rattle.py_data.specs.Heap.{Heap, Rec, new_rec}
use Rattle.py_data.specs.Holds.{Holds}
use Rattle.py_data.specs.Order.{Rules, FitsAt, IsOrdered, Extends}
use Rattle.py_data.specs.Row.{Row, Do, Make}
use Rattle.py_data.specs.Sense.{Asks}
use Rattle.py_data.specs.Shape.{IsShaped}
use Rattle.py_data.proofs.Holding.{holds_do}
use Rattle.py_data.proofs.Making.{made_fits}
use Rattle.obj_class.specs.Bases.{ref}
use Rattle.obj_class.proofs.FaultHolds.{made_here}

-- an empty dictionary
pub empty_dict : (rules : Rules) (h : Heap) (a : ℕ) → FitsAt rules h a (new_rec Dict [] [])
empty_dict rules h a =
    made_fits rules h a Dict [] [] (λ e. let q : Dict ≡ Class = e in cc) (λ e. let q : Dict ≡ Function = e in cc)
    (λ e. let q : Dict ≡ Cell = e in cc) tt (tt, tt) refl (omega arith) (omega arith)

module _ {S A : Type 0} (rules : Rules) (stands : Heap → S → Type 0) (q : A → Heap → Type 0) where
  -- a record that has its shape and is short is made, where it fits at each free address
  pub holds_free : (r : Rec) (k : ℕ → Row S A) (h : Heap) → IsShaped h r → IsShort r →
      ((a : ℕ) → h a ≡ None → FitsAt rules h a r)
      → ((a : ℕ) (h1 : Heap) → h a ≡ None → IsOrdered rules h1 → Extends h h1 → h1 a ≡ Some r → IsItem h1 (ref a) →
      Holds rules stands q (k a) h1) → Holds rules stands q (Do (Make r) k) h
  unfolding Asks
  holds_free r k h shaped short fit n =
      holds_do rules stands q (Make r) k h (shaped, short.0, short.1) (λ a e. fit a e)
      (λ a h1 e order x. let here = made_here h h1 a r e.1 in
      n a h1 e.0 order x here (ap is_some here, λ z. let w : ref a ≡ Unset = z in cc))

  pub holds_made : (r : Rec) (k : ℕ → Row S A) (h : Heap) → IsShaped h r → IsShort r →
      ((a : ℕ) → h a ≡ None → FitsAt rules h a r)
      → ((a : ℕ) (h1 : Heap) → IsOrdered rules h1 → Extends h h1 → h1 a ≡ Some r → IsItem h1 (ref a) →
      Holds rules stands q (k a) h1) → Holds rules stands q (Do (Make r) k) h
  holds_made r k h shaped short fit n = holds_free r k h shaped short fit
      (λ a h1 free order x e item. n a h1 order x e item)
