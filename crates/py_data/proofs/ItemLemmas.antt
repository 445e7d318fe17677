-- Values that may be items: those of records of a heap in order, and those that stay items.
use Rattle.std.proofs.Common.{arith, ◌≢◌, ℕ, zero, suc, ◌<◌, List, [], ◌∷◌, length, refl}
use Rattle.py_base.specs.declared.kind.Kind.{Kind}
use Rattle.py_base.specs.declared.kind.Kind.TheVariants.{Cell}
use Rattle.py_data.specs.declared.value.Value.{Value}
use Rattle.py_data.specs.declared.value.Value.TheVariants.{Unset}
use Rattle.py_data.specs.Every.{Every}
use Rattle.py_data.specs.Heap.{Heap, Rec, value_at}
use Rattle.py_data.specs.Shape.{HoldsNoUnset}
use Rattle.py_data.specs.Closed.{Refers, IsItem}
use Rattle.py_data.specs.Order.{Rules, FitsAt, Extends}
use Rattle.py_data.proofs.EveryLemmas.{every_with, every_weaken}
use Rattle.py_data.proofs.Keep.{refers_stays}

-- an item of a heap is one of each heap that extends it
pub item_stays : (h h1 : Heap) → Extends h h1 → (v : Value) → IsItem h v → IsItem h1 v
item_stays h h1 x v i = (refers_stays h h1 x v i.0, i.1)

pub items_stay : (h h1 : Heap) → Extends h h1 → (vs : List Value) → Every (IsItem h) vs → Every (IsItem h1) vs
items_stay h h1 x vs i = every_weaken (IsItem h) (IsItem h1) (item_stays h h1 x) vs i

are_set : (k : Kind) (vs : List Value) → k ≢ Cell → HoldsNoUnset k vs → Every (λ v. v ≢ Unset) vs
are_set Cell vs n i = absurd (n refl)
are_set _ vs n i = i

-- the values of a record that fits are items, but for a Cell's
pub fit_items : (rules : Rules) (h : Heap) (a : ℕ) (r : Rec) → FitsAt rules h a r → r.kind ≢ Cell →
    Every (IsItem h) r.values
fit_items rules h a r f n = every_with (Refers h) (λ v. v ≢ Unset) r.values f.closed.refers
    (are_set r.kind r.values n f.closed.shaped.2)

-- one of items by its place
pub item_at : (h : Heap) (vs : List Value) (i : ℕ) → i < length vs → Every (IsItem h) vs → IsItem h (value_at vs i)
item_at h [] i l e = absurd (omega (arith, l))
item_at h (v ∷ vs) zero l e = e.0
item_at h (v ∷ vs) (suc i) l e = item_at h vs i (omega (arith, l)) e.1
