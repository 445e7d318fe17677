-- One call of a row that holds, and what follows it.
use Rattle.std.proofs.Common.{◌≡◌, ℕ, false, Option, Some, sym, ap, subst, ◌∙◌}
use Rattle.std.specs.Prelude.{is_some}
use Rattle.py_data.specs.declared.change.Change.{Change}
use Rattle.py_data.specs.declared.value.Value.{Value}
use Rattle.py_data.specs.declared.value.Value.TheVariants.{Unset, Ref}
use Rattle.py_base.specs.declared.kind.Kind.TheVariants.{Dict}
use Rattle.py_data.specs.Heap.{Rec, Heap, put_at}
use Rattle.py_data.specs.Shape.{IsKey, ArePairs, Fits, HasShape, find}
use Rattle.py_data.specs.Changes.{after, Allows, Suits}
use Rattle.py_data.specs.Closed.{IsItem}
use Rattle.py_data.specs.Row.{Row, Do, Read, Find, Edit, Make, bind}
use Rattle.py_data.specs.Sense.{Asks}
use Rattle.py_data.specs.Order.{Rules, FitsAt, IsOrdered, Extends, Puts}
use Rattle.py_data.specs.Holds.{Holds}
use Rattle.py_data.specs.Looking.{Looks}
use Rattle.py_data.proofs.Grow.{with_rec_here}
use Rattle.py_data.proofs.Holding.{holds_do, holds_bind}
use Rattle.py_data.proofs.Looking.{look_asks, looks_held}
use Rattle.py_data.proofs.Refits.{change_fits}
use Rattle.py_data.proofs.Same.{one_rec}
use Rattle.py_data.proofs.Steps.{at_is, there_is, asks_edit}

-- the record that was made is there, and its address is an item
made_item : (h1 : Heap) (a : ℕ) (r : Rec) → h1 a ≡ Some r → IsItem h1 (Ref (record { 0 = a }))
made_item h1 a r e = (ap is_some e, λ q. let z : Ref (record { 0 = a }) ≡ Unset = q in cc)

-- the pairs of a dictionary of a heap in order
pub pairs_of : (rules : Rules) (h : Heap) (d : ℕ) (r : Rec) → IsOrdered rules h → h d ≡ Some r → r.kind ≡ Dict →
    ArePairs h r.values
pairs_of rules h d r order e kind = let fit = order.each d r e in
    (subst (λ k. HasShape h k r.values) kind fit.closed.shaped.0).0

module _ {S A : Type 0} (rules : Rules) (stands : Heap → S → Type 0) (p : A → Heap → Type 0) where
  -- a record that is there is looked at
  pub holds_read : (a : ℕ) (k : Rec → Row S A) (h : Heap) (r : Rec) → h a ≡ Some r → Holds rules stands p (k r) h →
      Holds rules stands p (Do (Read a) k) h
  holds_read a k h r e i =
      holds_do rules stands p (Read a) k h (look_asks S h a (ap is_some e)) tt
      (λ q h1 f order x. subst (λ g. Holds rules stands p (k q) g) (sym f.1)
      (subst (λ z. Holds rules stands p (k z) h) (one_rec (h a) q r f.0 e) i))

  -- a key is looked for in a dictionary
  pub holds_find : (d : ℕ) (key : Value) (k : Option ℕ → Row S A) (h : Heap) (r : Rec) → IsOrdered rules h →
      h d ≡ Some r → r.kind ≡ Dict → IsKey h key → Holds rules stands p (k (find h r.values key)) h
      → Holds rules stands p (Do (Find d key) k) h
  unfolding Asks
  holds_find d key k h r order e kind i n =
      holds_do rules stands p (Find d key) k h
      (there_is h d r false (λ r. Fits h r key) e (kind, i, pairs_of rules h d r order e kind)) tt
      (λ o h1 f order1 x.
      let found : o ≡ find h r.values key = f.1 ∙ ap (λ z. find h z.values key) (at_is h d r e) in
      subst (λ g. Holds rules stands p (k o) g) (sym f.2) (subst (λ z. Holds rules stands p (k z) h) (sym found) n))

  -- a record is changed
  pub holds_edit : (a : ℕ) (c : Change) (k : Unit {0} → Row S A) (h : Heap) (r : Rec) → IsOrdered rules h →
      h a ≡ Some r → Allows c r → Suits false h c r → Puts rules h a c r
      → ((h1 : Heap) → IsOrdered rules h1 → Extends h h1 → h1 ≡ put_at h a (after c r) →
      Holds rules stands p (k tt) h1) → Holds rules stands p (Do (Edit a c) k) h
  unfolding Asks
  holds_edit a c k h r order e allows suits puts n =
      holds_do rules stands p (Edit a c) k h (asks_edit S false h a r c e allows suits)
      (λ q f. subst (λ z. FitsAt rules h a (after c z)) (one_rec (h a) q r f e)
      (change_fits rules h a c r (order.each a r e) allows suits puts))
      (λ u h1 f order1 x. n h1 order1 x (f.1 ∙ ap (λ z. put_at h a (after c z)) (at_is h a r e)))

  -- a record that fits wherever it comes is made
  pub holds_make : (r : Rec) (k : ℕ → Row S A) (h : Heap) → ((a : ℕ) → FitsAt rules h a r)
      → ((a : ℕ) (h1 : Heap) → IsOrdered rules h1 → Extends h h1 → h1 ≡ put_at h a r →
      IsItem h1 (Ref (record { 0 = a })) → Holds rules stands p (k a) h1) → Holds rules stands p (Do (Make r) k) h
  unfolding Asks
  holds_make r k h fit n =
      let one = fit 0 in
      holds_do rules stands p (Make r) k h (one.closed.shaped, one.short.0, one.short.1) (λ a e. fit a)
      (λ a h1 e order x. n a h1 order x e.1 (made_item h1 a r (ap (λ g. g a) e.1 ∙ with_rec_here a r h)))

  -- a row that only looks comes first
  pub holds_looks : {B : Type 0} (q : B → Type 0) (row : Row S B) (f : B → Row S A) (h : Heap) → IsOrdered rules h →
      Looks q row h → ((b : B) → q b → Holds rules stands p (f b) h) → Holds rules stands p (bind row f) h
  holds_looks q row f h order i n =
      holds_bind rules stands (λ b h1. (h1 ≡ h) × q b) p row f h order (looks_held rules stands q h row i)
      (λ b h1 order1 x j. subst (λ g. Holds rules stands p (f b) g) (sym j.0) (n b j.1))
