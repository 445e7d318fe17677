-- The parts of classes and instances of a heap in order, and what dictionaries of it have.
use Rattle.std.proofs.Common.{arith, ◌≡◌, ℕ, zero, suc, ◌+◌, ◌*◌, ◌<◌, true, List, [], ◌∷◌, length, Option, Some, None, refl, sym, ap, subst, ◌∙◌}
use Rattle.py_base.specs.declared.kind.Kind.{Kind}
use Rattle.py_base.specs.declared.kind.Kind.TheVariants.{Str, Dict, Cell, Class, Instance}
use Rattle.py_data.specs.declared.value.Value.{Value}
use Rattle.py_data.specs.declared.value.Value.TheVariants.{Unset, None as NoneValue, Bool as BoolValue, Int, Ref, Builtin}
use Rattle.py_data.specs.Answers.{IfItem}
use Rattle.py_data.specs.Closed.{base_of}
use Rattle.py_data.specs.Heap.{Heap, Rec, value_at}
use Rattle.py_data.specs.Order.{Rules, IsOrdered}
use Rattle.py_data.specs.Shape.{KindIn, RefTo, NoneOr, HasShape, find, is_key_kind}
use Rattle.py_data.proofs.ItemLemmas.{item_at, fit_items}
use Rattle.obj_dict.proofs.FindSteps.{within}
use Rattle.obj_class.specs.Attributes.{inherited, kept, nearer, of_pair, values_in}

-- a record of a kind
pub record Is (h : Heap) (k : Kind) (a : ℕ) : Type 0 where
  pub rec : Rec
  pub here : h a ≡ Some rec
  pub kind : rec.kind ≡ k

is_by : (h : Heap) (k : Kind) (a : ℕ) (o : Option Rec) → h a ≡ o → KindIn o (λ q. q ≡ k) → Is h k a
is_by h k a None e i = absurd i
is_by h k a (Some r) e i = record { rec = r; here = e; kind = i }

pub is_at : (h : Heap) (k : Kind) (a : ℕ) → KindIn (h a) (λ q. q ≡ k) → Is h k a
is_at h k a i = is_by h k a (h a) refl i

-- a string is a possible key
pub text_key : (o : Option Rec) → KindIn o (λ k. k ≡ Str) → KindIn o (λ k. is_key_kind k ≡ true)
text_key None i = absurd i
text_key (Some r) i = ap is_key_kind i

class_parts : (h : Heap) (vs : List Value) → HasShape h Class vs →
    NoneOr (RefTo h Class) (value_at vs 1) × RefTo h Dict (value_at vs 2)
class_parts h [] s = absurd s
class_parts h (a ∷ []) s = absurd s
class_parts h (a ∷ b ∷ []) s = absurd s
class_parts h (a ∷ b ∷ c ∷ []) s = (s.1, s.2)
class_parts h (a ∷ b ∷ c ∷ d ∷ vs) s = absurd s

instance_parts : (h : Heap) (vs : List Value) → HasShape h Instance vs →
    RefTo h Class (value_at vs 0) × RefTo h Dict (value_at vs 1)
instance_parts h [] s = absurd s
instance_parts h (a ∷ []) s = absurd s
instance_parts h (a ∷ b ∷ []) s = s
instance_parts h (a ∷ b ∷ c ∷ vs) s = absurd s

-- a class may be a base
pub some_class : (h : Heap) (c : Value) → RefTo h Class c → NoneOr (RefTo h Class) c
some_class h (Ref c) i = i
some_class h NoneValue i = tt
some_class h Unset i = absurd i
some_class h (BoolValue b) i = absurd i
some_class h (Int n) i = absurd i
some_class h (Builtin b) i = absurd i

nearer_item : (h : Heap) (o more : Option Value) → IfItem o h → IfItem more h → IfItem (nearer o more) h
nearer_item h (Some x) more i j = i
nearer_item h None more i j = j

module _ (rules : Rules) (h : Heap) (order : IsOrdered rules h) where
  pub of_class_at : (a : ℕ) (i : Is h Class a) → NoneOr (RefTo h Class) (value_at i.rec.values 1) × RefTo h Dict
      (value_at i.rec.values 2)
  of_class_at a i = class_parts h i.rec.values
      (subst (λ k. HasShape h k i.rec.values) i.kind (order.each a i.rec i.here).closed.shaped.0)

  pub of_instance_at : (a : ℕ) (i : Is h Instance a) → RefTo h Class (value_at i.rec.values 0) × RefTo h Dict
      (value_at i.rec.values 1)
  of_instance_at a i = instance_parts h i.rec.values
      (subst (λ k. HasShape h k i.rec.values) i.kind (order.each a i.rec i.here).closed.shaped.0)

  pair_item : (a : ℕ) (i : Is h Dict a) (key : Value) (o : Option ℕ) → find h i.rec.values key ≡ o →
      IfItem (of_pair i.rec.values o) h
  pair_item a i key None f = tt
  pair_item a i key (Some n) f =
      let w = within h i.rec.values key 0 n f in
      let less : 2 * n + 1 < length i.rec.values = let l = w.1 in omega arith in
      item_at h i.rec.values (2 * n + 1) less
      (fit_items rules h a i.rec (order.each a i.rec i.here) (λ c. let z : Dict ≡ Cell = sym i.kind ∙ c in cc))

  -- what a dictionary has is an item
  pub kept_item : (v key : Value) → RefTo h Dict v → IfItem (kept h v key) h
  kept_item (Ref d) key i =
      let t = is_at h Dict d.0 i in
      subst (λ o. IfItem (of_pair (values_in o) (find h (values_in o) key)) h) (sym t.here)
      (pair_item d.0 t key (find h t.rec.values key) refl)
  kept_item Unset key i = absurd i
  kept_item NoneValue key i = absurd i
  kept_item (BoolValue b) key i = absurd i
  kept_item (Int n) key i = absurd i
  kept_item (Builtin b) key i = absurd i

  -- and so is what a class inherits
  pub inherited_item : (key : Value) (m : ℕ) (v : Value) → NoneOr (RefTo h Class) v → IfItem (inherited h key m v) h
  unfolding inherited
  inherited_item key zero v i = tt
  inherited_item key (suc m) (Ref c) i =
      let t = is_at h Class c.0 i in
      let k = of_class_at c.0 t in
      subst (λ o. IfItem (nearer (kept h (value_at (values_in o) 2) key) (inherited h key m (base_of o))) h)
      (sym t.here)
      (nearer_item h (kept h (value_at t.rec.values 2) key) (inherited h key m (value_at t.rec.values 1))
      (kept_item (value_at t.rec.values 2) key k.1) (inherited_item key m (value_at t.rec.values 1) k.0))
  inherited_item key (suc m) NoneValue i = tt
  inherited_item key (suc m) Unset i = absurd i
  inherited_item key (suc m) (BoolValue b) i = absurd i
  inherited_item key (suc m) (Int n) i = absurd i
  inherited_item key (suc m) (Builtin b) i = absurd i
