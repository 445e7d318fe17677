-- A change that may be made, and puts what may stand there, leaves a record that fits.
use Rattle.std.proofs.Common.{arith, ◌≡◌, ◌≢◌, ℕ, zero, suc, ◌*◌, ◌<◌, ◌≤◌, true, false, List, [], ◌∷◌, ◌++◌, length, remove, set, take, Option, Some, None, refl, sym, ap, subst, ◌∙◌, append_assoc}
use Rattle.std.specs.Prelude.{is_some}
use Rattle.py_data.specs.declared.value.Value.{Value}
use Rattle.py_data.specs.declared.value.Value.TheVariants.{Unset, None as NoneValue, Bool as BoolValue, Int, Ref, Builtin}
use Rattle.py_base.specs.declared.kind.Kind.{Kind}
use Rattle.py_base.specs.declared.kind.Kind.TheVariants.{Str, Tuple, List as ListKind, Dict, Cell, Function, Class, Instance, Method, Iter, Range, Lock, Thread}
use Rattle.py_data.specs.declared.record.TheConstants.{LENGTH_LIMIT}
use Rattle.py_data.specs.declared.change.Change.{Change}
use Rattle.py_data.specs.declared.change.Change.TheVariants.{Set, Push, Cut, Pair, Unpair}
use Rattle.py_data.specs.Every.{Every}
use Rattle.py_data.specs.Heap.{Rec, Heap, is_tracked, value_at}
use Rattle.py_data.specs.Shape.{KindIn, IsKey, find, RefTo, NoneOr, IsCount, IsBool, IsThreadNumber, IsIterable, ArePairs, KeysDiffer, HasShape, HoldsNoUnset}
use Rattle.py_data.specs.Closed.{Refers, IsItem}
use Rattle.py_data.specs.Changes.{after, Allows, Suits, IsValuePlace}
use Rattle.py_data.specs.Order.{Rules, FitsAt, IterPlace, ThreadPlace, MayPut, Puts}
use Rattle.py_data.proofs.EveryLemmas.{every_and, every_less, every_set, every_take}
use Rattle.py_data.proofs.Grow.{for_tracked}
use Rattle.py_data.proofs.PairLists.{gone, pairs_last, differ_last, pairs_gone, differ_gone, pairs_set, differ_set}
use Rattle.py_data.proofs.Short.{short_after}

-- ---- what may be put in a place is an item, but in a Cell
module _ (h : Heap) where
  kind_has : (o : Option Rec) (p : Kind → Type 0) → KindIn o p → is_some o ≡ true
  kind_has None p i = absurd i
  kind_has (Some r) p i = refl

  ref_item : (k : Kind) (x : Value) → RefTo h k x → IsItem h x
  ref_item k (Ref a) i = (kind_has (h a.0) (λ q. q ≡ k) i, λ e. let z : Ref a ≡ Unset = e in cc)
  ref_item k Unset i = absurd i
  ref_item k NoneValue i = absurd i
  ref_item k (BoolValue b) i = absurd i
  ref_item k (Int n) i = absurd i
  ref_item k (Builtin b) i = absurd i

  iterable_item : (x : Value) → IsIterable h x → IsItem h x
  iterable_item (Ref a) i = (kind_has (h a.0) _ i, λ e. let z : Ref a ≡ Unset = e in cc)
  iterable_item Unset i = absurd i
  iterable_item NoneValue i = absurd i
  iterable_item (BoolValue b) i = absurd i
  iterable_item (Int n) i = absurd i
  iterable_item (Builtin b) i = absurd i

  count_item : (x : Value) → IsCount x → IsItem h x
  count_item (Int n) i = (tt, λ e. let z : Int n ≡ Unset = e in cc)
  count_item Unset i = absurd i
  count_item NoneValue i = absurd i
  count_item (BoolValue b) i = absurd i
  count_item (Ref a) i = absurd i
  count_item (Builtin b) i = absurd i

  bool_item : (x : Value) → IsBool x → IsItem h x
  bool_item (BoolValue b) i = (tt, λ e. let z : BoolValue b ≡ Unset = e in cc)
  bool_item Unset i = absurd i
  bool_item NoneValue i = absurd i
  bool_item (Int n) i = absurd i
  bool_item (Ref a) i = absurd i
  bool_item (Builtin b) i = absurd i

  number_item : (x : Value) → NoneOr IsThreadNumber x → IsItem h x
  number_item NoneValue i = (tt, λ e. let z : NoneValue ≡ Unset = e in cc)
  number_item (Int n) i = (tt, λ e. let z : Int n ≡ Unset = e in cc)
  number_item Unset i = absurd i
  number_item (BoolValue b) i = absurd i
  number_item (Ref a) i = absurd i
  number_item (Builtin b) i = absurd i

  iter_item : (i : ℕ) (x : Value) → IterPlace h i x → IsItem h x
  iter_item zero x p = iterable_item x p
  iter_item (suc i) x p = count_item x p

  thread_item : (i : ℕ) (x : Value) → ThreadPlace h i x → IsItem h x
  thread_item zero x p = p
  thread_item (suc zero) x p = ref_item Tuple x p
  thread_item (suc (suc zero)) x p = number_item x p
  thread_item (suc (suc (suc i))) x p = bool_item x p

  -- ---- the values of a record with another value in a place
  iter_set : (vs : List Value) (i : ℕ) (x : Value) → HasShape h Iter vs → i < length vs → IterPlace h i x →
      HasShape h Iter (set vs i x)
  iter_set [] i x s l p = absurd s
  iter_set (a ∷ []) i x s l p = absurd s
  iter_set (a ∷ b ∷ []) i x s l p = absurd s
  iter_set (a ∷ b ∷ c ∷ []) zero x s l p = (p, s.1, s.2)
  iter_set (a ∷ b ∷ c ∷ []) (suc zero) x s l p = (s.0, p, s.2)
  iter_set (a ∷ b ∷ c ∷ []) (suc (suc zero)) x s l p = (s.0, s.1, p)
  iter_set (a ∷ b ∷ c ∷ []) (suc (suc (suc i))) x s l p = absurd (omega (arith, l))
  iter_set (a ∷ b ∷ c ∷ d ∷ vs) i x s l p = absurd s

  lock_set : (vs : List Value) (i : ℕ) (x : Value) → HasShape h Lock vs → i < length vs → IsBool x →
      HasShape h Lock (set vs i x)
  lock_set [] i x s l p = absurd s
  lock_set (a ∷ []) zero x s l p = p
  lock_set (a ∷ []) (suc i) x s l p = absurd (omega (arith, l))
  lock_set (a ∷ b ∷ vs) i x s l p = absurd s

  thread_set : (vs : List Value) (i : ℕ) (x : Value) → HasShape h Thread vs → i < length vs → ThreadPlace h i x →
      HasShape h Thread (set vs i x)
  thread_set [] i x s l p = absurd s
  thread_set (a ∷ []) i x s l p = absurd s
  thread_set (a ∷ b ∷ []) i x s l p = absurd s
  thread_set (a ∷ b ∷ c ∷ []) i x s l p = absurd s
  thread_set (a ∷ b ∷ c ∷ d ∷ []) zero x s l p = (s.0, s.1, s.2)
  thread_set (a ∷ b ∷ c ∷ d ∷ []) (suc zero) x s l p = (p, s.1, s.2)
  thread_set (a ∷ b ∷ c ∷ d ∷ []) (suc (suc zero)) x s l p = (s.0, p, s.2)
  thread_set (a ∷ b ∷ c ∷ d ∷ []) (suc (suc (suc zero))) x s l p = (s.0, s.1, p)
  thread_set (a ∷ b ∷ c ∷ d ∷ []) (suc (suc (suc (suc i)))) x s l p = absurd (omega (arith, l))
  thread_set (a ∷ b ∷ c ∷ d ∷ e ∷ vs) i x s l p = absurd s

  cell_set : (vs : List Value) (i : ℕ) (x : Value) → HasShape h Cell vs → i < length vs →
      (HasShape h Cell (set vs i x)) × (value_at (set vs i x) 0 ≡ x)
  cell_set [] i x s l = absurd s
  cell_set (a ∷ []) zero x s l = (tt, refl)
  cell_set (a ∷ []) (suc i) x s l = absurd (omega (arith, l))
  cell_set (a ∷ b ∷ vs) i x s l = absurd s

  dict_set : (vs : List Value) (i : ℕ) (x : Value) → HasShape h Dict vs → IsValuePlace Dict i →
      HasShape h Dict (set vs i x)
  dict_set vs i x s p = subst (λ j. HasShape h Dict (set vs j x)) (sym p.1)
      (pairs_set h vs p.0 x s.0, differ_set h vs p.0 x s.0 s.1)

-- ---- a record that fits, with other values
module _ (rules : Rules) (h : Heap) (a : ℕ) where
  -- what the values of a tracked record of a kind are
  record Values (k : Kind) (vs : List Value) : Type 0 where
    refers : Every (Refers h) vs
    shape : HasShape h k vs
    set : HoldsNoUnset k vs
    cell : k ≡ Cell → rules.cell a (value_at vs 0)

  class_fixed : (k : Kind) → is_tracked k ≡ true → k ≡ Class → ⊥
  class_fixed k t e = let z : false ≡ true = sym (ap is_tracked e) ∙ t in cc

  function_fixed : (k : Kind) → is_tracked k ≡ true → k ≡ Function → ⊥
  function_fixed k t e = let z : false ≡ true = sym (ap is_tracked e) ∙ t in cc

  values_fit : (r : Rec) (vs : List Value) (room : ℕ) → FitsAt rules h a r → is_tracked r.kind ≡ true →
      length vs ≤ LENGTH_LIMIT → Values r.kind vs → FitsAt rules h a (record r { values = vs; room = room })
  values_fit r vs room f t l v = record {
    closed = record {
      refers = v.refers;
      shaped = (v.shape, f.closed.shaped.1, v.set);
      bases = λ e.
          absurd (class_fixed r.kind t e);
    };
    short = (l, f.short.1);
    function = λ e. absurd (function_fixed r.kind t e);
    cell = v.cell;
  }

  values_of : (r : Rec) → FitsAt rules h a r → Values r.kind r.values
  values_of r f = record { refers = f.closed.refers; shape = f.closed.shaped.0; set = f.closed.shaped.2; cell = f.cell }

  -- a list and a dictionary hold items
  list_values : (vs : List Value) → Every (Refers h) vs → Every (λ v. v ≢ Unset) vs → Values ListKind vs
  list_values vs i j = record {
    refers = i;
    shape = tt;
    set = j;
    cell = λ e.
        absurd (let z : ListKind ≡ Cell = e in cc);
  }

  dict_values : (vs : List Value) → Every (Refers h) vs → Every (λ v. v ≢ Unset) vs → ArePairs h vs → KeysDiffer h vs →
      Values Dict vs
  dict_values vs i j p d = record {
    refers = i;
    shape = (p, d);
    set = j;
    cell = λ e.
        absurd (let z : Dict ≡ Cell = e in cc);
  }

  -- ---- each change
  set_values : (k : Kind) (vs : List Value) (i : ℕ) (x : Value) → is_tracked k ≡ true → Values k vs → i < length vs →
      IsValuePlace k i → MayPut rules h a k i x → Values k (set vs i x)
  set_values ListKind vs i x t v l s p = list_values (set vs i x) (every_set (Refers h) vs i x v.refers p.0)
      (every_set (λ v. v ≢ Unset) vs i x v.set p.1)
  set_values Dict vs i x t v l s p =
      let d = dict_set h vs i x v.shape s in
      dict_values (set vs i x) (every_set (Refers h) vs i x v.refers p.0) (every_set (λ v. v ≢ Unset) vs i x v.set p.1)
      d.0 d.1
  set_values Cell vs i x t v l s p =
      let c = cell_set h vs i x v.shape l in
      record {
        refers = every_set (Refers h) vs i x v.refers p.0;
        shape = c.0;
        set = tt;
        cell = λ e.
            subst (rules.cell a) (sym c.1) p.1;
      }
  set_values Iter vs i x t v l s p =
      let item = iter_item h i x p in
      record {
        refers = every_set (Refers h) vs i x v.refers item.0;
        shape = iter_set h vs i x v.shape l p;
        set =
            every_set (λ v. v ≢ Unset) vs i x v.set item.1;
        cell = λ e. absurd (let z : Iter ≡ Cell = e in cc);
      }
  set_values Lock vs i x t v l s p =
      let item = bool_item h x p in
      record {
        refers = every_set (Refers h) vs i x v.refers item.0;
        shape = lock_set h vs i x v.shape l p;
        set =
            every_set (λ v. v ≢ Unset) vs i x v.set item.1;
        cell = λ e. absurd (let z : Lock ≡ Cell = e in cc);
      }
  set_values Thread vs i x t v l s p =
      let item = thread_item h i x p in
      record {
        refers = every_set (Refers h) vs i x v.refers item.0;
        shape = thread_set h vs i x v.shape l p;
        set =
            every_set (λ v. v ≢ Unset) vs i x v.set item.1;
        cell = λ e. absurd (let z : Thread ≡ Cell = e in cc);
      }
  set_values Str vs i x t v l s p = absurd (let z : false ≡ true = t in cc)
  set_values Tuple vs i x t v l s p = absurd (let z : false ≡ true = t in cc)
  set_values Function vs i x t v l s p = absurd (let z : false ≡ true = t in cc)
  set_values Class vs i x t v l s p = absurd (let z : false ≡ true = t in cc)
  set_values Instance vs i x t v l s p = absurd (let z : false ≡ true = t in cc)
  set_values Method vs i x t v l s p = absurd (let z : false ≡ true = t in cc)
  set_values Range vs i x t v l s p = absurd (let z : false ≡ true = t in cc)

  push_values : (vs : List Value) (x : Value) → Values ListKind vs → IsItem h x → Values ListKind (vs ++ x ∷ [])
  push_values vs x v p = list_values (vs ++ x ∷ []) (every_and (Refers h) vs (x ∷ []) v.refers (p.0, tt))
      (every_and (λ v. v ≢ Unset) vs (x ∷ []) v.set (p.1, tt))

  cut_values : (vs : List Value) (n : ℕ) → Values ListKind vs → Values ListKind (take n vs)
  cut_values vs n v = list_values (take n vs) (every_take (Refers h) vs n v.refers)
      (every_take (λ v. v ≢ Unset) vs n v.set)

  pair_values : (vs : List Value) (key x : Value) → Values Dict vs → IsKey h key → find h vs key ≡ None →
      IsItem h key → IsItem h x → Values Dict ((vs ++ key ∷ []) ++ x ∷ [])
  pair_values vs key x v k n i j =
      let same : (vs ++ key ∷ []) ++ x ∷ [] ≡ vs ++ key ∷ x ∷ [] = append_assoc vs (key ∷ []) (x ∷ []) in
      subst (Values Dict) (sym same)
      (dict_values (vs ++ key ∷ x ∷ []) (every_and (Refers h) vs (key ∷ x ∷ []) v.refers (i.0, (j.0, tt)))
      (every_and (λ v. v ≢ Unset) vs (key ∷ x ∷ []) v.set (i.1, (j.1, tt))) (pairs_last h vs key x v.shape.0 k)
      (differ_last h vs key x v.shape.0 v.shape.1 n))

  unpair_values : (vs : List Value) (k : ℕ) → Values Dict vs → Values Dict (gone vs k)
  unpair_values vs k v =
      dict_values (gone vs k) (less (Refers h) v.refers) (less (λ v. v ≢ Unset) v.set) (pairs_gone h vs k v.shape.0)
      (differ_gone h vs k v.shape.0 v.shape.1)
    where
      less : (P : Value → Type 0) → Every P vs → Every P (gone vs k)
      less P i = every_less P (remove vs (2 * k)) (2 * k) (every_less P vs (2 * k) i)

  -- the law: whatever the change
  pub change_fits : (c : Change) (r : Rec) → FitsAt rules h a r → Allows c r → Suits false h c r → Puts rules h a c r →
      FitsAt rules h a (after c r)
  change_fits (Set i x) r f l s p = values_fit r (set r.values i x) r.room f l.0 (short_after (Set i x) r l f.short).0
      (set_values r.kind r.values i x l.0 (values_of r f) l.1 s p)
  change_fits (Push x) r f l s p =
      values_fit r (r.values ++ x ∷ []) _ f (for_tracked (Push x) r.kind l.0) (short_after (Push x) r l f.short).0
      (subst (λ k. Values k (r.values ++ x ∷ [])) (sym l.0)
      (push_values r.values x (subst (λ k. Values k r.values) l.0 (values_of r f)) p))
  change_fits (Cut n) r f l s p =
      values_fit r (take n r.values) r.room f (for_tracked (Cut n) r.kind l.0) (short_after (Cut n) r l f.short).0
      (subst (λ k. Values k (take n r.values)) (sym l.0)
      (cut_values r.values n (subst (λ k. Values k r.values) l.0 (values_of r f))))
  change_fits (Pair key x) r f l s p =
      values_fit r ((r.values ++ key ∷ []) ++ x ∷ []) _ f (for_tracked (Pair key x) r.kind l.0)
      (short_after (Pair key x) r l f.short).0
      (subst (λ k. Values k ((r.values ++ key ∷ []) ++ x ∷ [])) (sym l.0)
      (pair_values r.values key x (subst (λ k. Values k r.values) l.0 (values_of r f)) s.0.1 s.1 p.0 p.1))
  change_fits (Unpair k) r f l s p =
      values_fit r (gone r.values k) r.room f (for_tracked (Unpair k) r.kind l.0) (short_after (Unpair k) r l f.short).0
      (subst (λ z. Values z (gone r.values k)) (sym l.0)
      (unpair_values r.values k (subst (λ z. Values z r.values) l.0 (values_of r f))))
