-- The dictionary of what a value has itself is looked up; and setting and deleting are its operations.
use Rattle.std.proofs.Common.{◌≡◌, ℕ, Option, Some, None, refl, sym, ap, subst, ◌∙◌}
use Rattle.py_base.specs.declared.kind.Kind.{Kind}
use Rattle.py_base.specs.declared.kind.Kind.TheVariants.{Str, Tuple, List as ListKind, Dict, Cell, Function, Class, Instance, Method, Iter, Range, Lock, Thread}
use Rattle.py_data.specs.declared.value.Addr.{Addr}
use Rattle.py_data.specs.declared.value.Value.{Value}
use Rattle.py_data.specs.declared.value.Value.TheVariants.{Unset, None as NoneValue, Bool as BoolValue, Int, Ref, Builtin}
use Rattle.py_data.specs.declared.record.Got.{Got}
use Rattle.py_data.specs.declared.record.Got.TheVariants.{Is, Raise}
use Rattle.py_data.specs.Closed.{Refers, IsItem}
use Rattle.py_data.specs.Heap.{Heap, Rec, value_at}
use Rattle.py_data.specs.Looking.{Looks, look_row, bytes_row, kind_row}
use Rattle.py_data.specs.Row.{Row, Ret, Read, bind}
use Rattle.py_data.specs.Sense.{Sense, Lawful, Run}
use Rattle.py_data.proofs.Looking.{looks_ret, looks_then, look_looks, looks_run, some_of, kind_looks}
use Rattle.py_data.proofs.Rows.{bind_run}
use Rattle.obj_dict.specs.Dict.{del_row}
use Rattle.obj_class.specs.Attributes.{address_in, attribute_fault, bytes_in, dict_of_kind, dict_of_record, own_dict}
use Rattle.obj_class.specs.AttrRows.{del_attr_row, del_in, dict_at, dict_by, dict_row, gone_row, missing_row, set_attr_row, set_in, taken_row}
use Rattle.obj_class.specs.Bases.{ref}
use Rattle.obj_class.specs.Laws.{OwnLaw, done_or_missing}

module _ (S : Type 0) (h : Heap) where
  at_looks : (a i : ℕ) (r : Rec) → h a ≡ Some r → Looks {S = S} (λ z. z ≡ address_in (value_at r.values i))
      (dict_at a i) h
  unfolding dict_at
  at_looks a i r e =
      let p : Option Addr → Type 0 = λ z. z ≡ address_in (value_at r.values i) in
      looks_then (λ x. x ≡ value_at r.values i) p (look_row a i) (λ d. Ret (address_in d)) h (look_looks S h a r e i)
      (λ x f. looks_ret S p (address_in x) h (ap address_in f))

  by_looks : (a : ℕ) (r : Rec) → h a ≡ Some r → (k : Kind) →
      Looks {S = S} (λ z. z ≡ dict_of_kind r.values k) (dict_by a k) h
  unfolding dict_by
  by_looks a r e Instance = at_looks a 1 r e
  by_looks a r e Class = at_looks a 2 r e
  by_looks a r e Str = looks_ret S (λ z. z ≡ None) None h refl
  by_looks a r e Tuple = looks_ret S (λ z. z ≡ None) None h refl
  by_looks a r e ListKind = looks_ret S (λ z. z ≡ None) None h refl
  by_looks a r e Dict = looks_ret S (λ z. z ≡ None) None h refl
  by_looks a r e Cell = looks_ret S (λ z. z ≡ None) None h refl
  by_looks a r e Function = looks_ret S (λ z. z ≡ None) None h refl
  by_looks a r e Method = looks_ret S (λ z. z ≡ None) None h refl
  by_looks a r e Iter = looks_ret S (λ z. z ≡ None) None h refl
  by_looks a r e Range = looks_ret S (λ z. z ≡ None) None h refl
  by_looks a r e Lock = looks_ret S (λ z. z ≡ None) None h refl
  by_looks a r e Thread = looks_ret S (λ z. z ≡ None) None h refl

  pub dict_looks : (x : Value) → Refers h x → Looks {S = S} (λ z. z ≡ own_dict h x) (dict_row x) h
  unfolding dict_row
  dict_looks (Ref a) i =
      let t = some_of (h a.0) i in
      let p : Option Addr → Type 0 = λ z. z ≡ dict_of_record (h a.0) in
      looks_then (λ k. k ≡ t.0.kind) p (kind_row a.0) (λ k. dict_by a.0 k) h (kind_looks S h a.0 t.0 t.1)
      (λ k e. subst (λ k. Looks {S = S} p (dict_by a.0 k) h) (sym e)
      (subst (λ o. Looks {S = S} (λ z. z ≡ dict_of_record o) (dict_by a.0 t.0.kind) h) (sym t.1)
      (by_looks a.0 t.0 t.1 t.0.kind)))
  dict_looks Unset i = looks_ret S (λ z. z ≡ None) None h refl
  dict_looks NoneValue i = looks_ret S (λ z. z ≡ None) None h refl
  dict_looks (BoolValue b) i = looks_ret S (λ z. z ≡ None) None h refl
  dict_looks (Int n) i = looks_ret S (λ z. z ≡ None) None h refl
  dict_looks (Builtin b) i = looks_ret S (λ z. z ≡ None) None h refl

module _ {S X : Type 0} {u : Sense S X} (L : Lawful u) where
  -- AttributeError with the name, and all records as they were
  missing_run : {A : Type 0} (name : ℕ) (v w : X) (res : Got A) → Run u (missing_row name) v res w →
      (res ≡ Raise (attribute_fault (bytes_in (u.heap v name)))) × (u.heap w ≡ u.heap v)
  unfolding missing_row bytes_row bind Run
  missing_run name v w res d =
      let f = L.effect (Read name) v d.0 d.1 d.2 in
      (d.3.0 ∙ ap (λ o. Raise (attribute_fault (bytes_in o))) (sym f.0), ap u.heap d.3.1 ∙ f.1)

  -- the dictionary was looked up, and the rest was done over the same records
  after_dict : {A : Type 0} (f : Option Addr → Row S A) (x : Value) (v w : X) (res : A) → IsItem (u.heap v) x →
      Run u (bind (dict_row x) f) v res w → (m : X) × (u.heap m ≡ u.heap v) × Run u (f (own_dict (u.heap v) x)) m res w
  after_dict f x v w res i d =
      let b = bind_run u (dict_row x) f v res w d in
      let r = looks_run u L (λ o h. o ≡ own_dict h x) (dict_row x) v b.1 b.0 (dict_looks S (u.heap v) x i.0) b.2 in
      (b.1, r.1, subst (λ o. Run u (f o) b.1 res w) r.0 b.3)

  -- the same where what the value has is known by another name
  known_dict : {A : Type 0} (f : Option Addr → Row S A) (x : Value) (o : Option Addr) (v w : X) (res : A) →
      IsItem (u.heap v) x → own_dict (u.heap v) x ≡ o → Run u (bind (dict_row x) f) v res w →
      (m : X) × (u.heap m ≡ u.heap v) × Run u (f o) m res w
  known_dict f x o v w res i e d = let a = after_dict f x v w res i d in
      (a.0, a.1, subst (λ o. Run u (f o) a.0 res w) e a.2)

  missing_behind : {A : Type 0} (name : ℕ) (v m w : X) (res : Got A) → u.heap m ≡ u.heap v →
      Run u (missing_row name) m res w → (res ≡ Raise (attribute_fault (bytes_in (u.heap v name)))) ×
      (u.heap w ≡ u.heap v)
  missing_behind name v m w res s d = let r = missing_run name m w res d in
      (r.0 ∙ ap (λ g. Raise (attribute_fault (bytes_in (g name)))) s, r.1 ∙ s)

  gone_run : (name : ℕ) (g : Got Value) (v w : X) (res : Got (Unit {0})) → Run u (gone_row name g) v res w →
      (res ≡ done_or_missing g (bytes_in (u.heap v name))) × (u.heap w ≡ u.heap v)
  unfolding gone_row Run
  gone_run name (Is x) v w res d = (d.0, ap u.heap d.1)
  gone_run name (Raise e) v w res d = missing_run name v w res d

  set_run : (x y : Value) (name : ℕ) (o : Option Addr) (v w : X) (res : Got (Unit {0})) → IsItem (u.heap v) x →
      own_dict (u.heap v) x ≡ o → Run u (set_attr_row x name y) v res w →
      (m : X) × (u.heap m ≡ u.heap v) × Run u (set_in name y o) m res w
  unfolding set_attr_row
  set_run x y name o v w res i e d = known_dict (λ o. set_in name y o) x o v w res i e d

  del_run : (x : Value) (name : ℕ) (o : Option Addr) (v w : X) (res : Got (Unit {0})) → IsItem (u.heap v) x →
      own_dict (u.heap v) x ≡ o → Run u (del_attr_row x name) v res w →
      (m : X) × (u.heap m ≡ u.heap v) × Run u (del_in name o) m res w
  unfolding del_attr_row
  del_run x name o v w res i e d = known_dict (λ o. del_in name o) x o v w res i e d

  pub own_law : OwnLaw u
  unfolding set_in del_in taken_row
  own_law = record {
    set = λ x y name d v w res i e r. set_run x y name (Some d) v w res i e r;
    del = λ x name d v w res i e r.
        let a = del_run x name (Some d) v w res i e r in
        let b = bind_run u (del_row d.0 (ref name)) (λ g. gone_row name g) a.0 res w a.2 in
        let c = gone_run name b.0 b.1 w res b.3 in
        (a.0, b.1, b.0, a.1, b.2, c.0, c.1);
    set_none = λ x y name v w res i e r. let a = set_run x y name None v w res i e r in
        missing_behind name v a.0 w res a.1 a.2;
    del_none = λ x name v w res i e r. let a = del_run x name None v w res i e r in
        missing_behind name v a.0 w res a.1 a.2;
  }
