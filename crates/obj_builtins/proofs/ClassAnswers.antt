-- What `isinstance` answers of a class.
use Rattle.std.proofs.Common.{arith, ◌≡◌, ◌≢◌, ℕ, Bool, true, false, not, cond, eqb, List, [], ◌∷◌, Some, codes, refl, sym, ap, subst, ◌∙◌}
use Rattle.std.proofs.lemmas.Bool.{eq-eqb, eqb-true}
use Rattle.py_base.specs.Numbers.{class_number}
use Rattle.py_base.specs.declared.kind.Kind.TheVariants.{Class as ClassKind, Instance}
use Rattle.py_data.specs.declared.value.Addr.{Addr}
use Rattle.py_data.specs.declared.value.Value.{Value}
use Rattle.py_data.specs.declared.value.Value.TheVariants.{Bool as BoolValue}
use Rattle.py_data.specs.declared.record.Got.{Got}
use Rattle.py_data.specs.declared.record.Got.TheVariants.{Is}
use Rattle.py_data.specs.Closed.{IsItem}
use Rattle.py_data.specs.Heap.{Rec, Heap, value_at}
use Rattle.py_data.specs.Looking.{Looks, look_row, until_row}
use Rattle.py_data.specs.Order.{Rules, IsOrdered}
use Rattle.py_data.specs.Row.{Row, Ret, bind}
use Rattle.py_data.specs.Shape.{RefTo}
use Rattle.py_data.proofs.Looking.{looks_ret, looks_then, look_looks}
use Rattle.obj_class.specs.Bases.{ref, MOST_BASES, is_below}
use Rattle.obj_class.specs.Roots.{IsRoots, class_place, root_class}
use Rattle.obj_class.proofs.Parts.{Is as IsRecord, is_at}
use Rattle.obj_builtins.specs.declared.arguments.Form.{Form}
use Rattle.obj_builtins.specs.declared.arguments.Form.TheVariants.{Class as ClassForm, Object}
use Rattle.obj_builtins.specs.declared.kinds.Class.{Class}
use Rattle.obj_builtins.specs.declared.kinds.Class.TheVariants.{Own}
use Rattle.obj_builtins.specs.Arguments.{form_of, form_row}
use Rattle.obj_builtins.specs.Functions.{later_row, function_row}
use Rattle.obj_builtins.specs.Kinds.{classes_row, is_ref, form_below, own_test, own_row, class_row, class_at, any_row, form_told, value_told, told_of, told_by, isinstance_row}
use Rattle.obj_builtins.specs.Laws.{InstanceLaw}
use Rattle.obj_builtins.proofs.FormLooks.{IsForm, form_looks, form_is}
use Rattle.obj_builtins.proofs.KindLooks.{object_looks}

module _ (S : Type 0) (rules : Rules) (h : Heap) (order : IsOrdered rules h) (roots c : ℕ) (known : IsRoots h roots)
    (at : RefTo h ClassKind (ref c)) where
  abbrev class : Addr
  class = record { 0 = c }

  abbrev OBJECT : ℕ
  OBJECT = class_place (class_number (codes "object"))

  -- the test decides the answer
  told_is : (t : Bool) (f : Form) → Looks {S = S} (λ z. z ≡ t) (own_row roots f class) h →
      Looks {S = S} (λ g. g ≡ Is (BoolValue t)) (form_told roots (Own class ∷ []) f) h
  unfolding form_told any_row until_row class_row
  told_is t f own =
      let cs : List Class = Own class ∷ [] in
      let turn : ℕ → Row S Bool = λ i. class_row roots f (class_at cs i) in
      let p : Got Value → Type 0 = λ g. g ≡ Is (BoolValue t) in
      looks_then (λ z. z ≡ t) p (any_row roots f cs) (λ b. Ret (Is (BoolValue b))) h
      (looks_then (λ z. z ≡ t) (λ z. z ≡ t) (turn 0) (λ b. cond (not b) (until_row turn not false 1 0) (Ret b)) h own
      (decides turn))
      (λ b e. looks_ret S p (Is (BoolValue b)) h (ap (λ b. Is (BoolValue b)) e))
    where
      decides : (turn : ℕ → Row S Bool) (b : Bool) → b ≡ t →
          Looks {S = S} (λ z. z ≡ t) (cond (not b) (until_row turn not false 1 0) (Ret b)) h
      decides turn true e = looks_ret S (λ z. z ≡ t) true h e
      decides turn false e = looks_ret S (λ z. z ≡ t) false h e

  -- the class is found to be one
  class_is : Looks {S = S} (λ f. f ≡ ClassForm class) (form_row (ref c)) h
  class_is =
      let t = is_at h ClassKind c at in
      subst (λ z. Looks {S = S} (λ f. f ≡ z) (form_row (ref c)) h) (ap (λ k. form_of k class) t.kind)
      (form_is S h c t.rec t.here)

  value_is : (t : Bool) (x : Value) → Looks {S = S} (λ g. g ≡ Is (BoolValue t)) (value_told roots x (Own class ∷ [])) h
      → Looks {S = S} (λ g. g ≡ Is (BoolValue t)) (told_by roots x (ref c)) h
  unfolding told_by told_of classes_row bind
  value_is t x told =
      let p : Got Value → Type 0 = λ g. g ≡ Is (BoolValue t) in
      looks_then (λ f. f ≡ ClassForm class) p (form_row (ref c)) (λ f. told_of roots x f) h class_is
      (λ f e. subst (λ z. Looks {S = S} p (told_of roots x z) h) (sym e) told)

  -- ---- the class `object`
  object_row : root_class known.list.values (codes "object") ≡ ref c → (f : Form) →
      Looks {S = S} (λ z. z ≡ true) (own_row roots f class) h
  unfolding own_row own_test
  object_row e f =
      let p : Bool → Type 0 = λ z. z ≡ true in
      looks_then (λ x. x ≡ value_at known.list.values OBJECT) p (look_row roots OBJECT)
      (λ o. own_test f class (is_ref o class)) h (look_looks S h roots known.list known.here OBJECT)
      (λ x q. subst (λ b. Looks {S = S} p (own_test f class b) h)
      (sym (ap (λ z. is_ref z class) (q ∙ e) ∙ eq-eqb c c refl)) (looks_ret S p true h refl))

  pub object_is : (x : Value) → IsItem h x → root_class known.list.values (codes "object") ≡ ref c →
      Looks {S = S} (λ g. g ≡ Is (BoolValue true)) (told_by roots x (ref c)) h
  unfolding value_told
  object_is x i e =
      let p : Got Value → Type 0 = λ g. g ≡ Is (BoolValue true) in
      value_is true x (looks_then (IsForm h) p (form_row x) (λ f. form_told roots (Own class ∷ []) f) h
      (form_looks S h x i.0) (λ f k. told_is true f (object_row e f)))

  -- ---- another class
  not_object : root_class known.list.values (codes "object") ≢ ref c →
      is_ref (value_at known.list.values OBJECT) class ≡ false
  not_object n =
      let o = known.classes 0 (omega arith) in
      ap (λ z. is_ref z class) o.is ∙ unlike o.address (eqb o.address c) refl (λ e. n (o.is ∙ ap ref e))
    where
      unlike : (a : ℕ) (b : Bool) → eqb a c ≡ b → (a ≡ c → ⊥) → b ≡ false
      unlike a true e f = absurd (f (eqb-true a c e))
      unlike a false e f = refl

  own_is : (a : ℕ) (t : IsRecord h Instance a) → root_class known.list.values (codes "object") ≢ ref c →
      Looks {S = S} (λ z. z ≡ is_below h c MOST_BASES (value_at t.rec.values 0))
      (own_row roots (Object (record { 0 = a })) class) h
  unfolding own_row own_test form_below
  own_is a t n =
      let p : Bool → Type 0 = λ z. z ≡ is_below h c MOST_BASES (value_at t.rec.values 0) in
      let f : Form = Object (record { 0 = a }) in
      looks_then (λ x. x ≡ value_at known.list.values OBJECT) p (look_row roots OBJECT)
      (λ o. own_test f class (is_ref o class)) h (look_looks S h roots known.list known.here OBJECT)
      (λ x q. subst (λ b. Looks {S = S} p (own_test f class b) h) (sym (ap (λ z. is_ref z class) q ∙ not_object n))
      (object_looks S rules h order a t class))

  pub instance_is : (a : ℕ) (i : Rec) → h a ≡ Some i → i.kind ≡ Instance →
      root_class known.list.values (codes "object") ≢ ref c
      → Looks {S = S} (λ g. g ≡ Is (BoolValue (is_below h c MOST_BASES (value_at i.values 0))))
      (told_by roots (ref a) (ref c)) h
  unfolding value_told
  instance_is a i e k n =
      let b = is_below h c MOST_BASES (value_at i.values 0) in
      let p : Got Value → Type 0 = λ g. g ≡ Is (BoolValue b) in
      let f : Form = Object (record { 0 = a }) in
      value_is b (ref a)
      (looks_then (λ z. z ≡ f) p (form_row (ref a)) (λ f. form_told roots (Own class ∷ []) f) h
      (subst (λ z. Looks {S = S} (λ f. f ≡ z) (form_row (ref a)) h) (ap (λ q. form_of q (record { 0 = a })) k)
      (form_is S h a i e))
      (λ z q. subst (λ z. Looks {S = S} p (form_told roots (Own class ∷ []) z) h) (sym q)
      (told_is b f (own_is a (record { rec = i; here = e; kind = k }) n))))

pub instance_law : (S : Type 0) (rules : Rules) → InstanceLaw S rules
unfolding function_row later_row isinstance_row
instance_law S rules = record {
  object = λ h roots c x order r i at e. object_is S rules h order roots c r at x i e;
  own = λ h roots a c i order r e k at n. instance_is S rules h order roots c r at a i e k n;
}
