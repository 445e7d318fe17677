-- To say what a value is to a builtin function takes looks alone, and says what stands there.
use Rattle.std.proofs.Common.{◌≡◌, ℕ, Some, List, [], ◌∷◌, sym, ap, subst, zero, suc}
use Rattle.py_base.specs.declared.kind.Kind.{Kind}
use Rattle.py_base.specs.declared.kind.Kind.TheVariants.{Str, Tuple, List as ListKind, Dict, Class, Instance}
use Rattle.py_data.specs.declared.value.Addr.{Addr}
use Rattle.py_data.specs.declared.value.Value.{Value}
use Rattle.py_data.specs.declared.value.Value.TheVariants.{Unset, None as NoneValue, Bool as BoolValue, Int, Ref, Builtin}
use Rattle.py_data.specs.declared.record.Got.{Got}
use Rattle.py_data.specs.Answers.{IsAnswer}
use Rattle.py_data.specs.Closed.{Refers}
use Rattle.py_data.specs.Every.{Every}
use Rattle.py_data.specs.Heap.{Rec, Heap, value_at}
use Rattle.py_data.specs.Holds.{Holds}
use Rattle.py_data.specs.Looking.{Looks, kind_row}
use Rattle.py_data.specs.Order.{Rules}
use Rattle.py_data.specs.Row.{Row, Ret}
use Rattle.py_data.specs.Shape.{KindIn}
use Rattle.py_data.proofs.Holding.{holds_weaken}
use Rattle.py_data.proofs.Looking.{looks_ret, looks_then, looks_held, kind_looks, some_of}
use Rattle.obj_class.specs.Bases.{ref}
use Rattle.obj_ops.proofs.OperandsHold.{kind_here}
use Rattle.obj_builtins.specs.declared.arguments.Form.{Form}
use Rattle.obj_builtins.specs.declared.arguments.Form.TheVariants.{Number, Truth, Text, Items, Class as ClassForm, Object, Named, Other}
use Rattle.obj_builtins.specs.Arguments.{form_of, form_at, form_row}

-- a record of the form's kind stands at its address
unfoldable pub IsForm : Heap → Form → Type 0
IsForm h (Text a) = KindIn (h a.0) (λ k. k ≡ Str)
IsForm h (Items a) = KindIn (h a.0) (λ k. k ≡ Tuple)
IsForm h (ClassForm a) = KindIn (h a.0) (λ k. k ≡ Class)
IsForm h (Object a) = KindIn (h a.0) (λ k. k ≡ Instance)
IsForm h _ = Unit {0}

form_good : (h : Heap) (k : Kind) (a : Addr) → KindIn (h a.0) (λ q. q ≡ k) → IsForm h (form_of k a)
unfolding IsForm
form_good h Str a i = i
form_good h Tuple a i = i
form_good h ListKind a i = tt
form_good h Dict a i = tt
form_good h Class a i = i
form_good h Instance a i = i
form_good h _ a i = tt

pub form_looks : (S : Type 0) (h : Heap) (x : Value) → Refers h x → Looks {S = S} (IsForm h) (form_row x) h
unfolding form_row form_at IsForm
form_looks S h (Ref a) i =
    let r = some_of (h a.0) i in
    looks_then (λ k. k ≡ r.0.kind) (IsForm h) (kind_row a.0) (λ k. Ret (form_of k a)) h (kind_looks S h a.0 r.0 r.1)
    (λ k e. looks_ret S (IsForm h) (form_of k a) h
    (form_good h k a (subst (λ z. KindIn (h a.0) (λ q. q ≡ z)) (sym e) (kind_here (h a.0) r.0 r.1))))
form_looks S h Unset i = looks_ret S (IsForm h) Other h tt
form_looks S h NoneValue i = looks_ret S (IsForm h) Other h tt
form_looks S h (BoolValue b) i = looks_ret S (IsForm h) (Truth b) h tt
form_looks S h (Int n) i = looks_ret S (IsForm h) (Number n) h tt
form_looks S h (Builtin b) i = looks_ret S (IsForm h) (Named b) h tt

-- ---- values at places, and records of a kind

pub refers_at : (h : Heap) (vs : List Value) (i : ℕ) → Every (Refers h) vs → Refers h (value_at vs i)
refers_at h [] i e = tt
refers_at h (v ∷ vs) zero e = e.0
refers_at h (v ∷ vs) (suc i) e = refers_at h vs i e.1

-- what only looks and answers well holds
pub answer_holds : {S : Type 0} (rules : Rules) (stands : Heap → S → Type 0) (row : Row S (Got Value)) (h : Heap) →
    Looks (λ g. IsAnswer g h) row h → Holds rules stands IsAnswer row h
answer_holds rules stands row h i = holds_weaken rules stands (λ g h1. (h1 ≡ h) × IsAnswer g h) IsAnswer
    (λ g h1 t. subst (λ z. IsAnswer g z) (sym t.0) t.1) row h (looks_held rules stands (λ g. IsAnswer g h) h row i)

-- what the record at an address is, by its kind
pub form_is : (S : Type 0) (h : Heap) (a : ℕ) (r : Rec) → h a ≡ Some r →
    Looks {S = S} (λ f. f ≡ form_of r.kind (record { 0 = a })) (form_row (ref a)) h
unfolding form_row form_at
form_is S h a r e =
    let p : Form → Type 0 = λ f. f ≡ form_of r.kind (record { 0 = a }) in
    looks_then (λ k. k ≡ r.kind) p (kind_row a) (λ k. Ret (form_of k (record { 0 = a }))) h (kind_looks S h a r e)
    (λ k q. looks_ret S p (form_of k (record { 0 = a })) h (ap (λ k. form_of k (record { 0 = a })) q))
