-- Over each heap in order the operations on classes, attributes and exceptions hold; and no record is longer in their
-- course than before or at the end. States `docs/LANGUAGE.md`, "Classes and instances", "Attributes", "Exceptions" and
-- "Texts of exceptions", and `docs/HEAP.md`, "Rows that hold".
use Rattle.std.specs.Prelude.{◌≡◌, ℕ, pos, Bool, List, [], ◌∷◌, Option, Some, None, false}
use Rattle.py_base.specs.declared.kind.Kind.TheVariants.{Str, Class, Method}
use Rattle.py_data.specs.declared.value.Value.{Value}
use Rattle.py_data.specs.declared.value.Value.TheVariants.{Int}
use Rattle.py_data.specs.declared.record.Fault.{Fault}
use Rattle.py_data.specs.declared.record.Got.{Got}
use Rattle.py_data.specs.declared.record.Got.TheVariants.{Is, Raise}
use Rattle.py_data.specs.Answers.{IsAnswer, IsDone, IsFault}
use Rattle.py_data.specs.Closed.{IsItem}
use Rattle.py_data.specs.Heap.{Heap, new_rec}
use Rattle.py_data.specs.Holds.{Holds}
use Rattle.py_data.specs.Looking.{Looks}
use Rattle.py_data.specs.Order.{Rules, IsOrdered}
use Rattle.py_data.specs.Shape.{RefTo}
use Rattle.py_data.specs.Steady.{Steady, Calm}
use Rattle.obj_class.specs.declared.lookup.Found.{Found}
use Rattle.obj_class.specs.declared.lookup.Found.TheVariants.{Plain, Bound}
use Rattle.obj_class.specs.Attributes.{attribute, attribute_fault, bytes_in}
use Rattle.obj_class.specs.AttrRows.{find_attr_row, attr_row, set_attr_row, del_attr_row}
use Rattle.obj_class.specs.Bases.{ref, MOST_BASES, is_below, is_sub_row}
use Rattle.obj_class.specs.Exceptions.{IsRaised, fault_row}
use Rattle.obj_class.specs.NewRoots.{roots_row}
use Rattle.obj_class.specs.Roots.{IsRoots}
use Rattle.obj_class.specs.Telling.{text_of, told_row}

-- what `attr` answers of what was found: the value as it is, a new Method with the object, or AttributeError with the
-- name
abbrev pub IsGiven : Value → List ℕ → Option Found → Got Value → Heap → Type 0
IsGiven x name None z h = z ≡ Raise (attribute_fault name)
IsGiven x name (Some (Plain y)) z h = z ≡ Is y
IsGiven x name (Some (Bound f)) z h = (a : ℕ) × (z ≡ Is (ref a)) × (h a ≡ Some (new_rec Method (f ∷ x ∷ []) []))

-- no Method is wanted
abbrev pub IsUnbound : Option Found → Type 0
IsUnbound (Some (Bound f)) = ⊥
IsUnbound o = Unit {0}

-- looks answer what is meant; the other operations answer an item, nothing, an exception, or what an exception makes
pub record ClassHolds {S : Type 0} (rules : Rules) (stands : Heap → S → Type 0) : Type 0 where
  pub is_sub : (h : Heap) (c base : ℕ) → IsOrdered rules h → RefTo h Class (ref c) →
      Looks {S = S} (λ z. z ≡ is_below h base MOST_BASES (ref c)) (is_sub_row c base) h
  pub find_attr : (h : Heap) (roots name : ℕ) (x : Value) → IsOrdered rules h → IsRoots h roots → IsItem h x →
      RefTo h Str (ref name) → Looks {S = S} (λ z. z ≡ attribute h roots x name) (find_attr_row roots x name) h
  pub attr : (h : Heap) (roots name : ℕ) (x : Value) → IsOrdered rules h → IsRoots h roots → IsItem h x →
      RefTo h Str (ref name) → Holds rules stands IsAnswer (attr_row roots x name) h
  pub given : (h : Heap) (roots name : ℕ) (x : Value) → IsOrdered rules h → IsRoots h roots → IsItem h x →
      RefTo h Str (ref name)
      → Holds rules stands (IsGiven x (bytes_in (h name)) (attribute h roots x name)) (attr_row roots x name) h
  -- and only looks, where it makes no Method
  pub unbound : (h : Heap) (roots name : ℕ) (x : Value) → IsOrdered rules h → IsRoots h roots → IsItem h x →
      RefTo h Str (ref name) → IsUnbound (attribute h roots x name)
      → Looks {S = S} (λ z. IsGiven x (bytes_in (h name)) (attribute h roots x name) z h) (attr_row roots x name) h
  pub set_attr : (h : Heap) (name : ℕ) (x y : Value) → IsOrdered rules h → IsItem h x → RefTo h Str (ref name) →
      IsItem h y → Holds rules stands IsDone (set_attr_row x name y) h
  pub del_attr : (h : Heap) (name : ℕ) (x : Value) → IsOrdered rules h → IsItem h x → RefTo h Str (ref name) →
      Holds rules stands IsDone (del_attr_row x name) h
  pub make_fault : (h : Heap) (roots : ℕ) (e : Fault) → IsOrdered rules h → (r : IsRoots h roots) → IsFault h e →
      Holds rules stands (IsRaised r.list.values e) (fault_row roots e) h
  -- where the client lets the count of threads be 1 in each Cell
  pub make_roots : (h : Heap) → IsOrdered rules h → ((a : ℕ) → rules.cell a (Int (pos 1))) →
      Holds rules stands (λ a h1. IsRoots h1 a.0) (roots_row {S = S}) h
  pub text : (h : Heap) (roots : ℕ) (x : Value) (quoted : Bool) → IsOrdered rules h → IsRoots h roots → IsItem h x →
      Looks {S = S} (λ z. z ≡ text_of h roots x quoted) (told_row roots x quoted) h

pub record ClassSteady (S : Type 0) : Type 0 where
  pub is_sub : (c base : ℕ) → Steady {S = S} false (is_sub_row c base)
  pub find_attr : (roots name : ℕ) (x : Value) → Steady {S = S} false (find_attr_row roots x name)
  pub attr : (roots name : ℕ) (x : Value) → Steady {S = S} false (attr_row roots x name)
  pub set_attr : (name : ℕ) (x y : Value) → Steady {S = S} false (set_attr_row x name y)
  pub del_attr : (name : ℕ) (x : Value) → Steady {S = S} false (del_attr_row x name)
  pub make_fault : (roots : ℕ) (e : Fault) → Steady {S = S} false (fault_row roots e)
  -- these make nothing shorter
  pub make_roots : Calm {S = S} roots_row
  pub text : (roots : ℕ) (x : Value) (quoted : Bool) → Calm {S = S} (told_row roots x quoted)
