-- Over each heap in order the calls of builtins of `thread` and `threading` hold; and no record is longer in their
-- course than before or at the end. States `docs/LANGUAGE.md`, "Locks and threads", and `docs/HEAP.md`, "Rows that
-- hold".
use Rattle.std.specs.Prelude.{◌≡◌, ◌⊎◌, ℕ, true, false, List, Option, Some, IfSome}
use Rattle.py_base.specs.declared.kind.Kind.TheVariants.{Tuple, Function, Method, Thread}
use Rattle.py_data.specs.declared.value.Value.{Value}
use Rattle.py_data.specs.declared.value.Value.TheVariants.{None as NoneValue, Ref}
use Rattle.py_data.specs.Answers.{IsGot}
use Rattle.py_data.specs.Closed.{Refers, IsItem}
use Rattle.py_data.specs.Every.{Every}
use Rattle.py_data.specs.Heap.{Heap, Rec, value_at}
use Rattle.py_data.specs.Holds.{Holds}
use Rattle.py_data.specs.Order.{Rules, IsOrdered}
use Rattle.py_data.specs.Shape.{RefTo}
use Rattle.py_data.specs.Steady.{Steady}
use Rattle.obj_class.specs.Bases.{ref}
use Rattle.obj_class.specs.Roots.{IsRoots}
use Rattle.obj_threads.specs.declared.answer.Answer.{Answer}
use Rattle.obj_threads.specs.declared.answer.Answer.TheVariants.{Value as ValueAnswer, Waits, Start}
use Rattle.obj_threads.specs.Starting.{has_room, thread_count}
use Rattle.obj_threads.specs.Threads.{thread_call_row}

-- a method of a function
pub record IsBoundFunction (h : Heap) (f : Value) : Type 0 where
  pub address : ℕ
  pub is : f ≡ ref address
  pub method : Rec
  pub here : h address ≡ Some method
  pub kind : method.kind ≡ Method
  pub function : RefTo h Function (value_at method.values 0)

-- what a thread can call: a function, or a method of one
abbrev pub IsTarget : Heap → Value → Type 0
IsTarget h f = RefTo h Function f ⊎ IsBoundFunction h f

-- a thread that isn't started
pub record IsUnstarted (h : Heap) (a : ℕ) : Type 0 where
  pub thread : Rec
  pub here : h a ≡ Some thread
  pub kind : thread.kind ≡ Thread
  pub number : value_at thread.values 2 ≡ NoneValue

-- What the call of a builtin answers, where these are the roots: an item; that it waits; or that a thread is to be
-- started, for which there is room.
abbrev pub IsCalled : ℕ → Answer → Heap → Type 0
IsCalled roots (ValueAnswer x) h = IsItem h x
IsCalled roots Waits h = Unit {0}
IsCalled roots (Start f t thread) h = IsItem h f × IsTarget h f × RefTo h Tuple (Ref t) × IfSome thread
    (λ a. IsUnstarted h a.0) × (has_room (thread_count h roots) ≡ true)

pub record ThreadsHold {S : Type 0} (rules : Rules) (stands : Heap → S → Type 0) : Type 0 where
  pub call : (h : Heap) (roots : ℕ) (me : Option ℕ) (b : ℕ) (own : Value) (args keys : List Value) → IsOrdered rules h
      → IsRoots h roots → Refers h own → Every (IsItem h) args → Every (IsItem h) keys
      → Holds rules stands (IsGot (IsCalled roots)) (thread_call_row roots me b own args keys) h

pub record ThreadsSteady (S : Type 0) : Type 0 where
  pub call : (roots : ℕ) (me : Option ℕ) (b : ℕ) (own : Value) (args keys : List Value) →
      Steady {S = S} false (thread_call_row roots me b own args keys)
