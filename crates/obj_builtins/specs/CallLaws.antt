-- Over each heap in order the call of any builtin holds; in its course no record is longer than before or at the end;
-- and a call that waits, or that lets a thread start, has done nothing but look. States `docs/LANGUAGE.md`, "Builtins"
-- and "Locks and threads", and `docs/HEAP.md`, "Rows that hold".
use Rattle.std.specs.Prelude.{ℕ, false, List, Option}
use Rattle.py_data.specs.declared.value.Value.{Value}
use Rattle.py_data.specs.Answers.{IsGot}
use Rattle.py_data.specs.Closed.{Refers, IsItem}
use Rattle.py_data.specs.Every.{Every}
use Rattle.py_data.specs.Heap.{Heap}
use Rattle.py_data.specs.Holds.{Holds}
use Rattle.py_data.specs.Order.{Rules, IsOrdered}
use Rattle.py_data.specs.Steady.{Steady}
use Rattle.obj_class.specs.Roots.{IsRoots}
use Rattle.obj_threads.specs.HoldsLaws.{IsCalled}
use Rattle.obj_threads.specs.Quiet.{IsGotPending, BehindLooks}
use Rattle.obj_builtins.specs.Calls.{call_row}

-- with the list of roots, an object that is there, and items for arguments and keywords
pub record CallHolds {S : Type 0} (rules : Rules) (stands : Heap → S → Type 0) : Type 0 where
  pub call : (h : Heap) (roots : ℕ) (me : Option ℕ) (b : ℕ) (own : Value) (args keys : List Value) → IsOrdered rules h
      → IsRoots h roots → Refers h own → Every (IsItem h) args → Every (IsItem h) keys
      → Holds rules stands (IsGot (IsCalled roots)) (call_row roots me b own args keys) h

pub record CallSteady (S : Type 0) : Type 0 where
  pub call : (roots : ℕ) (me : Option ℕ) (b : ℕ) (own : Value) (args keys : List Value) →
      Steady {S = S} false (call_row roots me b own args keys)

pub record CallQuiet (S : Type 0) : Type 0 where
  pub pending : (roots : ℕ) (me : Option ℕ) (b : ℕ) (own : Value) (args keys : List Value) →
      BehindLooks {S = S} IsGotPending (call_row roots me b own args keys)
