-- What calls of builtins answer and raise, and how their arguments are told apart. States `docs/LANGUAGE.md`, "Locks
-- and threads".
use Rattle.std.specs.Prelude.{ℕ, ◌==◌, Bool, true, false, ◌||◌, ◌&&◌, codes, List, [], ◌∷◌, length}
use Rattle.py_base.specs.declared.kind.Kind.{Kind}
use Rattle.py_base.specs.Numbers.{class_number}
use Rattle.py_data.specs.declared.value.Value.{Value}
use Rattle.py_data.specs.declared.value.Value.TheVariants.{None as NoneValue, Bool as BoolValue}
use Rattle.py_data.specs.declared.record.Fault.{Fault}
use Rattle.py_data.specs.declared.record.Got.{Got}
use Rattle.py_data.specs.declared.record.Got.TheVariants.{Is}
use Rattle.py_data.specs.Fault.{text_fault}
use Rattle.obj_class.specs.Named.{methods_of}
use Rattle.obj_threads.specs.declared.answer.Answer.{Answer}
use Rattle.obj_threads.specs.declared.answer.Answer.TheVariants.{Value as ValueAnswer}

-- a value as an answer
abbrev pub answered : Value → Got Answer
answered x = Is (ValueAnswer x)

-- ---- exceptions

abbrev pub thread_fault : List ℕ → Fault
thread_fault text = text_fault (class_number (codes "thread.error")) text

abbrev pub runtime_fault : List ℕ → Fault
runtime_fault text = text_fault (class_number (codes "RuntimeError")) text

-- the value can't be called
abbrev pub callable_fault : Fault
callable_fault = text_fault (class_number (codes "TypeError")) (codes "not callable")

-- ---- arguments

-- neither arguments nor keywords
abbrev pub is_bare : List Value → List Value → Bool
is_bare args keys = (length args == 0) && (length keys == 0)

-- the truth value True
abbrev pub is_set : Value → Bool
is_set (BoolValue b) = b
is_set _ = false

abbrev pub is_none : Value → Bool
is_none NoneValue = true
is_none _ = false

-- ---- numbers

-- a number stands in a table of numbers and names
abbrev pub is_among : List (ℕ × List ℕ) → ℕ → Bool
is_among [] b = false
is_among (e ∷ es) b = (b == e.0) || is_among es b

-- the number of a method of a kind
abbrev pub is_method_of : Kind → ℕ → Bool
is_method_of k b = is_among (methods_of k) b
