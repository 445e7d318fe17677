-- What code and proofs say to each other: nothing public rests on it. Instructions that go by a fast path: a part of
-- their row, and what it gives. States `docs/LANGUAGE.md`, "Instructions".
use Rattle.std.specs.Prelude.{◌≡◌, ℕ, ◌+◌, false, List, [], ◌∷◌, length, get_or, drop, Option, Some, None, option_map}
use Rattle.py_base.specs.declared.kind.Kind.{Kind}
use Rattle.py_data.specs.declared.change.Change.TheVariants as change
use Rattle.py_data.specs.declared.value.Value.{Value}
use Rattle.py_data.specs.declared.value.Value.TheVariants.{Unset, Ref, Builtin as BuiltinValue}
use Rattle.py_data.specs.declared.record.Got.{Got}
use Rattle.py_data.specs.Looking.{kind_row, look_row}
use Rattle.py_data.specs.Row.{Row, Ret, Do, Edit, bind}
use Rattle.py_code.specs.declared.program.Program.{Program}
use Rattle.lock_run.specs.declared.client.Outcome.{Outcome}
use Rattle.obj_builtins.specs.Calls.{call_row}
use Rattle.obj_class.specs.declared.lookup.Found.{Found}
use Rattle.obj_class.specs.declared.lookup.Found.TheVariants.{Plain, Bound}
use Rattle.obj_class.specs.AttrRows.{attr_row, set_attr_row}
use Rattle.obj_threads.specs.declared.answer.Answer.{Answer}
use Rattle.py_frames.specs.declared.next.Next.{Next}
use Rattle.py_frames.specs.declared.next.Next.TheVariants.{Goes, Jumps}
use Rattle.py_frames.specs.AttrInstrs.{attr_or_method, loaded_method, method_or_attr}
use Rattle.py_frames.specs.Binding.{Given, plainly, defaulted_row, numbered_row}
use Rattle.py_frames.specs.CallRows.{answered, record_call}
use Rattle.py_frames.specs.ClassCalls.{Site, entered_row}
use Rattle.py_frames.specs.Raising.{count_in, place_in, place_of}
use Rattle.py_frames.specs.State.{State, code_at, operands, settled}
use Rattle.py_frames.specs.Steps.{has_unset, site_of}
use Rattle.py_states.specs.Innermost.{innermost, settled_in}
use Rattle.py_step.specs.declared.calls.Callee.{Callee}
use Rattle.py_step.specs.declared.calls.Callee.TheVariants.{Record, Builtin}

-- how a step ends whose instruction takes n operands and leads to this
abbrev pub ending : Program → State → ℕ → Next → Row State (Outcome × State)
ending p s n next = Ret (settled p s n (innermost s.frames) (drop 1 s.frames) next)

-- what is left of such a step, where this is left of its instruction
abbrev pub ended : Program → State → ℕ → Row State Next → Row State (Outcome × State)
ended p s n row = bind row (ending p s n)

-- how a step ends whose one operand is an iterator: its next item is pushed on it, or that place follows
abbrev pub item_end : Program → State → ℕ → Option Value → Outcome × State
item_end p s t (Some x) = settled_in p s 0 (Goes (x ∷ [])) s.frames
item_end p s t None = settled_in p s 1 (Jumps t []) s.frames

-- what the cell of a global name holds, and a change of it
abbrev pub global_value : {S : Type 0} → ℕ → ℕ → Row S Value
global_value roots g = bind (look_row roots g) (λ c. look_row (place_in c) 0)

abbrev pub set_cell : {S : Type 0} → ℕ → Value → Row S (Unit {0})
set_cell a x = Do (Edit a (change.Set 0 x)) (λ u. Ret u)

abbrev pub set_global : {S : Type 0} → ℕ → ℕ → Value → Row S (Unit {0})
set_global roots g x = bind (look_row roots g) (λ c. set_cell (place_in c) x)

-- an attribute, and a change of one, by the number of its name among the roots
abbrev pub named_attr : {S : Type 0} → ℕ → ℕ → Value → Row S (Got Value)
named_attr roots n o = bind (look_row roots n) (λ name. attr_row roots o (place_in name))

abbrev pub set_named_attr : {S : Type 0} → ℕ → ℕ → Value → Value → Row S (Got (Unit {0}))
set_named_attr roots n x o = bind (look_row roots n) (λ name. set_attr_row o (place_in name) x)

-- ---- calls without keywords

-- the top n values are the arguments
abbrev pub arguments : State → ℕ → Given
arguments s n = plainly (operands n (innermost s.frames))

-- the number of a Function's code
abbrev pub code_row : {S : Type 0} → ℕ → Row S ℕ
code_row a = bind (look_row a 1) (λ x. Ret (count_in x))

-- what a builtin answers, of which the top m values are the arguments
abbrev pub builtin_row : {S : Type 0} → State → ℕ → Value → ℕ → Row S (Got Answer)
builtin_row s m own b =
    call_row (place_of s.roots) (option_map (λ a. a.0) s.thread) b own (operands m (innermost s.frames)) []

-- where the thread stands
abbrev pub site : Program → State → Site
site p s = site_of p s (drop 1 s.frames)

-- the call of a function of this code, with the defaults at that address
abbrev pub function_row : {S : Type 0} → Program → State → ℕ → ℕ → ℕ → Row S Next
function_row p s n c d = bind (defaulted_row p (arguments s n) c d) (λ x. entered_row (site p s) x)

module _ (p : Program) (s : State) where
  -- the step that calls a record which stands below n arguments, and the same once its kind is known
  abbrev pub called_as : ℕ → ℕ → Kind → Row State (Outcome × State)
  called_as n a k = ended p s (n + 1) (record_call (site p s) (arguments s n) a k)

  abbrev pub called : ℕ → ℕ → Row State (Outcome × State)
  called n a = bind (kind_row a) (λ k. called_as n a k)

  -- of a Function, once the number of its code is known, and then the place of its defaults
  abbrev pub called_code : ℕ → ℕ → ℕ → Row State (Outcome × State)
  called_code n a c = ended p s (n + 1) (bind (numbered_row p (arguments s n) a c) (λ x. entered_row (site p s) x))

  abbrev pub called_with : ℕ → ℕ → ℕ → Row State (Outcome × State)
  called_with n c d = ended p s (n + 1) (function_row p s n c d)

  -- the step that calls a builtin: it takes n operands, of which the top m are the arguments
  abbrev pub called_builtin : ℕ → ℕ → Value → ℕ → Row State (Outcome × State)
  called_builtin n m own b = bind (builtin_row s m own b) (λ g. ended p s n (answered (site p s) g))

-- ---- what is called

abbrev pub value_of : Callee → Value
value_of (Record a) = Ref a
value_of (Builtin b) = BuiltinValue b

-- it stands below the top n values, which hold something, and no keyword of the list l is passed
pub record IsCallee (p : Program) (s : State) (n l : ℕ) (f : Callee) : Type 0 where
  pub keyless : get_or (code_at p (innermost s.frames).code).keys l [] ≡ []
  pub below : operands (n + 1) (innermost s.frames) ≡ value_of f ∷ operands n (innermost s.frames)
  pub set : has_unset (operands n (innermost s.frames)) ≡ false
  pub count : length (operands n (innermost s.frames)) ≡ n

-- ---- LOAD_METHOD

-- what was found: what is bound and its object, or any other attribute and nothing
abbrev pub found_values : Value → Found → List Value
found_values o (Plain x) = x ∷ Unset ∷ []
found_values o (Bound f) = f ∷ o ∷ []

-- the step, once the name is known
abbrev pub method_by : Program → State → Value → ℕ → Row State (Outcome × State)
method_by p s o name = ended p s 1 (loaded_method (place_of s.roots) o name)

-- the step of a name that is no builtin method, and of one of which it is known whether it is one
abbrev pub attr_method : Program → State → ℕ → Value → Row State (Outcome × State)
attr_method p s n o = ended p s 1 (attr_or_method (place_of s.roots) n o)

abbrev pub kind_method : Program → State → ℕ → Value → Option ℕ → Row State (Outcome × State)
kind_method p s n o b = ended p s 1 (method_or_attr (place_of s.roots) n o b)
