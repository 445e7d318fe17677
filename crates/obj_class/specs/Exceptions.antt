-- The instance that an exception makes. States `docs/LANGUAGE.md`, "Exceptions".
use Rattle.std.specs.Prelude.{◌≡◌, ℕ, Bool, true, cond, leb, codes, List, [], ◌∷◌, length, Some}
use Rattle.py_base.specs.declared.kind.Kind.TheVariants.{Str, Tuple, Dict, Instance}
use Rattle.py_base.specs.Numbers.{class_number}
use Rattle.py_data.specs.declared.value.Value.{Value}
use Rattle.py_data.specs.declared.record.Fault.{Fault}
use Rattle.py_data.specs.declared.record.With.{With}
use Rattle.py_data.specs.declared.record.With.TheVariants.{Nothing, Text, Held}
use Rattle.py_data.specs.declared.record.TheConstants.{LENGTH_LIMIT}
use Rattle.py_data.specs.Fault.{memory_fault}
use Rattle.py_data.specs.Heap.{Heap, Rec, value_at, new_rec}
use Rattle.py_data.specs.Row.{Row, Ret, Do, Make, bind}
use Rattle.py_data.specs.Looking.{look_row}
use Rattle.obj_class.specs.Bases.{ref}
use Rattle.obj_class.specs.Roots.{class_place}

-- a text is no longer than a record may be
abbrev pub is_tellable : With → Bool
is_tellable (Text t) = leb (length t) LENGTH_LIMIT
is_tellable _ = true

-- the exception that is raised: MemoryError in the place of one whose text is too long
abbrev pub raised : Fault → Fault
raised e = cond (is_tellable e.with) e memory_fault

-- ---- what is made

-- the arguments of an exception: none, a string, or the value in hand
abbrev pub IsToldIn : Heap → With → List Value → Type 0
IsToldIn h Nothing args = args ≡ []
IsToldIn h (Text t) args = (a : ℕ) × (args ≡ ref a ∷ []) × (h a ≡ Some (new_rec Str [] t))
IsToldIn h (Held x) args = args ≡ x ∷ []

-- An instance of this class, whose one attribute `args` is a Tuple of what the exception is told with.
pub record IsException (h : Heap) (class : Value) (w : With) (x : Value) : Type 0 where
  pub instance : ℕ
  pub is : x ≡ ref instance
  pub dict : ℕ
  pub of : h instance ≡ Some (new_rec Instance (class ∷ ref dict ∷ []) [])
  pub key : ℕ
  pub tuple : ℕ
  pub has : h dict ≡ Some (new_rec Dict (ref key ∷ ref tuple ∷ []) [])
  pub named : h key ≡ Some (new_rec Str [] (codes "args"))
  pub args : List Value
  pub holds : h tuple ≡ Some (new_rec Tuple args [])
  pub told : IsToldIn h w args

-- a value is what an exception makes, where these are the roots
abbrev pub IsRaised : List Value → Fault → Value → Heap → Type 0
IsRaised vs e x h = IsException h (value_at vs (class_place (raised e).exc)) (raised e).with x

-- ---- the rows: parts are made first, in the order of the values that they are

unfoldable pub made_row : {S : Type 0} → Rec → Row S Value
made_row r = Do (Make r) (λ a. Ret (ref a))

-- the Dict of one pair, and the instance
unfoldable pub dict_of_args : {S : Type 0} → Value → Value → Value → Row S Value
dict_of_args class key tuple = bind (made_row (new_rec Dict (key ∷ tuple ∷ []) []))
    (λ dict. made_row (new_rec Instance (class ∷ dict ∷ []) []))

unfoldable pub args_row : {S : Type 0} → Value → Value → List Value → Row S Value
args_row class key args = bind (made_row (new_rec Tuple args [])) (λ tuple. dict_of_args class key tuple)

unfoldable pub told_row : {S : Type 0} → With → Row S (List Value)
told_row Nothing = Ret []
told_row (Text t) = bind (made_row (new_rec Str [] t)) (λ a. Ret (a ∷ []))
told_row (Held x) = Ret (x ∷ [])

unfoldable pub keyed_row : {S : Type 0} → Value → With → Value → Row S Value
keyed_row class w key = bind (told_row w) (λ args. args_row class key args)

-- an instance of a class
unfoldable pub exception_row : {S : Type 0} → Value → With → Row S Value
exception_row class w = bind (made_row (new_rec Str [] (codes "args"))) (λ key. keyed_row class w key)

-- of the class of a number
unfoldable pub numbered_row : {S : Type 0} → ℕ → ℕ → With → Row S Value
numbered_row roots n w = bind (look_row roots (class_place n)) (λ class. exception_row class w)

-- the length of the text is asked for before anything is made
unfoldable pub fault_row : {S : Type 0} → ℕ → Fault → Row S Value
fault_row roots e = cond (is_tellable e.with) (numbered_row roots e.exc e.with)
    (numbered_row roots (class_number (codes "MemoryError")) Nothing)
