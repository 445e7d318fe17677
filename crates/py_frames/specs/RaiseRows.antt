-- The rows that raise exceptions and match them. States `docs/LANGUAGE.md`, "Instructions", "Exceptions" and "Raising
-- again".
use Rattle.std.specs.Prelude.{ℕ, Bool, true, false, not, List, [], ◌∷◌}
use Rattle.py_base.specs.declared.kind.Kind.{Kind}
use Rattle.py_base.specs.declared.kind.Kind.TheVariants.{Tuple, Class, Instance}
use Rattle.py_data.specs.declared.value.Value.{Value}
use Rattle.py_data.specs.declared.value.Value.TheVariants.{None as NoneValue, Bool as BoolValue, Ref}
use Rattle.py_data.specs.Fault.{operand_fault}
use Rattle.py_data.specs.Looking.{look_row, size_row, until_row, kind_row}
use Rattle.py_data.specs.Row.{Row, Ret, bind}
use Rattle.obj_class.specs.Bases.{is_sub_row}
use Rattle.py_frames.specs.declared.next.Next.{Next}
use Rattle.py_frames.specs.declared.next.Next.TheVariants.{Goes, Throws}
use Rattle.py_frames.specs.Binding.{plainly}
use Rattle.py_frames.specs.ClassCalls.{Site, class_call, exception_class_row}
use Rattle.py_frames.specs.Raising.{place_in, values_row, raise_row, raised_fault}

-- ---- EXC_MATCH: whether a class catches an exception of the class e

-- the class c, if it is an exception class
unfoldable pub catches_if : {S : Type 0} → ℕ → ℕ → Bool → Row S Bool
catches_if e c true = is_sub_row e c
catches_if e c false = Ret false

unfoldable pub class_catches : {S : Type 0} → ℕ → ℕ → ℕ → Row S Bool
class_catches roots e c = bind (exception_class_row roots c) (λ b. catches_if e c b)

-- an item of a tuple
unfoldable pub item_by : {S : Type 0} → ℕ → ℕ → ℕ → Kind → Row S Bool
item_by roots e c Class = class_catches roots e c
item_by roots e c _ = Ret false

unfoldable pub item_catches : {S : Type 0} → ℕ → ℕ → Value → Row S Bool
item_catches roots e (Ref c) = bind (kind_row c.0) (λ k. item_by roots e c.0 k)
item_catches roots e _ = Ret false

unfoldable pub place_catches : {S : Type 0} → ℕ → ℕ → ℕ → ℕ → Row S Bool
place_catches roots e t i = bind (look_row t i) (λ x. item_catches roots e x)

unfoldable pub some_catches : {S : Type 0} → ℕ → ℕ → ℕ → ℕ → Row S Bool
some_catches roots e t n = until_row (place_catches roots e t) not false 0 n

unfoldable pub tuple_catches : {S : Type 0} → ℕ → ℕ → ℕ → Row S Bool
tuple_catches roots e t = bind (size_row t) (λ n. some_catches roots e t n)

unfoldable pub record_catches : {S : Type 0} → ℕ → ℕ → ℕ → Kind → Row S Bool
record_catches roots e c Class = class_catches roots e c
record_catches roots e c Tuple = tuple_catches roots e c
record_catches roots e c _ = Ret false

unfoldable pub catches_row : {S : Type 0} → ℕ → ℕ → Value → Row S Bool
catches_row roots e (Ref c) = bind (kind_row c.0) (λ k. record_catches roots e c.0 k)
catches_row roots e _ = Ret false

unfoldable pub told_match : {S : Type 0} → ℕ → Value → ℕ → Row S Next
told_match roots c e = bind (catches_row roots e c) (λ b. Ret (Goes (BoolValue b ∷ [])))

unfoldable pub class_match : {S : Type 0} → ℕ → Value → ℕ → Row S Next
class_match roots c a = bind (look_row a 0) (λ e. told_match roots c (place_in e))

unfoldable pub match_by : {S : Type 0} → ℕ → Value → ℕ → Kind → Row S Next
match_by roots c a Instance = class_match roots c a
match_by roots c a _ = raise_row roots operand_fault

unfoldable pub exc_match_row : {S : Type 0} → ℕ → Value → Value → Row S Next
exc_match_row roots (Ref a) c = bind (kind_row a.0) (λ k. match_by roots c a.0 k)
exc_match_row roots _ c = raise_row roots operand_fault

-- ---- RAISE

unfoldable pub raise_if : {S : Type 0} → ℕ → Value → Bool → Row S Next
raise_if roots x true = Ret (Throws x)
raise_if roots x false = raise_row roots raised_fault

unfoldable pub raise_of : {S : Type 0} → ℕ → Value → ℕ → Row S Next
raise_of roots x c = bind (exception_class_row roots c) (λ b. raise_if roots x b)

unfoldable pub raise_instance : {S : Type 0} → ℕ → ℕ → Row S Next
raise_instance roots a = bind (look_row a 0) (λ c. raise_of roots (Ref (record { 0 = a })) (place_in c))

unfoldable pub raise_by : {S : Type 0} → ℕ → ℕ → Kind → Row S Next
raise_by roots a Instance = raise_instance roots a
raise_by roots a _ = raise_row roots raised_fault

unfoldable pub raise_value : {S : Type 0} → ℕ → Value → Row S Next
raise_value roots (Ref a) = bind (kind_row a.0) (λ k. raise_by roots a.0 k)
raise_value roots _ = raise_row roots raised_fault

-- ---- MAKE_RAISED without a value

unfoldable pub call_if : {S : Type 0} → Site → ℕ → Bool → Row S Next
call_if s c true = class_call s (plainly []) c
call_if s c false = raise_row s.roots raised_fault

unfoldable pub class_raised : {S : Type 0} → Site → ℕ → Row S Next
class_raised s c = bind (exception_class_row s.roots c) (λ b. call_if s c b)

unfoldable pub alone_by : {S : Type 0} → Site → ℕ → Kind → Row S Next
alone_by s a Class = class_raised s a
alone_by s a Instance = Ret (Goes (Ref (record { 0 = a }) ∷ []))
alone_by s a _ = raise_row s.roots raised_fault

unfoldable pub made_alone : {S : Type 0} → Site → Value → Row S Next
made_alone s (Ref a) = bind (kind_row a.0) (λ k. alone_by s a.0 k)
made_alone s _ = raise_row s.roots raised_fault

-- ---- MAKE_RAISED of a class with a value, or of an instance with None

-- whether a value is an instance of the class e or of one below it
unfoldable pub below_row : {S : Type 0} → ℕ → ℕ → Row S Bool
below_row e a = bind (look_row a 0) (λ c. is_sub_row (place_in c) e)

unfoldable pub instance_by : {S : Type 0} → ℕ → ℕ → Kind → Row S Bool
instance_by e a Instance = below_row e a
instance_by e a _ = Ret false

unfoldable pub is_instance_row : {S : Type 0} → ℕ → Value → Row S Bool
is_instance_row e (Ref a) = bind (kind_row a.0) (λ k. instance_by e a.0 k)
is_instance_row e _ = Ret false

-- what the class is called with: nothing for None, a tuple's items, or the value
unfoldable pub items_by : {S : Type 0} → ℕ → Kind → Row S (List Value)
items_by a Tuple = values_row a
items_by a _ = Ret (Ref (record { 0 = a }) ∷ [])

unfoldable pub raised_args : {S : Type 0} → Value → Row S (List Value)
raised_args NoneValue = Ret []
raised_args (Ref a) = bind (kind_row a.0) (λ k. items_by a.0 k)
raised_args x = Ret (x ∷ [])

unfoldable pub called_with : {S : Type 0} → Site → ℕ → Value → Row S Next
called_with s c x = bind (raised_args x) (λ args. class_call s (plainly args) c)

unfoldable pub same_or_called : {S : Type 0} → Site → ℕ → Value → Bool → Row S Next
same_or_called s c x true = Ret (Goes (x ∷ []))
same_or_called s c x false = called_with s c x

unfoldable pub class_with : {S : Type 0} → Site → ℕ → Value → Row S Next
class_with s c x = bind (is_instance_row c x) (λ b. same_or_called s c x b)

unfoldable pub class_with_if : {S : Type 0} → Site → ℕ → Value → Bool → Row S Next
class_with_if s c x true = class_with s c x
class_with_if s c x false = raise_row s.roots raised_fault

unfoldable pub class_valued : {S : Type 0} → Site → ℕ → Value → Row S Next
class_valued s c x = bind (exception_class_row s.roots c) (λ b. class_with_if s c x b)

unfoldable pub instance_valued : {S : Type 0} → Site → ℕ → Value → Row S Next
instance_valued s a NoneValue = Ret (Goes (Ref (record { 0 = a }) ∷ []))
instance_valued s a _ = raise_row s.roots raised_fault

unfoldable pub valued_by : {S : Type 0} → Site → ℕ → Value → Kind → Row S Next
valued_by s a x Class = class_valued s a x
valued_by s a x Instance = instance_valued s a x
valued_by s a x _ = raise_row s.roots raised_fault

unfoldable pub made_valued : {S : Type 0} → Site → Value → Value → Row S Next
made_valued s (Ref a) x = bind (kind_row a.0) (λ k. valued_by s a.0 x k)
made_valued s _ x = raise_row s.roots raised_fault
