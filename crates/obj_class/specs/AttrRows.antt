-- The rows of attributes, look by look. States `docs/LANGUAGE.md`, "Attributes".
use Rattle.std.specs.Prelude.{ℕ, ◌+◌, ◌*◌, cond, codes, List, [], ◌∷◌, Option, Some, None, option_map, Result, Ok, Err}
use Rattle.py_base.specs.declared.kind.Kind.{Kind}
use Rattle.py_base.specs.declared.kind.Kind.TheVariants.{Class, Instance, Method}
use Rattle.py_base.specs.Numbers.{class_number}
use Rattle.py_data.specs.declared.value.Addr.{Addr}
use Rattle.py_data.specs.declared.value.Value.{Value}
use Rattle.py_data.specs.declared.value.Value.TheVariants.{Ref, Builtin}
use Rattle.py_data.specs.declared.record.Got.{Got}
use Rattle.py_data.specs.declared.record.Got.TheVariants.{Is, Raise}
use Rattle.py_data.specs.Heap.{value_at, new_rec}
use Rattle.py_data.specs.Row.{Row, Ret, Do, Read, Find, Make, bind}
use Rattle.py_data.specs.Looking.{look_row, bytes_row, walk_row, kind_row}
use Rattle.obj_dict.specs.Dict.{set_row, del_row}
use Rattle.obj_class.specs.declared.lookup.Found.{Found}
use Rattle.obj_class.specs.declared.lookup.Found.TheVariants.{Plain, Bound}
use Rattle.obj_class.specs.Bases.{ref, MOST_BASES}
use Rattle.obj_class.specs.Roots.{class_place}
use Rattle.obj_class.specs.Named.{member_of, is_error}
use Rattle.obj_class.specs.Attributes.{address_in, attribute_fault, bound_of, of_methods}

-- ---- dictionaries

-- the value of the pair of this number
unfoldable pub pair_row : {S : Type 0} → ℕ → Option ℕ → Row S (Option Value)
pair_row d None = Ret None
pair_row d (Some i) = Do (Read d) (λ r. Ret (Some (value_at r.values (2 * i + 1))))

-- what a dictionary has for a key
unfoldable pub held_row : {S : Type 0} → ℕ → Value → Row S (Option Value)
held_row d key = Do (Find d key) (pair_row d)

unfoldable pub kept_row : {S : Type 0} → Value → Value → Row S (Option Value)
kept_row (Ref d) key = held_row d.0 key
kept_row _ key = Ret None

-- what the dictionary at this place of a record has for a key
unfoldable pub own_row : {S : Type 0} → ℕ → ℕ → Value → Row S (Option Value)
own_row a i key = bind (look_row a i) (λ d. kept_row d key)

-- ---- classes

-- one turn at a class: what it has, or its base is the next
unfoldable pub next_class : {S : Type 0} → ℕ → Option Value → Row S (Result Value (Option Value))
next_class c (Some x) = Ret (Err (Some x))
next_class c None = bind (look_row c 1) (λ b. Ret (Ok b))

unfoldable pub class_step : {S : Type 0} → Value → ℕ → Row S (Result Value (Option Value))
class_step key c = bind (own_row c 2 key) (λ o. next_class c o)

unfoldable pub heir_step : {S : Type 0} → Value → Value → Row S (Result Value (Option Value))
heir_step key (Ref c) = class_step key c.0
heir_step key _ = Ret (Err None)

-- what the nearest of a class and its bases has
unfoldable pub inherited_row : {S : Type 0} → Value → Value → Row S (Option Value)
inherited_row key c = walk_row (heir_step key) None MOST_BASES c

-- ---- what is found

-- of what a class has for an instance, whether it is a function
unfoldable pub bound_row : {S : Type 0} → Value → Row S (Option Found)
bound_row (Ref f) = bind (kind_row f.0) (λ k. Ret (Some (bound_of (Ref f) k)))
bound_row x = Ret (Some (Plain x))

unfoldable pub if_found : {S : Type 0} → Option Value → Row S (Option Found)
if_found None = Ret None
if_found (Some x) = bound_row x

unfoldable pub from_class : {S : Type 0} → Value → Value → Row S (Option Found)
from_class key c = bind (inherited_row key c) (λ o. if_found o)

-- an instance's own comes before its class's
unfoldable pub own_or_class : {S : Type 0} → ℕ → Value → Option Value → Row S (Option Found)
own_or_class a key (Some x) = Ret (Some (Plain x))
own_or_class a key None = bind (look_row a 0) (λ c. from_class key c)

unfoldable pub instance_row : {S : Type 0} → ℕ → Value → Row S (Option Found)
instance_row a key = bind (own_row a 1 key) (λ o. own_or_class a key o)

unfoldable pub class_row : {S : Type 0} → Value → Value → Row S (Option Found)
class_row c key = bind (inherited_row key c) (λ o. Ret (option_map Plain o))

unfoldable pub methods_row : {S : Type 0} → Kind → ℕ → Row S (Option Found)
methods_row k name = bind (bytes_row name) (λ t. Ret (of_methods k t))

unfoldable pub error_row : {S : Type 0} → ℕ → Row S (Option Found)
error_row roots = bind (look_row roots (class_place (class_number (codes "thread.error")))) (λ c. Ret (Some (Plain c)))

unfoldable pub member_row : {S : Type 0} → ℕ → ℕ → List ℕ → Row S (Option Found)
member_row roots b t = cond (is_error b t) (error_row roots) (Ret (option_map (λ n. Plain (Builtin n)) (member_of b t)))

unfoldable pub builtin_row : {S : Type 0} → ℕ → ℕ → ℕ → Row S (Option Found)
builtin_row roots b name = bind (bytes_row name) (λ t. member_row roots b t)

unfoldable pub found_by : {S : Type 0} → Addr → ℕ → Kind → Row S (Option Found)
found_by a name Instance = instance_row a.0 (ref name)
found_by a name Class = class_row (Ref a) (ref name)
found_by a name k = methods_row k name

-- The attribute of a value, by the addresses of the list of roots and of the name. This row only looks.
unfoldable pub find_attr_row : {S : Type 0} → ℕ → Value → ℕ → Row S (Option Found)
find_attr_row roots (Ref a) name = bind (kind_row a.0) (λ k. found_by a name k)
find_attr_row roots (Builtin b) name = builtin_row roots b name
find_attr_row roots _ name = Ret None

-- ---- attr

-- AttributeError with the name
unfoldable pub missing_row : {S A : Type 0} → ℕ → Row S (Got A)
missing_row name = bind (bytes_row name) (λ t. Ret (Raise (attribute_fault t)))

-- a new Method of a function or a builtin, and its object
unfoldable pub method_row : {S : Type 0} → Value → Value → Row S (Got Value)
method_row f x = Do (Make (new_rec Method (f ∷ x ∷ []) [])) (λ a. Ret (Is (ref a)))

unfoldable pub given_row : {S : Type 0} → Value → ℕ → Option Found → Row S (Got Value)
given_row x name None = missing_row name
given_row x name (Some (Plain y)) = Ret (Is y)
given_row x name (Some (Bound f)) = method_row f x

unfoldable pub attr_row : {S : Type 0} → ℕ → Value → ℕ → Row S (Got Value)
attr_row roots x name = bind (find_attr_row roots x name) (λ o. given_row x name o)

-- ---- set and del

unfoldable pub dict_at : {S : Type 0} → ℕ → ℕ → Row S (Option Addr)
dict_at a i = bind (look_row a i) (λ d. Ret (address_in d))

-- the dictionary of a value's own attributes: an instance and a class have one
unfoldable pub dict_by : {S : Type 0} → ℕ → Kind → Row S (Option Addr)
dict_by a Instance = dict_at a 1
dict_by a Class = dict_at a 2
dict_by a _ = Ret None

unfoldable pub dict_row : {S : Type 0} → Value → Row S (Option Addr)
dict_row (Ref a) = bind (kind_row a.0) (λ k. dict_by a.0 k)
dict_row _ = Ret None

unfoldable pub set_in : {S : Type 0} → ℕ → Value → Option Addr → Row S (Got (Unit {0}))
set_in name y (Some d) = set_row d.0 (ref name) y
set_in name y None = missing_row name

unfoldable pub set_attr_row : {S : Type 0} → Value → ℕ → Value → Row S (Got (Unit {0}))
set_attr_row x name y = bind (dict_row x) (λ o. set_in name y o)

-- a name that can't be taken out isn't there
unfoldable pub gone_row : {S : Type 0} → ℕ → Got Value → Row S (Got (Unit {0}))
gone_row name (Is x) = Ret (Is tt)
gone_row name (Raise e) = missing_row name

unfoldable pub taken_row : {S : Type 0} → ℕ → ℕ → Row S (Got (Unit {0}))
taken_row name d = bind (del_row d (ref name)) (λ g. gone_row name g)

unfoldable pub del_in : {S : Type 0} → ℕ → Option Addr → Row S (Got (Unit {0}))
del_in name (Some d) = taken_row name d.0
del_in name None = missing_row name

unfoldable pub del_attr_row : {S : Type 0} → Value → ℕ → Row S (Got (Unit {0}))
del_attr_row x name = bind (dict_row x) (λ o. del_in name o)
