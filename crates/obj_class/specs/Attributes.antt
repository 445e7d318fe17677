-- What the attribute of a value is: an instance's own first, then the nearest class's. States `docs/LANGUAGE.md`,
-- "Attributes".
use Rattle.std.specs.Prelude.{◌≡◌, ℕ, zero, suc, ◌+◌, ◌*◌, ◌<◌, cond, codes, List, [], ◌++◌, Option, Some, None, option_map}
use Rattle.py_base.specs.declared.kind.Kind.{Kind}
use Rattle.py_base.specs.declared.kind.Kind.TheVariants.{Function, Class, Instance}
use Rattle.py_base.specs.Numbers.{class_number}
use Rattle.py_data.specs.declared.value.Addr.{Addr}
use Rattle.py_data.specs.declared.value.Value.{Value}
use Rattle.py_data.specs.declared.value.Value.TheVariants.{Ref, Builtin}
use Rattle.py_data.specs.declared.record.Fault.{Fault}
use Rattle.py_data.specs.Closed.{base_of}
use Rattle.py_data.specs.Fault.{text_fault}
use Rattle.py_data.specs.Heap.{Heap, Rec, value_at}
use Rattle.py_data.specs.Shape.{find}
use Rattle.obj_class.specs.declared.lookup.Found.{Found}
use Rattle.obj_class.specs.declared.lookup.Found.TheVariants.{Plain, Bound}
use Rattle.obj_class.specs.Bases.{ref, MOST_BASES, up}
use Rattle.obj_class.specs.Roots.{root_class}
use Rattle.obj_class.specs.Named.{method_of, member_of, is_error}

-- there is no attribute of this name
abbrev pub attribute_fault : List ℕ → Fault
attribute_fault name = text_fault (class_number (codes "AttributeError")) (codes "no attribute '" ++ name ++ codes "'")

-- ---- dictionaries

abbrev pub values_in : Option Rec → List Value
values_in None = []
values_in (Some r) = r.values

abbrev pub bytes_in : Option Rec → List ℕ
bytes_in None = []
bytes_in (Some r) = r.bytes

-- the value of the pair of this number
abbrev pub of_pair : List Value → Option ℕ → Option Value
of_pair vs None = None
of_pair vs (Some i) = Some (value_at vs (2 * i + 1))

-- what a dictionary has for a key
abbrev pub kept : Heap → Value → Value → Option Value
kept h (Ref d) key = of_pair (values_in (h d.0)) (find h (values_in (h d.0)) key)
kept h _ key = None

-- what a class itself has for a key
abbrev pub kept_by : Heap → Value → Value → Option Value
kept_by h key (Ref c) = kept h (value_at (values_in (h c.0)) 2) key
kept_by h key _ = None

-- ---- classes

-- the first, if there is one
abbrev pub nearer : Option Value → Option Value → Option Value
nearer (Some x) o = Some x
nearer None o = o

-- what the nearest of a class and its bases has that has anything, of at most so many classes on the way
unfoldable pub inherited : Heap → Value → ℕ → Value → Option Value
inherited h key zero v = None
inherited h key (suc n) (Ref c) = nearer (kept_by h key (Ref c)) (inherited h key n (base_of (h c.0)))
inherited h key (suc n) _ = None

-- in the subject's words: some steps along bases lead to a class that has it, and fewer steps to none that has anything
abbrev pub IsNearest : Heap → Value → Value → Value → Type 0
IsNearest h key v x = (k : ℕ) × (kept_by h key (up h k v) ≡ Some x) ×
    ((j : ℕ) → j < k → kept_by h key (up h j v) ≡ None)

-- ---- what is found

-- what a class has is to be called with the instance in front, if it is a function
abbrev pub bound_of : Value → Kind → Found
bound_of f Function = Bound f
bound_of f _ = Plain f

abbrev pub bound_in : Value → Option Rec → Found
bound_in f None = Plain f
bound_in f (Some r) = bound_of f r.kind

abbrev pub bound : Heap → Value → Found
bound h (Ref f) = bound_in (Ref f) (h f.0)
bound h x = Plain x

-- an instance's own comes before its class's
abbrev pub own_first : Option Value → Option Found → Option Found
own_first (Some x) o = Some (Plain x)
own_first None o = o

abbrev pub of_instance : Heap → List Value → Value → Option Found
of_instance h vs key = own_first (kept h (value_at vs 1) key)
    (option_map (bound h) (inherited h key MOST_BASES (value_at vs 0)))

-- a class gives what it finds as it is
abbrev pub of_class : Heap → Value → Value → Option Found
of_class h c key = option_map Plain (inherited h key MOST_BASES c)

-- a builtin method is to be called with its object in front
abbrev pub of_methods : Kind → List ℕ → Option Found
of_methods k name = option_map (λ b. Bound (Builtin b)) (method_of k name)

-- of a module
abbrev pub of_builtin : List Value → ℕ → List ℕ → Option Found
of_builtin vs b name = cond (is_error b name) (Some (Plain (root_class vs (codes "thread.error"))))
    (option_map (λ n. Plain (Builtin n)) (member_of b name))

abbrev pub of_kind : Heap → Value → ℕ → List Value → Kind → Option Found
of_kind h x name vs Instance = of_instance h vs (ref name)
of_kind h x name vs Class = of_class h x (ref name)
of_kind h x name vs k = of_methods k (bytes_in (h name))

abbrev pub of_record : Heap → Value → ℕ → Option Rec → Option Found
of_record h x name None = None
of_record h x name (Some r) = of_kind h x name r.values r.kind

-- The attribute of a value, by the addresses of the list of roots and of the name; none, where there is none.
abbrev pub attribute : Heap → ℕ → Value → ℕ → Option Found
attribute h roots (Ref a) name = of_record h (Ref a) name (h a.0)
attribute h roots (Builtin b) name = of_builtin (values_in (h roots)) b (bytes_in (h name))
attribute h roots _ name = None

-- ---- what a value has itself

-- the address in a value
abbrev pub address_in : Value → Option Addr
address_in (Ref d) = Some d
address_in _ = None

abbrev pub dict_of_kind : List Value → Kind → Option Addr
dict_of_kind vs Instance = address_in (value_at vs 1)
dict_of_kind vs Class = address_in (value_at vs 2)
dict_of_kind vs _ = None

abbrev pub dict_of_record : Option Rec → Option Addr
dict_of_record None = None
dict_of_record (Some r) = dict_of_kind r.values r.kind

-- the dictionary of the attributes that a value has itself: an instance and a class have one
abbrev pub own_dict : Heap → Value → Option Addr
own_dict h (Ref a) = dict_of_record (h a.0)
own_dict h _ = None
