-- The texts of values, those of exceptions among them: what is meant, and the row, look by look.
-- States `docs/LANGUAGE.md`, "Texts of exceptions", and `docs/HEAP.md`, "Texts".
use Rattle.std.specs.Prelude.{ℕ, zero, suc, ◌+◌, ◌*◌, ◌/◌, ◌==◌, Bool, true, false, cond, codes, List, [], ◌∷◌, Option, Some, None}
use Rattle.std.specs.Str.{bytes_eq}
use Rattle.py_base.specs.declared.kind.Kind.{Kind}
use Rattle.py_base.specs.declared.kind.Kind.TheVariants.{Str, Tuple, Instance}
use Rattle.py_base.specs.Numbers.{class_number}
use Rattle.py_data.specs.declared.value.Value.{Value}
use Rattle.py_data.specs.declared.value.Value.TheVariants.{Ref}
use Rattle.py_data.specs.declared.record.Got.{Got}
use Rattle.py_data.specs.declared.record.Got.TheVariants.{Is, Raise}
use Rattle.py_data.specs.Comparing.{DEPTH_LIMIT}
use Rattle.py_data.specs.Fault.{depth_fault}
use Rattle.py_data.specs.Heap.{Heap, Rec, value_at}
use Rattle.py_data.specs.Row.{Row, Ret, bind}
use Rattle.py_data.specs.Looking.{kind_row, size_row, look_row, bytes_row, until_row}
use Rattle.obj_nest.specs.Levels.{level_row}
use Rattle.obj_nest.specs.Text.{text_row, text_within}
use Rattle.obj_class.specs.declared.args.Part.{Part}
use Rattle.obj_class.specs.Attributes.{values_in}
use Rattle.obj_class.specs.Bases.{ref, MOST_BASES, is_below, is_sub_row}
use Rattle.obj_class.specs.Roots.{class_place, root_class}

-- ---- what is meant: which class it is

-- a class is another one or has it among its bases
abbrev pub is_under : Heap → Value → Value → Bool
is_under h c (Ref b) = is_below h b.0 MOST_BASES c
is_under h c _ = false

-- the class of an instance with these values is the one of that name in a list of roots, or below it
abbrev pub is_of : Heap → List Value → List ℕ → List Value → Bool
is_of h vs name own = is_under h (value_at own 0) (root_class vs name)

-- ---- its attribute `args`

abbrev pub names_args : Kind → List ℕ → Bool
names_args Str bytes = bytes_eq (codes "args") bytes
names_args _ bytes = false

abbrev pub is_args_in : Option Rec → Bool
is_args_in None = false
is_args_in (Some r) = names_args r.kind r.bytes

-- a key is the string `args`
abbrev pub is_args : Heap → Value → Bool
is_args h (Ref a) = is_args_in (h a.0)
is_args h _ = false

-- the value of the first pair with such a key
abbrev pub args_among : Heap → List Value → Option Value
args_among h (k ∷ x ∷ rest) = cond (is_args h k) (Some x) (args_among h rest)
args_among h _ = None

-- what the dictionary at an address has as `args`
abbrev pub args_in : Heap → Value → Option Value
args_in h (Ref d) = args_among h (values_in (h d.0))
args_in h _ = None

-- ---- what of an exception is told: nothing, or a value, as it stands within others or by itself

abbrev pub part : Bool → Value → Part
part quoted x = record { quoted = quoted; value = x }

-- of a tuple of these values: nothing, the one item, or the tuple
abbrev pub part_among : Bool → Value → List Value → Option Part
part_among key t [] = None
part_among key t (x ∷ []) = Some (part key x)
part_among key t _ = Some (part true t)

abbrev pub part_by : Bool → Value → Kind → List Value → Option Part
part_by key t Tuple vs = part_among key t vs
part_by key t _ vs = None

abbrev pub part_at : Bool → Value → Option Rec → Option Part
part_at key t None = None
part_at key t (Some r) = part_by key t r.kind r.values

-- of the attribute `args`, which counts only as a tuple; the flag says whether one item is told in quotes
abbrev pub part_of : Heap → Bool → Option Value → Option Part
part_of h key (Some (Ref t)) = part_at key (Ref t) (h t.0)
part_of h key _ = None

-- of an instance with these values, by a list of roots: KeyError and what is below it tell one item in quotes
abbrev pub told_part : Heap → List Value → List Value → Option Part
told_part h vs own = part_of h (is_of h vs (codes "KeyError") own) (args_in h (value_at own 1))

-- ---- texts

-- what writes a value: as it stands within others (`true`), or by itself
abbrev pub Tells : Type 0
Tells = Bool → Value → Got (List ℕ)

abbrev pub part_text : Tells → Option Part → Got (List ℕ)
part_text u None = Is []
part_text u (Some p) = u p.quoted p.value

-- an exception is a level, as a list is: it is told with what writes its part, where a level is left
abbrev pub exception_text : Heap → List Value → Option Tells → List Value → Got (List ℕ)
exception_text h vs None own = Raise depth_fault
exception_text h vs (Some u) own = part_text u (told_part h vs own)

-- an instance of another class is told as any value is
abbrev pub instance_text : Heap → List Value → Option Tells → ℕ → Value → List Value → Got (List ℕ)
instance_text h vs under d x own = cond (is_of h vs (codes "BaseException") own) (exception_text h vs under own)
    (text_within h d x false)

abbrev pub alone_by : Heap → List Value → Option Tells → ℕ → Value → Kind → List Value → Got (List ℕ)
alone_by h vs under d x Instance own = instance_text h vs under d x own
alone_by h vs under d x _ own = text_within h d x false

abbrev pub alone_at : Heap → List Value → Option Tells → ℕ → Value → Option Rec → Got (List ℕ)
alone_at h vs under d x None = text_within h d x false
alone_at h vs under d x (Some r) = alone_by h vs under d x r.kind r.values

abbrev pub told_under : Heap → List Value → Option Tells → ℕ → Tells
told_under h vs under d true x = text_within h d x true
told_under h vs under d false (Ref a) = alone_at h vs under d (Ref a) (h a.0)
told_under h vs under d false x = text_within h d x false

-- by a list of roots, with so many levels left
unfoldable pub told_within : Heap → List Value → ℕ → Tells
told_within h vs zero = told_under h vs None 0
told_within h vs (suc d) = told_under h vs (Some (told_within h vs d)) (suc d)

-- The text of a value, by the address of the list of roots: as it stands within others (`quoted`), or by itself.
-- RuntimeError, where values are nested deeper than 100 levels.
abbrev pub text_of : Heap → ℕ → Value → Bool → Got (List ℕ)
text_of h roots x quoted = told_within h (values_in (h roots)) DEPTH_LIMIT quoted x

-- ---- the rows: which class it is

unfoldable pub under_row : {S : Type 0} → ℕ → Value → Row S Bool
under_row c (Ref b) = is_sub_row c b.0
under_row c _ = Ret false

-- a class is that of a number, or below it
unfoldable pub class_under_row : {S : Type 0} → ℕ → ℕ → ℕ → Row S Bool
class_under_row roots n c = bind (look_row roots (class_place n)) (λ b. under_row c b)

unfoldable pub value_under_row : {S : Type 0} → ℕ → ℕ → Value → Row S Bool
value_under_row roots n (Ref c) = class_under_row roots n c.0
value_under_row roots n _ = Ret false

-- and so is the class of an instance
unfoldable pub is_of_row : {S : Type 0} → ℕ → ℕ → ℕ → Row S Bool
is_of_row roots n a = bind (look_row a 0) (λ c. value_under_row roots n c)

-- ---- its attribute `args`

unfoldable pub args_by_row : {S : Type 0} → ℕ → Kind → Row S Bool
args_by_row a Str = bind (bytes_row a) (λ t. Ret (bytes_eq (codes "args") t))
args_by_row a _ = Ret false

unfoldable pub args_at_row : {S : Type 0} → ℕ → Row S Bool
args_at_row a = bind (kind_row a) (λ k. args_by_row a k)

unfoldable pub is_args_row : {S : Type 0} → Value → Row S Bool
is_args_row (Ref a) = args_at_row a.0
is_args_row _ = Ret false

unfoldable pub value_if_row : {S : Type 0} → ℕ → ℕ → Bool → Row S (Option Value)
value_if_row d i true = bind (look_row d (2 * i + 1)) (λ x. Ret (Some x))
value_if_row d i false = Ret None

unfoldable pub value_by_row : {S : Type 0} → ℕ → ℕ → Value → Row S (Option Value)
value_by_row d i k = bind (is_args_row k) (λ b. value_if_row d i b)

-- one pair
unfoldable pub args_pair_row : {S : Type 0} → ℕ → ℕ → Row S (Option Value)
args_pair_row d i = bind (look_row d (2 * i)) (λ k. value_by_row d i k)

abbrev pub is_missing : Option Value → Bool
is_missing None = true
is_missing (Some x) = false

-- up to the first pair with such a key
abbrev pub args_among_row : {S : Type 0} → ℕ → ℕ → Row S (Option Value)
args_among_row d n = until_row (args_pair_row d) is_missing None 0 n

unfoldable pub dict_args_row : {S : Type 0} → ℕ → Row S (Option Value)
dict_args_row d = bind (size_row d) (λ n. args_among_row d (n / 2))

unfoldable pub args_in_row : {S : Type 0} → Value → Row S (Option Value)
args_in_row (Ref d) = dict_args_row d.0
args_in_row _ = Ret None

-- of an instance
unfoldable pub args_row : {S : Type 0} → ℕ → Row S (Option Value)
args_row a = bind (look_row a 1) (λ d. args_in_row d)

-- ---- what of an exception is told

unfoldable pub part_with_row : {S : Type 0} → ℕ → ℕ → Value → Row S (Option Part)
part_with_row roots a x = bind (is_of_row roots (class_number (codes "KeyError")) a) (λ key. Ret (Some (part key x)))

unfoldable pub part_one_row : {S : Type 0} → ℕ → ℕ → ℕ → Row S (Option Part)
part_one_row roots a t = bind (look_row t 0) (λ x. part_with_row roots a x)

unfoldable pub part_sized_row : {S : Type 0} → ℕ → ℕ → ℕ → ℕ → Row S (Option Part)
part_sized_row roots a t n = cond (n == 0) (Ret None)
    (cond (n == 1) (part_one_row roots a t) (Ret (Some (part true (ref t)))))

unfoldable pub part_tuple_row : {S : Type 0} → ℕ → ℕ → ℕ → Row S (Option Part)
part_tuple_row roots a t = bind (size_row t) (λ n. part_sized_row roots a t n)

unfoldable pub part_by_row : {S : Type 0} → ℕ → ℕ → ℕ → Kind → Row S (Option Part)
part_by_row roots a t Tuple = part_tuple_row roots a t
part_by_row roots a t _ = Ret None

unfoldable pub part_at_row : {S : Type 0} → ℕ → ℕ → ℕ → Row S (Option Part)
part_at_row roots a t = bind (kind_row t) (λ k. part_by_row roots a t k)

unfoldable pub part_value_row : {S : Type 0} → ℕ → ℕ → Value → Row S (Option Part)
part_value_row roots a (Ref t) = part_at_row roots a t.0
part_value_row roots a _ = Ret None

unfoldable pub part_of_row : {S : Type 0} → ℕ → ℕ → Option Value → Row S (Option Part)
part_of_row roots a None = Ret None
part_of_row roots a (Some x) = part_value_row roots a x

-- of the instance at an address
unfoldable pub told_part_row : {S : Type 0} → ℕ → ℕ → Row S (Option Part)
told_part_row roots a = bind (args_row a) (λ o. part_of_row roots a o)

-- ---- texts

abbrev pub TellsBy : Type 0 → Type 0
TellsBy S = Bool → Value → Row S (Got (List ℕ))

unfoldable pub part_text_row : {S : Type 0} → TellsBy S → Option Part → Row S (Got (List ℕ))
part_text_row u None = Ret (Is [])
part_text_row u (Some p) = u p.quoted p.value

unfoldable pub exception_text_row : {S : Type 0} → ℕ → TellsBy S → ℕ → Row S (Got (List ℕ))
exception_text_row roots u a = bind (told_part_row roots a) (λ o. part_text_row u o)

unfoldable pub if_exception_row : {S : Type 0} → ℕ → Option (TellsBy S) → ℕ → ℕ → Bool → Row S (Got (List ℕ))
if_exception_row roots under d a true = level_row under (λ u. exception_text_row roots u a)
if_exception_row roots under d a false = text_row d (ref a) false

unfoldable pub instance_text_row : {S : Type 0} → ℕ → Option (TellsBy S) → ℕ → ℕ → Row S (Got (List ℕ))
instance_text_row roots under d a = bind (is_of_row roots (class_number (codes "BaseException")) a)
    (λ b. if_exception_row roots under d a b)

unfoldable pub alone_by_row : {S : Type 0} → ℕ → Option (TellsBy S) → ℕ → ℕ → Kind → Row S (Got (List ℕ))
alone_by_row roots under d a Instance = instance_text_row roots under d a
alone_by_row roots under d a _ = text_row d (ref a) false

unfoldable pub alone_at_row : {S : Type 0} → ℕ → Option (TellsBy S) → ℕ → ℕ → Row S (Got (List ℕ))
alone_at_row roots under d a = bind (kind_row a) (λ k. alone_by_row roots under d a k)

unfoldable pub alone_row : {S : Type 0} → ℕ → Option (TellsBy S) → ℕ → Value → Row S (Got (List ℕ))
alone_row roots under d (Ref a) = alone_at_row roots under d a.0
alone_row roots under d x = text_row d x false

-- given what writes the part of an exception
unfoldable pub told_under_row : {S : Type 0} → ℕ → Option (TellsBy S) → ℕ → TellsBy S
told_under_row roots under d true x = text_row d x true
told_under_row roots under d false x = alone_row roots under d x

-- what writes the part of an exception, where so many levels are left
unfoldable pub left : {S : Type 0} → ℕ → ℕ → Option (TellsBy S)
left roots zero = None
left roots (suc d) = Some (told_under_row roots (left roots d) d)

-- with so many levels left
abbrev pub told_levels : {S : Type 0} → ℕ → ℕ → TellsBy S
told_levels roots d = told_under_row roots (left roots d) d

-- The text of a value: as it stands within others (`quoted`), or by itself. At `roots` stands the list of roots.
unfoldable pub told_row : {S : Type 0} → ℕ → Value → Bool → Row S (Got (List ℕ))
told_row roots x quoted = told_levels roots DEPTH_LIMIT quoted x
