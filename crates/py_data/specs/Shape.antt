-- Which values can be keys, when two keys are equal, and the shape of the values of each kind of record.
-- States `docs/HEAP.md`, "Keys" and "Shapes".
use Rattle.std.specs.Prelude.{nat_eq, ◌≡◌, ◌≢◌, ℕ, ℤ, pos, ◌+◌, ◌≤◌, Bool, true, false, cond, List, [], ◌∷◌, Option, Some, None, eqb}
use Rattle.std.specs.Ordering.{int_eq}
use lib.Pointwise.{pointwise}
use Rattle.py_data.specs.declared.value.Value.{Value}
use Rattle.py_data.specs.declared.value.Value.TheVariants.{Unset, None as NoneValue, Bool as BoolValue, Int, Ref, Builtin}
use Rattle.py_base.specs.declared.kind.Kind.{Kind}
use Rattle.py_base.specs.declared.kind.Kind.TheVariants.{Str, Tuple, List as ListKind, Dict, Cell, Function, Class, Instance, Method, Iter, Range, Lock, Thread}
use Rattle.py_data.specs.Every.{Every}
use Rattle.py_data.specs.Heap.{Rec, Heap, has_bytes}
use Rattle.py_data.specs.Range.{IsRange}

-- the bytes of a record of a kind that has some
abbrev pub text_by : Kind → List ℕ → Option (List ℕ)
text_by k bs = cond (has_bytes k) (Some bs) None

-- the bytes of the string at an address, if a string is there
abbrev pub text_in : Option Rec → Option (List ℕ)
text_in None = None
text_in (Some r) = text_by r.kind r.bytes

-- the same bytes in the same order
abbrev pub same_bytes : List ℕ → List ℕ → Bool
same_bytes xs ys = pointwise nat_eq xs ys

-- two addresses as keys: strings are equal by their bytes, other records by identity
abbrev pub same_text : Bool → Option (List ℕ) → Option (List ℕ) → Bool
same_text same (Some xs) (Some ys) = same_bytes xs ys
same_text same _ _ = same

-- a truth value as a number
abbrev pub bit : Bool → ℤ
bit true = pos 1
bit false = pos 0

-- equal keys: numbers by value, where a truth value is 0 or 1; strings by bytes; all else by identity
abbrev pub same_key : Heap → Value → Value → Bool
same_key h (Int i) (Int j) = int_eq i j
same_key h (Int i) (BoolValue b) = int_eq i (bit b)
same_key h (BoolValue b) (Int j) = int_eq (bit b) j
same_key h (BoolValue b) (BoolValue c) = int_eq (bit b) (bit c)
same_key h NoneValue NoneValue = true
same_key h (Builtin i) (Builtin j) = eqb i j
same_key h (Ref a) (Ref b) = same_text (eqb a.0 b.0) (text_in (h a.0)) (text_in (h b.0))
same_key h _ _ = false

-- the number, counted from n, of the first pair whose key is equal
abbrev pub find_from : Heap → ℕ → List Value → Value → Option ℕ
find_from h n [] key = None
find_from h n (k ∷ []) key = None
find_from h n (k ∷ v ∷ rest) key = cond (same_key h k key) (Some n) (find_from h (n + 1) rest key)

-- the least number of a pair whose key is equal: the place of a key in a dictionary
abbrev pub find : Heap → List Value → Value → Option ℕ
find h values key = find_from h 0 values key

-- a record of these kinds can be a key
abbrev pub is_key_kind : Kind → Bool
is_key_kind Str = true
is_key_kind Function = true
is_key_kind Class = true
is_key_kind Instance = true
is_key_kind _ = false

-- a record is there, and its kind has this property
abbrev pub KindIn : Option Rec → (Kind → Type 0) → Type 0
KindIn None p = ⊥
KindIn (Some r) p = p r.kind

-- a possible key of a dictionary
abbrev pub IsKey : Heap → Value → Type 0
IsKey h NoneValue = Unit {0}
IsKey h (BoolValue b) = Unit {0}
IsKey h (Int i) = Unit {0}
IsKey h (Builtin b) = Unit {0}
IsKey h (Ref a) = KindIn (h a.0) (λ k. is_key_kind k ≡ true)
IsKey h Unset = ⊥

-- key, value, key, value, with possible keys
abbrev pub ArePairs : Heap → List Value → Type 0
ArePairs h [] = Unit {0}
ArePairs h (k ∷ []) = ⊥
ArePairs h (k ∷ v ∷ rest) = IsKey h k × ArePairs h rest

-- a key can be looked for in a record: it is a dictionary, whose keys and the one looked for are possible keys
abbrev pub Fits : Heap → Rec → Value → Type 0
Fits h r key = (r.kind ≡ Dict) × IsKey h key × ArePairs h r.values

-- no two keys are equal
abbrev pub KeysDiffer : Heap → List Value → Type 0
KeysDiffer h [] = Unit {0}
KeysDiffer h (k ∷ []) = Unit {0}
KeysDiffer h (k ∷ v ∷ rest) = (find h rest k ≡ None) × KeysDiffer h rest

-- the address of a record of this kind
abbrev pub RefTo : Heap → Kind → Value → Type 0
RefTo h k (Ref a) = KindIn (h a.0) (λ q. q ≡ k)
RefTo h k _ = ⊥

-- a whole number that is not negative
abbrev pub IsCount : Value → Type 0
IsCount (Int (pos n)) = Unit {0}
IsCount _ = ⊥

-- a truth value
abbrev pub IsBool : Value → Type 0
IsBool (BoolValue b) = Unit {0}
IsBool _ = ⊥

-- None, or a value that has this property
abbrev pub NoneOr : (Value → Type 0) → Value → Type 0
NoneOr p NoneValue = Unit {0}
NoneOr p v = p v

-- the number of a thread that a script can start
abbrev pub IsThreadNumber : Value → Type 0
IsThreadNumber (Int (pos n)) = (1 ≤ n) × (n ≤ 1_023)
IsThreadNumber _ = ⊥

-- what a method can call: a builtin or a function
abbrev pub IsCallable : Heap → Value → Type 0
IsCallable h (Builtin b) = Unit {0}
IsCallable h v = RefTo h Function v

-- a record of these kinds can be gone through
abbrev pub is_iterable : Kind → Bool
is_iterable ListKind = true
is_iterable Tuple = true
is_iterable Str = true
is_iterable Dict = true
is_iterable Range = true
is_iterable _ = false

-- the address of a record that can be gone through
abbrev pub IsIterable : Heap → Value → Type 0
IsIterable h (Ref a) = KindIn (h a.0) (λ k. is_iterable k ≡ true)
IsIterable h _ = ⊥

-- the values of a record of each kind
abbrev pub HasShape : Heap → Kind → List Value → Type 0
HasShape h Str [] = Unit {0}
HasShape h Tuple vs = Unit {0}
HasShape h ListKind vs = Unit {0}
HasShape h Dict vs = ArePairs h vs × KeysDiffer h vs
HasShape h Cell (v ∷ []) = Unit {0}
HasShape h Function (name ∷ code ∷ defaults ∷ []) = RefTo h Str name × IsCount code × RefTo h Tuple defaults
HasShape h Class (name ∷ base ∷ attributes ∷ []) = RefTo h Str name × NoneOr (RefTo h Class) base × RefTo h Dict
    attributes
HasShape h Instance (of ∷ attributes ∷ []) = RefTo h Class of × RefTo h Dict attributes
HasShape h Method (f ∷ own ∷ []) = IsCallable h f
HasShape h Iter (over ∷ at ∷ count ∷ []) = IsIterable h over × IsCount at × IsCount count
HasShape h Range vs = IsRange vs
HasShape h Lock (held ∷ []) = IsBool held
HasShape h Thread (target ∷ args ∷ number ∷ ended ∷ []) = RefTo h Tuple args × NoneOr IsThreadNumber number × IsBool
    ended
HasShape h _ _ = ⊥

-- bytes where there may be some
abbrev pub BytesIf : Bool → List ℕ → Type 0
BytesIf true bs = Unit {0}
BytesIf false bs = bs ≡ []

-- a record of a kind that has no bytes has none
abbrev pub OnlyStrings : Kind → List ℕ → Type 0
OnlyStrings k bs = BytesIf (has_bytes k) bs

-- Unset stands in cells alone
abbrev pub HoldsNoUnset : Kind → List Value → Type 0
HoldsNoUnset Cell vs = Unit {0}
HoldsNoUnset _ vs = Every (λ v. v ≢ Unset) vs

-- the record has its kind's shape
abbrev pub IsShaped : Heap → Rec → Type 0
IsShaped h r = HasShape h r.kind r.values × OnlyStrings r.kind r.bytes × HoldsNoUnset r.kind r.values
