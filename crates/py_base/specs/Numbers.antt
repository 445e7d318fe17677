-- What has a number by a rule of the language: operators, builtins and the classes that every program has. Of each
-- there is one list of names, and the number of a name is its place in the list, counted from 0. States
-- `docs/LANGUAGE.md`, "Numbers and names".
use Rattle.std.specs.Prelude.{Bool, true, false, ℕ, ◌+◌, codes, List, [], ◌∷◌, length, Option, Some, None, if◌then◌else◌, unwrap_or}
use Rattle.std.specs.Str.{bytes_eq}

-- ---- numbers

-- the number of a name, where the list's names are numbered from n on
abbrev pub number_from : ℕ → List (List ℕ) → List ℕ → Option ℕ
number_from n [] x = None
number_from n (y ∷ ys) x = if bytes_eq y x then Some n else number_from (n + 1) ys x

abbrev pub number_in : List (List ℕ) → List ℕ → Option ℕ
number_in names x = number_from 0 names x

-- the number that stands beside a name in a table
abbrev pub number_beside : List (ℕ × List ℕ) → List ℕ → Option ℕ
number_beside [] x = None
number_beside (e ∷ es) x = if bytes_eq e.1 x then Some e.0 else number_beside es x

-- ---- operators

-- of UNARY
abbrev pub unary_signs : List (List ℕ)
unary_signs = codes "+" ∷ codes "-" ∷ codes "~" ∷ []

-- of BINARY and INPLACE
abbrev pub binary_signs : List (List ℕ)
binary_signs = codes "|" ∷ codes "^" ∷ codes "&" ∷ codes "<<" ∷ codes ">>" ∷ codes "+" ∷ codes "-" ∷ codes "*" ∷ codes
    "/" ∷ codes "//" ∷ codes "%" ∷ codes "**" ∷ []

-- of COMPARE
abbrev pub compare_signs : List (List ℕ)
compare_signs = codes "<" ∷ codes ">" ∷ codes "==" ∷ codes ">=" ∷ codes "<=" ∷ codes "!=" ∷ codes "in" ∷ codes "not in"
    ∷ codes "is" ∷ codes "is not" ∷ []

-- ---- classes

-- `object` and the exception classes, in the order in which SETUP makes them
abbrev pub class_names : List (List ℕ)
class_names = codes "object" ∷ codes "BaseException" ∷ codes "Exception" ∷ codes "StandardError" ∷ codes
    "ArithmeticError" ∷ codes "LookupError" ∷ codes "NameError" ∷ codes "AttributeError" ∷ codes "TypeError" ∷ codes
    "ValueError" ∷ codes "RuntimeError" ∷ codes "EOFError" ∷ codes "AssertionError" ∷ codes "MemoryError" ∷ codes
    "ZeroDivisionError" ∷ codes "OverflowError" ∷ codes "IndexError" ∷ codes "KeyError" ∷ codes "UnboundLocalError" ∷
    codes "thread.error" ∷ []

-- ---- builtins

-- Functions, types, modules and methods. The names `True`, `False`, `__name__`, `object` and those of the exceptions
-- are builtins too, and have other values.
abbrev pub builtin_names : List (List ℕ)
builtin_names = codes "len" ∷ codes "range" ∷ codes "xrange" ∷ codes "str" ∷ codes "repr" ∷ codes "int" ∷ codes "bool"
    ∷ codes "list" ∷ codes "tuple" ∷ codes "dict" ∷ codes "isinstance" ∷ codes "ord" ∷ codes "chr" ∷ codes "abs" ∷
    codes "min" ∷ codes "max" ∷ codes "sum" ∷ codes "sorted" ∷ codes "raw_input" ∷ codes "thread" ∷ codes "threading" ∷
    codes "thread.start_new_thread" ∷ codes "thread.allocate_lock" ∷ codes "threading.Thread" ∷ codes "threading.Lock"
    ∷ codes "str.join" ∷ codes "str.split" ∷ codes "str.strip" ∷ codes "str.upper" ∷ codes "str.lower" ∷ codes
    "str.startswith" ∷ codes "str.endswith" ∷ codes "str.find" ∷ codes "str.replace" ∷ codes "list.append" ∷ codes
    "list.pop" ∷ codes "list.insert" ∷ codes "list.extend" ∷ codes "list.index" ∷ codes "list.remove" ∷ codes
    "list.reverse" ∷ codes "list.sort" ∷ codes "dict.get" ∷ codes "dict.keys" ∷ codes "dict.values" ∷ codes
    "dict.items" ∷ codes "dict.has_key" ∷ codes "dict.pop" ∷ codes "lock.acquire" ∷ codes "lock.release" ∷ codes
    "lock.locked" ∷ codes "thread.start" ∷ codes "thread.join" ∷ []

-- ---- the numbers by their names, and how many there are

abbrev pub unary_number : List ℕ → ℕ
unary_number sign = unwrap_or (number_in unary_signs sign) 0

abbrev pub binary_number : List ℕ → ℕ
binary_number sign = unwrap_or (number_in binary_signs sign) 0

abbrev pub compare_number : List ℕ → ℕ
compare_number sign = unwrap_or (number_in compare_signs sign) 0

abbrev pub class_number : List ℕ → ℕ
class_number name = unwrap_or (number_in class_names name) 0

abbrev pub builtin_number : List ℕ → ℕ
builtin_number name = unwrap_or (number_in builtin_names name) 0

abbrev pub class_count : ℕ
class_count = length class_names

abbrev pub builtin_count : ℕ
builtin_count = length builtin_names

-- ---- truth values

-- the name of a truth value, as it is written and as a builtin
abbrev pub truth_text : Bool → List ℕ
truth_text true = codes "True"
truth_text false = codes "False"
