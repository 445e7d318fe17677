-- What has attributes by a rule of the language: the methods of strings, lists, dictionaries, locks and threads, and
-- what the modules have. States `docs/LANGUAGE.md`, "Attributes".
use Rattle.std.specs.Prelude.{ℕ, Bool, cond, ◌==◌, ◌&&◌, codes, List, [], ◌∷◌, ◌++◌, map, Option}
use Rattle.std.specs.Str.{bytes_eq}
use Rattle.py_base.specs.declared.kind.Kind.{Kind}
use Rattle.py_base.specs.declared.kind.Kind.TheVariants.{Str, List as ListKind, Dict, Lock, Thread}
use Rattle.py_base.specs.Numbers.{builtin_number, number_beside}

-- beside a name the number of the builtin that is so named behind a point
abbrev pub builtin_of : List ℕ → List ℕ → ℕ × List ℕ
builtin_of owner name = (builtin_number (owner ++ codes "." ++ name), name)

-- the methods of a kind
abbrev pub methods_of : Kind → List (ℕ × List ℕ)
methods_of Str = map (builtin_of (codes "str"))
    (codes "join" ∷ codes "split" ∷ codes "strip" ∷ codes "upper" ∷ codes "lower" ∷ codes "startswith" ∷ codes
    "endswith" ∷ codes "find" ∷ codes "replace" ∷ [])
methods_of ListKind = map (builtin_of (codes "list"))
    (codes "append" ∷ codes "pop" ∷ codes "insert" ∷ codes "extend" ∷ codes "index" ∷ codes "remove" ∷ codes "reverse"
    ∷ codes "sort" ∷ [])
methods_of Dict = map (builtin_of (codes "dict"))
    (codes "get" ∷ codes "keys" ∷ codes "values" ∷ codes "items" ∷ codes "has_key" ∷ codes "pop" ∷ [])
methods_of Lock = map (builtin_of (codes "lock")) (codes "acquire" ∷ codes "release" ∷ codes "locked" ∷ [])
methods_of Thread = map (builtin_of (codes "thread")) (codes "start" ∷ codes "join" ∷ [])
methods_of _ = []

-- the method of this name
abbrev pub method_of : Kind → List ℕ → Option ℕ
method_of k name = number_beside (methods_of k) name

-- the two modules
abbrev pub is_thread : ℕ → Bool
is_thread b = b == builtin_number (codes "thread")

abbrev pub is_threading : ℕ → Bool
is_threading b = b == builtin_number (codes "threading")

-- the builtins that the modules have
abbrev pub thread_members : List (ℕ × List ℕ)
thread_members = map (builtin_of (codes "thread")) (codes "start_new_thread" ∷ codes "allocate_lock" ∷ [])

abbrev pub threading_members : List (ℕ × List ℕ)
threading_members = map (builtin_of (codes "threading")) (codes "Thread" ∷ codes "Lock" ∷ [])

-- of a builtin, which may be a module, the one of this name
abbrev pub member_of : ℕ → List ℕ → Option ℕ
member_of b name = number_beside (cond (is_thread b) thread_members (cond (is_threading b) threading_members [])) name

-- `thread.error`, which is a class
abbrev pub is_error : ℕ → List ℕ → Bool
is_error b name = is_thread b && bytes_eq (codes "error") name
