-- The numbers of a body's names: slots, roots and keyword lists. States `docs/LANGUAGE.md`, "Names in code".
use Rattle.std.specs.Prelude.{ℕ, ◌+◌, Bool, if◌then◌else◌, codes, List, [], ◌∷◌, length, position, Option, Some, None, unwrap_or}
use Rattle.std.specs.Cmp.Lexicographic.{pointwise}
use Rattle.std.specs.Str.{bytes_eq}
use Rattle.py_base.specs.Numbers.{builtin_number, class_number}
use Rattle.py_code.specs.declared.instr.Constant.{Constant}
use Rattle.py_code.specs.declared.instr.Constant.TheVariants.{Root, Builtin}
use Rattle.py_code.specs.Right.{first_text}
use Rattle.py_base.specs.NameLists.{has}
use Rattle.py_templates.specs.declared.home.Home.{Home}
use Rattle.py_templates.specs.declared.home.Home.TheVariants.{Slot, Cell, Body}

-- What a body knows of names: whether it is that of a class; the names that it binds; of the whole program the strings
-- and the global names among the roots; and the names in each of its keyword lists.
pub record Known : Type 0 where
  pub is_class : Bool
  pub locals : List (List ℕ)
  pub texts : List (List ℕ)
  pub cells : List (List ℕ)
  pub keys : List (List (List ℕ))

-- the place of a name in a list
abbrev pub find_name : List ℕ → List (List ℕ) → Option ℕ
find_name n ns = position (bytes_eq n) ns

abbrev pub number_in : List ℕ → List (List ℕ) → ℕ
number_in n ns = unwrap_or (find_name n ns) 0

-- where a program names `__name__`, one more string stands behind the others
abbrev pub main_texts : List (List ℕ) → List (List ℕ)
main_texts cells = if has (codes "__name__") cells then codes "__main__" ∷ [] else []

abbrev pub first_cell : List (List ℕ) → List (List ℕ) → ℕ
first_cell texts cells = first_text + length texts + length (main_texts cells)

-- the root of a string
abbrev pub text : Known → List ℕ → ℕ
text n x = first_text + number_in x n.texts

-- the root of a global name
abbrev pub cell : Known → List ℕ → ℕ
cell n x = first_cell n.texts n.cells + number_in x n.cells

-- A function's own names have slots, a class body's own ones stand in its dictionary, and all others in cells.
abbrev pub home_at : Known → List ℕ → Option ℕ → Home
home_at n x None = Cell (cell n x)
home_at n x (Some i) = if n.is_class then Body (text n x) else Slot i

abbrev pub home : Known → List ℕ → Home
home n x = home_at n x (find_name x n.locals)

-- the same names in the same order
abbrev pub same_names : List (List ℕ) → List (List ℕ) → Bool
same_names = pointwise bytes_eq

-- the number of a keyword list, where these are numbered from i on; 0 where it isn't there
abbrev pub list_number : ℕ → List (List ℕ) → List (List (List ℕ)) → ℕ
list_number i ks [] = 0
list_number i ks (x ∷ xs) = if same_names ks x then i else list_number (i + 1) ks xs

abbrev pub key_list : Known → List (List ℕ) → ℕ
key_list n ks = list_number 0 ks n.keys

-- a module, and a name that it has; `error` is a class, whose root stands behind the cell of the count
abbrev pub library : List ℕ → Constant
library m = if bytes_eq m (codes "thread") then Builtin (builtin_number (codes "thread")) else Builtin
    (builtin_number (codes "threading"))

abbrev pub member : List ℕ → Constant
member n =
    if bytes_eq n (codes "start_new_thread") then Builtin (builtin_number (codes "thread.start_new_thread")) else (
    if bytes_eq n (codes "allocate_lock") then Builtin (builtin_number (codes "thread.allocate_lock")) else (
    if bytes_eq n (codes "error") then Root (1 + class_number (codes "thread.error")) else (
    if bytes_eq n (codes "Thread") then Builtin (builtin_number (codes "threading.Thread")) else Builtin
    (builtin_number (codes "threading.Lock")))))
