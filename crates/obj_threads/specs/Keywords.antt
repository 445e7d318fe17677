-- The keywords of `threading.Thread`. They come as name, value, name, value, and each name is the address of a string.
-- States `docs/LANGUAGE.md`, "Locks and threads".
use Rattle.std.specs.Prelude.{ℕ, ◌+◌, ◌*◌, ◌/◌, cond, codes, List, [], length, Option, Some, None}
use Rattle.std.specs.Str.{bytes_eq}
use Rattle.py_data.specs.declared.value.Value.{Value}
use Rattle.py_data.specs.declared.value.Value.TheVariants.{Ref}
use Rattle.py_data.specs.declared.record.Got.{Got}
use Rattle.py_data.specs.declared.record.Got.TheVariants.{Is, Raise}
use Rattle.py_data.specs.Fault.{argument_fault}
use Rattle.py_data.specs.Heap.{value_at}
use Rattle.py_data.specs.Looking.{bytes_row, each_row}
use Rattle.py_data.specs.Row.{Row, Ret, bind}
use Rattle.obj_threads.specs.declared.keywords.Keywords.{Keywords}

abbrev pub no_keywords : Keywords
no_keywords = record { target = None; args = None }

-- of one name the first value counts
abbrev pub first_of : Option Value → Value → Option Value
first_of (Some x) y = Some x
first_of None y = Some y

-- what is known once a keyword of this name has this value; none where there is no keyword of this name
abbrev pub with_keyword : Keywords → List ℕ → Value → Option Keywords
with_keyword k name x = cond (bytes_eq (codes "target") name) (Some (record k { target = first_of k.target x }))
    (cond (bytes_eq (codes "args") name) (Some (record k { args = first_of k.args x })) None)

-- another keyword can't be given
abbrev pub known : Option Keywords → Got Keywords
known (Some k) = Is k
known None = Raise argument_fault

-- the bytes of a name
unfoldable pub name_row : {S : Type 0} → Value → Row S (List ℕ)
name_row (Ref a) = bytes_row a.0
name_row _ = Ret []

unfoldable pub known_row : {S : Type 0} → Option Keywords → Row S (Got Keywords)
known_row k = Ret (known k)

unfoldable pub named_row : {S : Type 0} → Value → Value → Keywords → Row S (Got Keywords)
named_row name x k = bind (name_row name) (λ t. known_row (with_keyword k t x))

-- the keyword of this number
unfoldable pub keyword_row : {S : Type 0} → List Value → ℕ → Keywords → Row S (Got Keywords)
keyword_row keys i k = named_row (value_at keys (2 * i)) (value_at keys (2 * i + 1)) k

unfoldable pub keywords_row : {S : Type 0} → List Value → Row S (Got Keywords)
keywords_row keys = each_row (keyword_row keys) 0 (length keys / 2) no_keywords
