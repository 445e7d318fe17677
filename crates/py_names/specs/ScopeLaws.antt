-- What a body's events say of a name. States `docs/LANGUAGE.md`, "Names and their scopes".
use Rattle.std.specs.Prelude.{ℕ, Bool, false, ◌&&◌, not, List, Option, Some, None}
use Rattle.std.specs.List.{list_any}
use Rattle.std.specs.Str.{bytes_eq}
use Rattle.py_names.specs.declared.event.Event.{Event}
use Rattle.py_names.specs.declared.event.BodyKind.TheVariants.{Module}
use Rattle.py_names.specs.Scopes.{mention, binding, declaration, kind_of, is_module}

abbrev pub names_it : List ℕ → Option (List ℕ) → Bool
names_it n None = false
names_it n (Some m) = bytes_eq n m

-- some event mentions the name, binds it, or declares it global
abbrev pub mentions : List Event → List ℕ → Bool
mentions es n = list_any (λ e. names_it n (mention e)) es

abbrev pub binds : List Event → List ℕ → Bool
binds es n = list_any (λ e. names_it n (binding e)) es

abbrev pub declares : List Event → List ℕ → Bool
declares es n = list_any (λ e. names_it n (declaration e)) es

-- the body isn't the module's; it binds the name, and no `global` in it names it
abbrev pub is_own : List Event → List ℕ → Bool
is_own es n = not (is_module (kind_of Module es)) && (binds es n && not (declares es n))
