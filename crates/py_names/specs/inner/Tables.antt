-- The mirror of the code: nothing public rests on it.
-- The names of all bodies, event by event, as the code gathers them. It belongs to `Scopes`.
use Rattle.std.specs.Prelude.{ℕ, Bool, true, false, List, [], ◌∷◌, ◌++◌, length, get_or, slice_set}
use Rattle.py_names.specs.declared.event.Event.{Event}
use Rattle.py_names.specs.declared.event.Event.TheVariants.{Enter, Leave}
use Rattle.py_names.specs.Scopes.{Names, names_after, no_names, inside_after, is_local, is_global}

-- the names of a body
abbrev pub at : List Names → ℕ → Names
at ts k = get_or ts k no_names

-- with one more event of a body, if it is there
abbrev pub told : List Names → List ℕ → Event → List Names
told ts [] e = ts
told ts (b ∷ bs) e = slice_set ts b (names_after (at ts b) e)

abbrev pub tables_after : List Names → List ℕ → Event → List Names
tables_after ts inside (Enter k) = ts ++ names_after no_names (Enter k) ∷ []
tables_after ts inside Leave = ts
tables_after ts inside e = told ts inside e

abbrev pub tables_by : List Names → List ℕ → List Event → List Names
tables_by ts inside [] = ts
tables_by ts inside (e ∷ es) = tables_by (tables_after ts inside e) (inside_after e (length ts) inside) es

-- whether a name is asked for: the local ones, or the others
abbrev pub chooses : Names → Bool → List ℕ → Bool
chooses b true n = is_local b n
chooses b false n = is_global b n
