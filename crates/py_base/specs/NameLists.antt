-- Lists of names, each once, in the order of first mention. States `docs/LANGUAGE.md`, "Names and their scopes".
use Rattle.std.specs.Prelude.{Bool, ℕ, List, [], ◌∷◌, ◌++◌, if◌then◌else◌}
use Rattle.std.specs.List.{list_any}
use Rattle.std.specs.Str.{bytes_eq}

-- whether a name is among these
abbrev pub has : List ℕ → List (List ℕ) → Bool
has n ns = list_any (bytes_eq n) ns

-- these names with one more, each once, where it is first
abbrev pub with_name : List (List ℕ) → List ℕ → List (List ℕ)
with_name ns n = if has n ns then ns else ns ++ n ∷ []
