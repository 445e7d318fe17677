-- The mirror of the code: nothing public rests on it.
-- What the body with a number knows of names, and the codes of bodies one after another. It belongs to `Compiles`.
use Rattle.std.specs.Prelude.{◌≡◌, ℕ, Bool, List, [], ◌∷◌, option_map, Some, None, Result, Ok, Err, get_or, length, ◌≤◌}
use Rattle.std.specs.List.{IsDistinct}
use Rattle.std.specs.Str.{bytes_eq}
use Rattle.py_base.specs.declared.refusal.Refusal.TheVariants.{TooLarge}
use Rattle.py_code.specs.declared.program.Code.{Code}
use Rattle.py_names.specs.declared.scope.Scope.{Scope}
use Rattle.py_templates.specs.declared.error.CompileError.{CompileError}
use Rattle.py_templates.specs.declared.error.CompileError.TheVariants.{Refused, OutOfMemory}
use Rattle.py_templates.specs.Names.{Known}
use Rattle.py_templates.specs.Statements.{Body}
use Rattle.py_templates.specs.Whole.{codes_from, large_bodies}
use Rattle.py_uses.specs.inner.Tallies.{Tally}

-- what the body with that number knows of names, where these were used
abbrev pub known_by : List (List ℕ) → Tally → ℕ → Bool → Known
known_by locals t b is_class = record {
  is_class = is_class;
  locals = locals;
  texts = t.texts;
  cells = t.cells;
  keys =
      get_or t.keys b [];
}

abbrev pub known_in : List (List (List ℕ)) → Tally → ℕ → Body → Known
known_in locals t b y = known_by (get_or locals b []) t b y.is_class

-- The codes of these bodies where none is too large, and else the least line of one.
abbrev pub CodesOf : (ℕ → Body → Known) → List Body → Result (List Code) CompileError → Type 0
CodesOf known ys (Ok cs) = (large_bodies known 0 ys ≡ None) × (cs ≡ codes_from known 0 ys)
CodesOf known ys (Err (Refused r)) = option_map TooLarge (large_bodies known 0 ys) ≡ Some r
CodesOf known ys (Err OutOfMemory) = Unit {0}

-- each scope names its locals once
unfoldable pub NamedOnce : List Scope → Type 0
NamedOnce [] = Unit {0}
NamedOnce (s ∷ more) = IsDistinct bytes_eq s.locals × NamedOnce more

-- at least so many, and those behind the first ones are empty
pub record Padded (n : ℕ) (xs ys : List (List (List ℕ))) : Type 0 where
  pub long : n ≤ length ys
  pub same : (b : ℕ) → get_or ys b [] ≡ get_or xs b []
