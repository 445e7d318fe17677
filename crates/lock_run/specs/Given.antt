-- The names that a turn's new records got, as numbers. States `docs/HEAP.md`, "The plain view".
use Rattle.std.specs.Prelude.{ℕ, List, take}
use Rattle.py_data.specs.Collection.{places}
use Rattle.lock_run.specs.declared.given.Given.{Given}

-- all names that were given in this turn
abbrev pub given_all : Given → List ℕ
given_all g = places g.names

-- those of them that were given before the step was opened
abbrev pub given_kept : Given → List ℕ
given_kept g = places (take g.kept g.names)
