-- What contracts see of a list that grows. States `docs/DECISIONS.md`, "`py_base`".
use Rattle.std.specs.Prelude.{ℕ, List}

-- A list to which elements are added, and for how many more there is memory already. This room is of no record.
pub record Logged (T : Type 0) : Type 0 where
  pub entries : List T
  pub room : ℕ
