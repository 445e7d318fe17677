-- How many turns a core's history has, for tests: nothing public rests on it.
use Rattle.std.specs.Prelude.{ℕ, length}
use Rattle.stm_core.specs.declared.transactions.Core.{Core}

abbrev pub turns_of : {C S I O E T : Type 0} → Core C S I O E T → ℕ
turns_of x = length x.books.history.entries
