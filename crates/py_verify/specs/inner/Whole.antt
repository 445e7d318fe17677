-- The mirror of the code: nothing public rests on it.
-- What the test of a code knows of the program round it.
use Rattle.std.specs.Prelude.{List}
use Rattle.py_code.specs.declared.program.Root.{Root}
use Rattle.py_code.specs.declared.program.Code.{Code}

pub record Around : Type 0 where
  pub codes : List Code
  pub roots : List Root
