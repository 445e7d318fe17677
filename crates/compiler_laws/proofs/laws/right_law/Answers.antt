use Rattle.compiler_laws.proofs.ProgramRight.{compiles_right}
use Rattle.compiler_laws.proofs.laws.right_law.Goals as goal

pub returns : goal.returns
returns c = compiles_right
