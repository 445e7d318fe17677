use Rattle.canonical_laws.proofs.CanonLaw.{read_again}
use Rattle.canonical_laws.proofs.laws.canonical_law.Goals as goal

pub returns : goal.returns
returns c = read_again
