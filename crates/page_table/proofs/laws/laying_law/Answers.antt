use Rattle.page_table.proofs.LayingLemmas.{new_laid, take_laid, give_laid, rest_laid}
use Rattle.page_table.proofs.laws.laying_law.Goals as goal

pub returns-clause-new : goal.returns-clause-new
returns-clause-new c = new_laid

pub returns-clause-take : goal.returns-clause-take
returns-clause-take c = take_laid

pub returns-clause-give : goal.returns-clause-give
returns-clause-give c = give_laid

pub returns-clause-rest : goal.returns-clause-rest
returns-clause-rest c = rest_laid
