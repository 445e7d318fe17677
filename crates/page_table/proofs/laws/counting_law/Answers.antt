use Rattle.page_table.proofs.CountingLemmas.{counting_law, peak_law, spare_law, take_law, give_law}
use Rattle.page_table.proofs.laws.counting_law.Goals as goal

pub returns-clause-counting : goal.returns-clause-counting
returns-clause-counting c = counting_law

pub returns-clause-peak : goal.returns-clause-peak
returns-clause-peak c = peak_law

pub returns-clause-spare : goal.returns-clause-spare
returns-clause-spare c = spare_law

pub returns-clause-take : goal.returns-clause-take
returns-clause-take c = take_law

pub returns-clause-give : goal.returns-clause-give
returns-clause-give c = give_law
