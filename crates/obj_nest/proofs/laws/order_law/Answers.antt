use Rattle.obj_nest.proofs.OrderTotal.{numbers_total, strings_total}
use Rattle.obj_nest.proofs.laws.order_law.Goals as goal

pub returns-clause-numbers : goal.returns-clause-numbers
returns-clause-numbers c = numbers_total

pub returns-clause-strings : goal.returns-clause-strings
returns-clause-strings c = strings_total
