use Rattle.dict_index.proofs.Entering.{blank_law, enter_law}
use Rattle.dict_index.proofs.Lowering.{leave_law}
use Rattle.dict_index.proofs.laws.pair_laws.Goals as goal

pub returns-clause-blank : goal.returns-clause-blank
returns-clause-blank c = blank_law

pub returns-clause-enter : goal.returns-clause-enter
returns-clause-enter c = enter_law

pub returns-clause-leave : goal.returns-clause-leave
returns-clause-leave c = leave_law
