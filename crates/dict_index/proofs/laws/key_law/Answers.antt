use Rattle.dict_index.proofs.Gone.{pair_law, drop_law}
use Rattle.dict_index.proofs.Kept.{kept_law}
use Rattle.dict_index.proofs.laws.key_law.Goals as goal

pub returns-clause-pair : goal.returns-clause-pair
returns-clause-pair c = pair_law

pub returns-clause-drop : goal.returns-clause-drop
returns-clause-drop c = drop_law

pub returns-clause-kept : goal.returns-clause-kept
returns-clause-kept c = kept_law
