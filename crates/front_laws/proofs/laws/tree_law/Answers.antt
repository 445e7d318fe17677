use Rattle.front_laws.proofs.TreeLemmas.{never_both, same_refusal, some_tree}
use Rattle.front_laws.proofs.laws.tree_law.Goals as goal

pub returns-clause-some : goal.returns-clause-some
returns-clause-some c = some_tree c.grammar_law.ensures.found c.grammar_law.ensures.refused

pub returns-clause-never_both : goal.returns-clause-never_both
returns-clause-never_both c = never_both

pub returns-clause-one_refusal : goal.returns-clause-one_refusal
returns-clause-one_refusal c = same_refusal c.grammar_law.ensures.stops
