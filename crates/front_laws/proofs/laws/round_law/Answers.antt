use Rattle.front_laws.proofs.TreeLemmas.{same_tree, tree_again}
use Rattle.front_laws.proofs.laws.round_law.Goals as goal

pub returns-clause-again : goal.returns-clause-again
returns-clause-again c = tree_again c.canonical_law.ensures

pub returns-clause-one : goal.returns-clause-one
returns-clause-one c = same_tree c.grammar_law.ensures.one
