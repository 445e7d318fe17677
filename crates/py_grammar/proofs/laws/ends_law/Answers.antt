use Rattle.py_grammar.proofs.Ends.{ends, ends_text}
use Rattle.py_grammar.proofs.laws.ends_law.Goals as goal

pub returns-clause-text : goal.returns-clause-text
returns-clause-text c = ends_text

pub returns-clause-stream : goal.returns-clause-stream
returns-clause-stream c = ends
