use Rattle.py_grammar.proofs.OneRefusal.{stops}
use Rattle.py_grammar.proofs.Whole.{only}
use Rattle.py_grammar.proofs.Results.{found, refused, unique}
use Rattle.py_grammar.proofs.laws.grammar_law.Goals as goal

pub returns-clause-found : goal.returns-clause-found
returns-clause-found c = found

pub returns-clause-only : goal.returns-clause-only
returns-clause-only c = λ ts m q h. only m ts q h

pub returns-clause-refused : goal.returns-clause-refused
returns-clause-refused c = refused

pub returns-clause-stops : goal.returns-clause-stops
returns-clause-stops c = stops

pub returns-clause-one : goal.returns-clause-one
returns-clause-one c = unique
