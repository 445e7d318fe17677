use Rattle.py_names.proofs.ScopeLemmas.{local_law, others_law, locals_once, others_once}
use Rattle.py_names.proofs.laws.scope_law.Goals as goal

pub returns-clause-local : goal.returns-clause-local
returns-clause-local c = λ es n. local_law n es

pub returns-clause-others : goal.returns-clause-others
returns-clause-others c = λ es n. others_law n es

pub returns-clause-locals_once : goal.returns-clause-locals_once
returns-clause-locals_once c = locals_once

pub returns-clause-others_once : goal.returns-clause-others_once
returns-clause-others_once c = others_once
