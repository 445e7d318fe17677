use Rattle.py_compile.specs.inner.Rounds.{env_of}
use Rattle.py_compile.proofs.Leaves.{ok_map}
use Rattle.py_compile.proofs.statement.raise.Goals as goal

pub returns-in-Some-clause-done : goal.returns-in-Some-clause-done
returns-in-Some-clause-done c = rw c.in-Some.is
    (ok_map c.raise_made.result c.raise_made.ensures.done (λ u h. h (env_of c.args.around.now)))
