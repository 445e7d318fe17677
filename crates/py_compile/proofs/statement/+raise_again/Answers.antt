use Rattle.py_compile.specs.inner.Rounds.{around_of, env_of}
use Rattle.py_compile.proofs.Leaves.{ok_map, raise_while, raise_for, raise_try, raise_finally}
use Rattle.py_compile.specs.inner.Plans.{planned_block}
use Rattle.py_compile.proofs.statement.+raise_again.Goals as goal

pub returns-in-While-clause-done : goal.returns-in-While-clause-done
returns-in-While-clause-done t c = rw c.in-While.is
    (ok_map c.raise_again.result c.raise_again.ensures.done
    (λ u h n. raise_while c.args.line (env_of c.in-While.outer.now) (around_of n c.in-While.outer.now)
    c.in-While.field-0 c.args.e.now _ (h n)))

pub returns-in-For-clause-done : goal.returns-in-For-clause-done
returns-in-For-clause-done t c = rw c.in-For.is
    (ok_map c.raise_again-in-For.result c.raise_again-in-For.ensures.done
    (λ u h n. raise_for c.args.line (env_of c.in-For.outer.now) (around_of n c.in-For.outer.now) c.in-For.field-0
    c.args.e.now _ (h n)))

pub returns-in-Try-clause-done : goal.returns-in-Try-clause-done
returns-in-Try-clause-done t c = rw c.in-Try.is
    (ok_map c.raise_again-in-Try.result c.raise_again-in-Try.ensures.done
    (λ u h n. raise_try c.args.line (env_of c.in-Try.outer.now) (around_of n c.in-Try.outer.now) c.in-Try.field-0
    c.in-Try.field-1 c.args.e.now _ (h n)))

pub returns-in-Finally-clause-done : goal.returns-in-Finally-clause-done
returns-in-Finally-clause-done t c = rw c.in-Finally.is
    (ok_map c.raise_again-in-Finally.result c.raise_again-in-Finally.ensures.done
    (λ u h n. raise_finally c.args.line (env_of c.in-Finally.outer.now) (around_of n c.in-Finally.outer.now)
    (planned_block c.in-Finally.field-2.now n (around_of n c.in-Finally.outer.now)) c.in-Finally.field-0
    c.in-Finally.field-1 c.args.e.now _ (h n)))
