use Rattle.py_emit.proofs.simple.assert.Goals as goal

pub returns-in-None-clause-done : goal.returns-in-None-clause-done
returns-in-None-clause-done c = rw c.in-None.is c.assert_alone.ensures.done

pub returns-in-Some-clause-done : goal.returns-in-Some-clause-done
returns-in-Some-clause-done c = rw c.in-Some.is c.assert_with.ensures.done
