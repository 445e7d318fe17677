use Rattle.py_names.specs.inner.Tables.{at}
use Rattle.py_names.proofs.Closures.{closure_of}
use Rattle.py_names.proofs.check.is_closure.Goals as goal

pub returns : goal.returns
returns c = closure_of (at c.args.tables.now) _ c.in-Some.body _ c.args.name.now c.in-Some.ensures (c.is_local.ensures)
    (c.declares.ensures) c.if-is_local.false c.if-declares.false c.any_function.ensures
