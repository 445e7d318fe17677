use Rattle.std.proofs.Common.{sym}
use Rattle.py_base.specs.Numbers.{builtin_names}
use Rattle.py_instrs.proofs.Numbering.{nowhere, past, within}
use Rattle.py_instrs.proofs.builtins.function_number.Goals as goal

pub returns-then-n-lt-THREAD_MODULE : goal.returns-then-n-lt-THREAD_MODULE
returns-then-n-lt-THREAD_MODULE c = sym (within 0 19 _ builtin_names c.args.name.now (sym c.in-Some.ensures)
    c.if-n-lt-THREAD_MODULE.true)

pub returns-else-n-lt-THREAD_MODULE : goal.returns-else-n-lt-THREAD_MODULE
returns-else-n-lt-THREAD_MODULE c = sym (past 0 19 _ builtin_names c.args.name.now (sym c.in-Some.ensures)
    c.if-n-lt-THREAD_MODULE.false)

pub returns-in-None : goal.returns-in-None
returns-in-None c = sym (nowhere 0 19 builtin_names c.args.name.now (sym c.in-None.ensures))
