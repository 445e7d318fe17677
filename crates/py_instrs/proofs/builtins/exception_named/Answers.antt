use Rattle.std.proofs.Common.{sym}
use Rattle.py_base.specs.Numbers.{class_names}
use Rattle.py_instrs.proofs.Numbering.{past}
use Rattle.py_instrs.proofs.builtins.exception_named.Goals as goal

pub returns-else-n-lt-THREAD_ERROR : goal.returns-else-n-lt-THREAD_ERROR
returns-else-n-lt-THREAD_ERROR c = sym (past 0 19 _ class_names c.args.name.now (sym c.in-Some.ensures)
    c.if-n-lt-THREAD_ERROR.false)
