-- The call of a builtin holds, for all rules.
use Rattle.py_data.specs.Heap.{Heap}
use Rattle.py_data.specs.Order.{Rules}
use Rattle.obj_str.proofs.StrHolds.{str_holds}
use Rattle.obj_methods.proofs.MethodsHold.{methods_hold}
use Rattle.obj_threads.proofs.ThreadsHold.{threads_hold}
use Rattle.obj_builtins.specs.CallLaws.{CallHolds}
use Rattle.obj_builtins.proofs.CallHolds as calls
use Rattle.obj_builtins.proofs.Holding.{functions_hold}

pub call_holds : {S : Type 0} (rules : Rules) (stands : Heap → S → Type 0) → CallHolds rules stands
call_holds rules stands = calls.call_holds rules stands (functions_hold rules stands) (methods_hold rules stands)
    (str_holds rules stands) (threads_hold rules stands)
