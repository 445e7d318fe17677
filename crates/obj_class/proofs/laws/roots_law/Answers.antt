use Rattle.obj_class.proofs.ExceptionClasses.{exceptions_law}
use Rattle.obj_class.proofs.RootsKept.{roots_stay}
use Rattle.obj_class.proofs.laws.roots_law.Goals as goal

pub returns-clause-stay : goal.returns-clause-stay
returns-clause-stay c = roots_stay

pub returns-clause-exceptions : goal.returns-clause-exceptions
returns-clause-exceptions c = exceptions_law
