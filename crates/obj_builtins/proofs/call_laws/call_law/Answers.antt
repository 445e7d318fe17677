use Rattle.obj_builtins.proofs.CallHolds.{call_holds, call_steady}
use Rattle.obj_builtins.proofs.call_laws.call_law.Goals as goal

pub returns-clause-holds : goal.returns-clause-holds
returns-clause-holds g c = call_holds g.D.Demands.rules g.D.Demands.stands c.holds_law.ensures.holds
    c.holds_law-2.ensures.holds c.holds_law-3.ensures.holds c.holds_law-4.ensures.holds

pub returns-clause-steady : goal.returns-clause-steady
returns-clause-steady g c = call_steady _ c.holds_law.ensures.steady c.holds_law-2.ensures.steady
    c.holds_law-3.ensures.steady c.holds_law-4.ensures.steady
