use Rattle.py_data.proofs.Holding.{holds_bind, holds_safe, holds_run, holds_does}
use Rattle.py_data.proofs.laws.holds_law.Goals as goal

pub returns-clause-bind : goal.returns-clause-bind
returns-clause-bind g c = holds_bind g.D.Demands.rules g.D.Demands.stands g.P.Property.has g.Q.Property.has

pub returns-clause-safe : goal.returns-clause-safe
returns-clause-safe g c = holds_safe g.D.Demands.rules g.D.Demands.stands g.D.Demands.lasting g.P.Property.has

pub returns-clause-run : goal.returns-clause-run
returns-clause-run g c = holds_run g.D.Demands.rules g.D.Demands.stands g.D.Demands.lasting g.V.View.sense
    g.met.V.View.lawful g.P.Property.has

pub returns-clause-does : goal.returns-clause-does
returns-clause-does g c = holds_does g.D.Demands.rules g.D.Demands.stands g.D.Demands.lasting g.D.Demands.stay
    g.P.Property.has
