use Rattle.py_data.proofs.Looking.{looks_bind, looks_hold, looks_run}
use Rattle.py_data.proofs.laws.looks_law.Goals as goal

pub returns-clause-bind : goal.returns-clause-bind
returns-clause-bind g c = looks_bind g.P.Property.has g.Q.Property.has

pub returns-clause-holds : goal.returns-clause-holds
returns-clause-holds g c = looks_hold g.D.Demands.rules g.D.Demands.stands g.P.Property.has

pub returns-clause-run : goal.returns-clause-run
returns-clause-run g c = looks_run g.V.View.sense g.met.V.View.lawful g.P.Property.has
