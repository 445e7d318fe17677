use Rattle.obj_seq.specs.Gather.{gather_of}
use Rattle.py_data.proofs.AfterLook.{look_then, safe_looked}
use Rattle.obj_seq.proofs.gathering.gather_at.Goals as goal

pub gather_from-requires-clause-safe : goal.gather_from-requires-clause-safe
gather_from-requires-clause-safe g c = safe_looked g.V.View.sense g.met.V.View.lawful c.args.a.0 (gather_of c.args.a.0)
    _ _ c.in_ok-kind.ensures.0 c.requires.safe

pub returns : goal.returns
returns g c = look_then g.V.View.sense g.met.V.View.lawful c.args.a.0 (gather_of c.args.a.0) _ _ _ _
    c.in_ok-kind.ensures.0 c.gather_from.ensures
