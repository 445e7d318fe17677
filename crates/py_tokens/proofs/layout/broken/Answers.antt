use Rattle.std.proofs.Common.{Ok, Err}
use Rattle.py_tokens.proofs.Laying.{breaks}
use Rattle.py_tokens.proofs.layout.broken.Goals as goal

pub returns-in-Ok : goal.returns-in-Ok
returns-in-Ok c = breaks (Ok tt) c.args.place _ c.args.reason c.args.mode _ _ _ _ c.before_place.ensures c.in-Ok.ensures

pub returns : goal.returns
returns c =
    breaks (Err c.in-Err.e) c.args.place _ c.args.reason c.args.mode _ _ _ _ c.before_place.ensures c.in-Err.ensures
