use Rattle.std.proofs.Common.{[]}
use Rattle.obj_dict.specs.Listing.{tuples_row}
use Rattle.py_data.proofs.AfterLook.{look_then, safe_looked}
use Rattle.obj_dict.proofs.listing.tuples.Goals as goal

pub make_tuples-requires-clause-safe : goal.make_tuples-requires-clause-safe
make_tuples-requires-clause-safe g c = safe_looked g.V.View.sense g.met.V.View.lawful c.args.d.0 (λ r. tuples_row [] r.values)
    c.args.v.now c.len.new.self c.in_ok-n.ensures.shows.0 c.requires.safe

pub returns : goal.returns
returns g c = look_then g.V.View.sense g.met.V.View.lawful c.args.d.0 (λ r. tuples_row [] r.values) _ _ _ _
    c.in_ok-n.ensures.shows.0 c.make_tuples.ensures
