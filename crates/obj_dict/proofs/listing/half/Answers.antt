use Rattle.py_data.specs.Row.{Ret}
use Rattle.obj_dict.specs.Listing.{half}
use Rattle.py_data.proofs.AfterLook.{look_then}
use Rattle.obj_dict.proofs.listing.half.Goals as goal

pub returns : goal.returns
returns g c = look_then g.V.View.sense g.met.V.View.lawful c.args.d.0 (λ r. Ret (half c.args.second r.values)) _ _ _ _
    c.in_ok-n.ensures.shows.0 c.collect.ensures
