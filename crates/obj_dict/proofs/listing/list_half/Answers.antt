use Rattle.py_data.proofs.Steps.{safe_first, safe_then}
use Rattle.obj_dict.specs.Listing.{half_row, list_row}
use Rattle.obj_dict.proofs.listing.list_half.Goals as goal

pub half-requires-clause-safe : goal.half-requires-clause-safe
half-requires-clause-safe g c = safe_first _ (half_row c.args.d.0 c.args.second) list_row _ c.requires.safe

pub make_list-requires-clause-safe : goal.make_list-requires-clause-safe
make_list-requires-clause-safe g c = safe_then g.V.View.sense g.met.V.View.lawful (half_row c.args.d.0 c.args.second)
    list_row c.args.v.now c.half.new.v _ c.requires.safe c.in_ok-items.ensures
