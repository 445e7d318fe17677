use Rattle.py_data.proofs.Steps.{safe_first, safe_then}
use Rattle.obj_dict.specs.Listing.{pairs_row, list_row}
use Rattle.obj_dict.proofs.listing.list_items.Goals as goal

pub tuples-requires-clause-safe : goal.tuples-requires-clause-safe
tuples-requires-clause-safe g c = safe_first _ (pairs_row c.args.d.0) list_row _ c.requires.safe

pub make_list-requires-clause-safe : goal.make_list-requires-clause-safe
make_list-requires-clause-safe g c = safe_then g.V.View.sense g.met.V.View.lawful (pairs_row c.args.d.0) list_row
    c.args.v.now c.tuples.new.v _ c.requires.safe c.in_ok-items.ensures
