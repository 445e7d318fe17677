use Rattle.std.proofs.Common.{[], length}
use Rattle.py_data.specs.inner.Rest.{Leads}
use Rattle.obj_str.specs.Cutting.{pieces_of}
use Rattle.obj_str.specs.Methods.{new_list, strings_then}
use Rattle.obj_str.proofs.splitting.make_pieces.Given as goal

abbrev pub invariant-turns : goal.invariant-turns
invariant-turns g l =
    Leads g.V.View.sense (strings_then new_list (pieces_of l.separator l.bytes) []) l.fn.v
    (strings_then new_list (pieces_of l.separator l.rest) l.values) l.v

abbrev pub decreases-turns : goal.decreases-turns
decreases-turns g l = length l.rest
