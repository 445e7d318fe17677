use Rattle.obj_methods.proofs.Loops.{index_met}
use Rattle.obj_methods.proofs.searching.index.Goals as goal

pub returns-in_ok-place-in-Some : goal.returns-in_ok-place-in-Some
returns-in_ok-place-in-Some g c =
    index_met g.V.View.sense c.args.a.0 c.in-Some.x c.args.x c.in_ok-place-in-Some.place _ _ _ c.in-Some.is
    c.in_ok-place-in-Some.ensures c.found.ensures
