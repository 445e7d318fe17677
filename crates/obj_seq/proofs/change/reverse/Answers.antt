use Rattle.std.proofs.Common.{refl, reverse}
use Rattle.obj_seq.specs.Seq.{put_row}
use Rattle.obj_seq.proofs.PartSteps.{starved_looked}
use Rattle.py_data.proofs.Steps.{stop_as}
use Rattle.obj_seq.proofs.ReverseLoop.{reverse_leads}
use Rattle.obj_seq.proofs.change.reverse.Goals as goal

pub returns-in_err-values : goal.returns-in_err-values
returns-in_err-values g c =
    stop_as _ _ _ _ _ _ (starved_looked g.met.V.View.lawful _ _ _ (λ r. put_row c.args.a.0 0 (reverse r.values))
    c.in_ok-n.ensures.shows.0 refl c.in_err-values.ensures c.requires.safe c.requires.live)
    c.from_residual-in_err-values.ensures.1

pub put_reversed-requires-clause-live : goal.put_reversed-requires-clause-live
put_reversed-requires-clause-live g c =
    let l = reverse_leads g.met.V.View.lawful _ c.in_ok-n.ensures.shows.0 c.in_ok-n.ensures.shows.1
    c.in_ok-values.ensures c.requires.safe c.requires.live in
    l.live

pub put_reversed-requires-clause-safe : goal.put_reversed-requires-clause-safe
put_reversed-requires-clause-safe g c =
    let l = reverse_leads g.met.V.View.lawful _ c.in_ok-n.ensures.shows.0 c.in_ok-n.ensures.shows.1
    c.in_ok-values.ensures c.requires.safe c.requires.live in
    l.safe

pub returns : goal.returns
returns g c =
    let l = reverse_leads g.met.V.View.lawful _ c.in_ok-n.ensures.shows.0 c.in_ok-n.ensures.shows.1
    c.in_ok-values.ensures c.requires.safe c.requires.live in
    l.finish _ _ c.put_reversed.ensures
