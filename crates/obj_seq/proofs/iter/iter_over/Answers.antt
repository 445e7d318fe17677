use Rattle.std.proofs.Common.{sym, ◌∙◌, ap}
use Rattle.obj_seq.specs.Iter.{is_iter}
use Rattle.obj_seq.proofs.IterSteps.{iter_leads}
use Rattle.obj_seq.proofs.iter.iter_over.Goals as goal

pub iter_of-requires-clause-safe : goal.iter_of-requires-clause-safe
iter_of-requires-clause-safe g c =
    let l = iter_leads g.met.V.View.lawful _ c.in_ok-kind.ensures.0 c.in_ok-count.ensures.shows.0
    (ap is_iter (sym c.in_ok-kind.ensures.1) ∙ sym c.is_iter.ensures ∙ c.if-is_iter.false)
    c.in_ok-count.ensures.shows.1 c.requires.safe c.requires.live in
    l.safe

pub returns : goal.returns
returns g c =
    let l = iter_leads g.met.V.View.lawful _ c.in_ok-kind.ensures.0 c.in_ok-count.ensures.shows.0
    (ap is_iter (sym c.in_ok-kind.ensures.1) ∙ sym c.is_iter.ensures ∙ c.if-is_iter.false)
    c.in_ok-count.ensures.shows.1 c.requires.safe c.requires.live in
    l.finish _ _ c.iter_of.ensures
