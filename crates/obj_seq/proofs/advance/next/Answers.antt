use Rattle.obj_seq.proofs.IterSteps.{parts_leads}
use Rattle.obj_seq.proofs.advance.next.Goals as goal

pub next_by-requires-clause-safe : goal.next_by-requires-clause-safe
next_by-requires-clause-safe g c =
    let e = c.in_ok-parts.ensures.shows in
    let l = parts_leads g.met.V.View.lawful _ e.0 e.1 c.requires.safe c.requires.live in
    l.safe
