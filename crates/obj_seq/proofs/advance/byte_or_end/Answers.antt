use Rattle.obj_seq.proofs.IterSteps.{made_leads}
use Rattle.obj_seq.proofs.advance.byte_or_end.Goals as goal

pub go_or_end-requires-clause-safe : goal.go_or_end-requires-clause-safe
go_or_end-requires-clause-safe g c =
    let l = made_leads g.met.V.View.lawful _ _ _ _ c.in_ok-text-in-Some.text.0 c.in-Some.is
    c.in_ok-made-in-Some.ensures c.requires.safe c.requires.live c.in_ok-text-in-Some.ensures in
    l.safe
