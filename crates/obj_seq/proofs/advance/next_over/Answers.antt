use Rattle.obj_seq.proofs.Heads.{text_leads, item_leads}
use Rattle.obj_seq.proofs.advance.next_over.Goals as goal

pub byte_or_end-requires-clause-safe : goal.byte_or_end-requires-clause-safe
byte_or_end-requires-clause-safe g c =
    let h = c.in_ok-look_ahead.ensures.shows in
    let b = c.in_ok-byte-in-Text.ensures.shows in
    let l = text_leads g.met.V.View.lawful c.args.it.0 c.args.parts.at c.args.parts.count c.in_ok-look_ahead.field-0
    h.0 h.1 c.requires.safe c.requires.live c.in_ok-byte-in-Text.byte c.in-Text.is b.0 b.1 in
    l.safe

pub go_or_end-requires-clause-safe : goal.go_or_end-requires-clause-safe
go_or_end-requires-clause-safe g c =
    let h = c.in_ok-look_ahead.ensures.shows in
    let l = item_leads g.met.V.View.lawful c.args.it.0 c.args.parts.at c.args.parts.count c.in_ok-look_ahead.field-0
    h.0 h.1 c.requires.safe c.requires.live c.in-Item.x c.in-Item.is in
    l.safe
