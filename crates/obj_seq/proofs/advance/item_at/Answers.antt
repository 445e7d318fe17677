use Rattle.obj_seq.proofs.Heads.{set_item}
use Rattle.obj_seq.proofs.advance.item_at.Goals as goal

pub returns-in_default : goal.returns-in_default
returns-in_default g c =
    let e = c.in_ok-x.ensures in
    record { shows = (e.0, set_item _ c.args.at c.in_ok-x.x e.1 c.in_default.not-Unset); fits = c.if-at.true }
