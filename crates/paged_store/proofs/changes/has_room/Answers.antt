use Rattle.std.proofs.Common.{ℕ, ap, arith}
use Rattle.paged_store.proofs.InPlaceWords.{room_tells, few_values}
use Rattle.paged_store.proofs.changes.has_room.Goals as goal

pub overflow_add-result : goal.overflow_add-result
overflow_add-result c =
    let m = few_values _ c.args.a c.requires.kind c.requires.there.stands.formed in
    omega (arith, m, c.len.ensures, c.requires.more)

pub returns : goal.returns
returns c = room_tells _ c.args.a c.len.result c.args.more c.rooms-room.result.0 c.requires.kind c.len.ensures
    (ap {A = ℕ × ℕ} {B = ℕ} (λ x. x.0) c.rooms-room.ensures)
