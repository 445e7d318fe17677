use Rattle.paged_store.proofs.ReadLemmas.{has_rooms_of, no_rooms_of, rooms_read, no_rooms}
use Rattle.paged_store.proofs.sight.rooms.Goals as goal

pub returns-in-List : goal.returns-in-List
returns-in-List c =
    let h = c.header-header.ensures in
    rooms_read _ c.args.a _ _ _ _ c.header-header.result.kind (has_rooms_of _ c.in-List.is) h.kind h.class h.first
    c.room.ensures c.room-in-List.ensures

pub returns-in_default : goal.returns-in_default
returns-in_default c =
    no_rooms _ c.args.a c.header-header.result.kind (no_rooms_of _ c.in_default.not-List c.in_default.not-Dict)
    c.header-header.ensures.kind
