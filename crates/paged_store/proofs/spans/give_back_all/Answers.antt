use Rattle.std.proofs.Common.{arith}
use Rattle.page_table.specs.Lists.{table_of}
use Rattle.paged_store.proofs.GiveSteps.{room_left, give_step}
use Rattle.paged_store.proofs.spans.give_back_all.Goals as goal

pub give_back-requires-clause-out : goal.give_back-requires-clause-out
give_back-requires-clause-out c =
    let l = room_left c.extents.extent-index c.args.extents.now (record { place = 0; class = 0 })
    (table_of c.args.pages.now) (table_of c.extents.pages) (omega arith) c.requires.room c.extents.invariant in
    omega (arith, l)

pub extents-preserved : goal.extents-preserved
extents-preserved c =
    let h = c.requires.classes c.extents.extent-index _ (omega arith) in
    give_step c.extents.extent-index c.args.extents.now _ _ _ _ (omega arith) h.0 h.1 c.extents.invariant
    c.give_back.ensures
