use Rattle.std.proofs.Common.{get_or, arith}
use Rattle.paged_store.proofs.BookSteps.{mem_place, release_step}
use Rattle.paged_store.proofs.books.release.Goals as goal

pub unlock-requires : goal.unlock-requires
unlock-requires c =
    let l = c.requires (get_or c.args.names.now c.names.a-index (record { 0 = 0 })).0
    (mem_place c.args.names.now c.names.a-index (record { 0 = 0 }) (omega arith)) in
    let e = c.names.invariant.sizes.granules in
    omega (arith, l, e)

pub names-preserved : goal.names-preserved
names-preserved c =
    release_step c.args.names.now c.names.a-index (record { 0 = 0 }) c.args.marks.now c.names.marks
    c.unlock.new.self (omega arith) c.names.invariant c.unlock.ensures.marks c.unlock.ensures.holders
    c.unlock.ensures.sizes
