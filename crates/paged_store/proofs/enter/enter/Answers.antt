use Rattle.std.proofs.Common.{◌+◌, arith}
use Rattle.page_table.specs.Lists.{table_of}
use Rattle.paged_store.proofs.SlotWrites.{puts_word}
use Rattle.paged_store.proofs.EnterLemmas.{slots_room, slots_most, entered}
use Rattle.paged_store.proofs.enter.enter.Goals as goal

pub overflow_mul-m : goal.overflow_mul-m
overflow_mul-m c = omega (
  arith,
  c.requires.pair,
  slots_room c.args.k c.args.d c.args.place c.args.n (table_of c.args.pages.now) c.requires.can.slots,
  slots_most c.args.k c.args.d c.args.place c.args.n (table_of c.args.pages.now) c.requires.can.slots,
)

pub home-start-requires-clause-some : goal.home-start-requires-clause-some
home-start-requires-clause-some c =
    omega (arith, slots_room c.args.k c.args.d c.args.place c.args.n (table_of c.args.pages.now) c.requires.can.slots)

pub home-start-requires-clause-few : goal.home-start-requires-clause-few
home-start-requires-clause-few c =
    omega (arith, slots_most c.args.k c.args.d c.args.place c.args.n (table_of c.args.pages.now) c.requires.can.slots)

pub empty_slot-s-requires-clause-room : goal.empty_slot-s-requires-clause-room
empty_slot-s-requires-clause-room c = omega (
  arith,
  c.requires.pair,
  c.requires.index.used,
  slots_room c.args.k c.args.d c.args.place c.args.n (table_of c.args.pages.now) c.requires.can.slots,
)

pub overflow_add-m : goal.overflow_add-m
overflow_add-m c = omega (
  arith,
  c.requires.pair,
  slots_room c.args.k c.args.d c.args.place c.args.n (table_of c.args.pages.now) c.requires.can.slots,
  slots_most c.args.k c.args.d c.args.place c.args.n (table_of c.args.pages.now) c.requires.can.slots,
)

pub returns-clause-puts : goal.returns-clause-puts
returns-clause-puts c = puts_word c.args.k c.args.place c.args.n c.empty_slot-s.result (c.args.m + 1)
    (table_of c.args.pages.now) (table_of c.write_word.new.self) c.empty_slot-s.ensures.within c.write_word.ensures

pub returns-clause-index : goal.returns-clause-index
returns-clause-index c = entered c.args.k c.args.d c.args.place c.args.n c.args.m c.home-start.result
    c.empty_slot-s.result c.val.result (table_of c.args.pages.now) (table_of c.write_word.new.self) c.requires.can.slots
    c.requires.index c.val.ensures c.home-start.ensures.value c.empty_slot-s.ensures.first c.write_word.ensures
