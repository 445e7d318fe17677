use Rattle.std.proofs.Common.{◌+◌, sym, subst}
use Rattle.page_table.specs.Lists.{table_of}
use Rattle.paged_store.proofs.PutLemmas.{can_at}
use Rattle.paged_store.proofs.SlotWrites.{puts_can}
use Rattle.paged_store.proofs.LeaveLemmas.{Fallen, one_falls, one_stays}
use Rattle.paged_store.proofs.leave.lower.Goals as goal
use Rattle.paged_store.proofs.leave.lower.Goals.{then-word-above, else-word-above}

pub write_word-requires-clause-own : goal.write_word-requires-clause-own
write_word-requires-clause-own c = (can_at c.args.k c.args.place c.args.n c.slots.s (table_of c.slots.pages)
    c.slots-test.true (puts_can c.args.k c.args.place c.args.n (table_of c.args.pages.now) (table_of c.slots.pages)
    c.slots.invariant.puts c.requires.may)).1

pub slots-preserved : goal.slots-preserved
slots-preserved c = elim c.if-word-above.branch [
  | then-word-above w ↦ subst (λ z. Fallen c.args.k c.args.place c.args.n (c.slots.s + 1) c.args.above
      (table_of c.args.pages.now) (table_of z)) (sym w.pages-is)
      (one_falls c.args.k c.args.place c.args.n c.slots.s c.args.above c.word-word.result (table_of c.args.pages.now)
      (table_of c.slots.pages) (table_of w.write_word.new.self) c.slots-test.true c.slots.invariant
      c.word-word.ensures w.if-word-above.true w.write_word.ensures)
  | else-word-above w ↦ subst (λ z. Fallen c.args.k c.args.place c.args.n (c.slots.s + 1) c.args.above
      (table_of c.args.pages.now) (table_of z)) (sym w.pages-is)
      (one_stays c.args.k c.args.place c.args.n c.slots.s c.args.above c.word-word.result
      (table_of c.args.pages.now) (table_of c.slots.pages) c.slots.invariant c.word-word.ensures
      w.if-word-above.false)
]
