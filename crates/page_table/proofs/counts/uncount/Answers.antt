use Rattle.std.proofs.Common.{ℕ}
use Rattle.page_table.specs.Pages.{Shelf as Extents}
use Rattle.page_table.proofs.CountedLemmas.{one_less}
use Rattle.page_table.proofs.counts.uncount.Goals as goal

pub returns-then-class-gt0-clause-back : goal.returns-then-class-gt0-clause-back
returns-then-class-gt0-clause-back c = λ (f : ℕ → Extents) none e.
    one_less c.args.class c.args.shelves.now.items c.index_mut.result.now c.uncount.new.self f c.if-class-gt0.true
    c.requires.class c.index_mut.ensures.value c.uncount.ensures none e
