use Rattle.std.proofs.Common.{List, length, ◌∙◌, ap, arith}
use Rattle.std.proofs.lemmas.List.{length_push}
use Rattle.page_table.specs.Lists.{word_at}
use Rattle.paged_store.specs.declared.extent.Note.{Note}
use Rattle.paged_store.specs.Words.{Words}
use Rattle.paged_store.proofs.DeskLemmas.{noted_next}
use Rattle.paged_store.proofs.ready.note_run.Goals as goal

pub run-preserved : goal.run-preserved
unfolding word_at
run-preserved c = record {
  noted = λ (w : Words) run. noted_next w c.args.place c.run.j _ c.args.notes.now.items c.run.notes.items
      c.push_reserved.new.self.items (c.run.invariant.noted w run) c.push_reserved.ensures.items
      (run.each c.run.j (omega arith));
  room = let l = ap (λ (xs : List Note). length xs) c.push_reserved.ensures.items ∙ length_push c.run.notes.items _ in
      omega (arith, l, c.run.invariant.room, c.push_reserved.ensures.capacity, c.run-test.true);
}
