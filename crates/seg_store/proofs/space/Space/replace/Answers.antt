use Rattle.std.proofs.Common.{rules}
use Rattle.seg_store.specs.inner.Table.{table_heap}
use Rattle.py_data.proofs.JournalLemmas.{noted_change}
use Rattle.seg_store.proofs.space.Space.replace.Goals as goal

pub invariant_of-self-2 : goal.invariant_of-self-2
invariant_of-self-2 c = record {
  undoable = (noted_change c.args.self.now.journal.items c.note.new.journal.items c.args.a c.args.c c.in_ok-undo.undo
      (table_heap c.args.self.now.records) (table_heap c.change.new.self) (search rules) c.in_ok-undo.ensures.ok
      c.args.self.now.undoable).undoable;
}

pub returns-clause-base : goal.returns-clause-base
returns-clause-base c =
    (noted_change c.args.self.now.journal.items c.note.new.journal.items c.args.a c.args.c c.in_ok-undo.undo
    (table_heap c.args.self.now.records) (table_heap c.change.new.self) (search rules) c.in_ok-undo.ensures.ok
    c.args.self.now.undoable).base
