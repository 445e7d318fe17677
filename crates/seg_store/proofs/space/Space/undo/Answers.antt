use Rattle.std.proofs.Common.{rules, sym, subst, ap, ◌∙◌}
use Rattle.seg_store.specs.inner.Table.{table_heap}
use Rattle.py_data.specs.Journal.{taken_back, IsUndoable}
use Rattle.py_data.proofs.JournalLemmas.{last_entry}
use Rattle.seg_store.proofs.space.Space.undo.Goals as goal

pub restore-requires : goal.restore-requires
restore-requires c = (last_entry c.pop.new.self.items c.entries.self.journal.items c.in-Some.a c.in-Some.undo
    (table_heap c.entries.self.records) (search rules) c.entries.self.undoable).can

pub invariant_of-self : goal.invariant_of-self
invariant_of-self c = record {
  undoable = subst (IsUndoable c.pop.new.self.items) (sym c.restore.ensures)
      (last_entry c.pop.new.self.items c.entries.self.journal.items c.in-Some.a c.in-Some.undo
      (table_heap c.entries.self.records) (search rules) c.entries.self.undoable).undoable;
}

pub entries-preserved : goal.entries-preserved
entries-preserved c =
    ap (taken_back c.pop.new.self.items) c.restore.ensures
    ∙ (last_entry c.pop.new.self.items c.entries.self.journal.items c.in-Some.a c.in-Some.undo
    (table_heap c.entries.self.records) (search rules) c.entries.self.undoable).base
    ∙ c.entries.invariant
