use Rattle.std.proofs.Common.{rules, sym, subst, ap, ◌∙◌}
use Rattle.std.specs.Ordering.{nat_cmp}
use Rattle.std.specs.BTreeMap as tree
use Rattle.py_data.specs.Journal.{taken_back, IsUndoable}
use Rattle.py_data.proofs.JournalLemmas.{last_entry}
use Rattle.lock_run.proofs.space.Space.undo.Goals as goal

pub restore-requires : goal.restore-requires
restore-requires c = (last_entry c.pop.new.self.items c.loop-a.self.journal.items c.in-Some.a c.in-Some.undo
    (tree.get nat_cmp c.loop-a.self.records) (search rules) c.loop-a.self.undoable).can

pub invariant_of-self : goal.invariant_of-self
invariant_of-self c = record {
  undoable = subst (IsUndoable c.pop.new.self.items) (sym c.restore.ensures)
      (last_entry c.pop.new.self.items c.loop-a.self.journal.items c.in-Some.a c.in-Some.undo
      (tree.get nat_cmp c.loop-a.self.records) (search rules) c.loop-a.self.undoable).undoable;
}

pub loop-a-preserved : goal.loop-a-preserved
loop-a-preserved c =
    ap (taken_back c.pop.new.self.items) c.restore.ensures
    ∙ (last_entry c.pop.new.self.items c.loop-a.self.journal.items c.in-Some.a c.in-Some.undo
    (tree.get nat_cmp c.loop-a.self.records) (search rules) c.loop-a.self.undoable).base
    ∙ c.loop-a.invariant
