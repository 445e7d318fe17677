use Rattle.std.proofs.Common.{rules}
use Rattle.std.specs.Ordering.{nat_cmp}
use Rattle.std.specs.BTreeMap as tree
use Rattle.py_data.proofs.JournalLemmas.{noted_made}
use Rattle.lock_run.proofs.space.Space.add.Goals as goal

pub invariant_of-self-2 : goal.invariant_of-self-2
invariant_of-self-2 c = record {
  undoable = (noted_made c.args.self.now.journal.items c.note.new.journal.items c.args.a c.args.r
      (tree.get nat_cmp c.args.self.now.records) (tree.get nat_cmp c.place.new.records) (search rules) (search rules)
      c.requires c.args.self.now.undoable).undoable;
}

pub returns-clause-base : goal.returns-clause-base
returns-clause-base c =
    (noted_made c.args.self.now.journal.items c.note.new.journal.items c.args.a c.args.r
    (tree.get nat_cmp c.args.self.now.records) (tree.get nat_cmp c.place.new.records) (search rules) (search rules)
    c.requires c.args.self.now.undoable).base
