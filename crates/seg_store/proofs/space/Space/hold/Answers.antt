use Rattle.std.proofs.Common.{rules}
use Rattle.seg_store.specs.inner.Table.{table_heap}
use Rattle.seg_store.proofs.Back.{laid, laid_try, back_same}
use Rattle.seg_store.proofs.space.Space.hold.Goals as goal

pub invariant_of-self : goal.invariant_of-self
invariant_of-self c = record {
  undoable = laid_try c.put.result c.args.self.now.journal.items c.args.a c.args.r (table_heap c.args.self.now.records)
      (table_heap c.put.new.self) c.put.ensures.ok c.put.ensures.err c.requires c.args.self.now.undoable;
}

pub returns-clause-base : goal.returns-clause-base
returns-clause-base c =
    (laid c.args.self.now.journal.items c.args.a c.args.r (table_heap c.args.self.now.records)
    (table_heap c.put.new.self) (search rules) c.requires c.args.self.now.undoable).base

pub returns-in_err-put-clause-err_base : goal.returns-in_err-put-clause-err_base
returns-in_err-put-clause-err_base c = back_same c.from_residual.result c.args.self.now.journal.items
    (table_heap c.args.self.now.records) (table_heap c.put.new.self) c.in_err-put.ensures.err
