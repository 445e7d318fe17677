use Rattle.std.proofs.Common.{arith}
use Rattle.py_data.specs.declared.change.Change.TheVariants.{Cut}
use Rattle.seg_store.proofs.Stores.{either, told}
use Rattle.paged_store.proofs.StoreCalls.{segment_in}
use Rattle.paged_store.proofs.StoreEnds.{table_segment}
use Rattle.paged_store.proofs.StoreChanges.{stands, readable, few, read_length, left_is, cut_stands, cut_refused}
use Rattle.paged_store.proofs.store.PagedStore.cut_to.Goals as goal

pub index_mut-draft-requires : goal.index_mut-draft-requires
index_mut-draft-requires c = let l = segment_in c.args.self.now c.args.k c.requires.segment in
    omega (arith, l, c.args.self.now.drafts.ok.0)

pub cut-requires-clause-segment : goal.cut-requires-clause-segment
cut-requires-clause-segment c = table_segment c.args.self.now c.args.k c.requires.segment

pub len-requires : goal.len-requires
len-requires c = readable c.args.self.now c.args.k c.args.a.0 c.requires.segment (Cut c.args.n) c.requires.there

pub overflow_cast-left : goal.overflow_cast-left
overflow_cast-left c =
    let m = few c.args.self.now c.args.k c.args.a.0 c.requires.segment (Cut c.args.n) c.requires.there in
    let e = read_length c.args.self.now c.args.k c.args.a.0 in
    omega (arith, m, e, c.min-left.ensures, c.len.ensures)

pub cut-requires-clause-head : goal.cut-requires-clause-head
cut-requires-clause-head c = (stands c.args.self.now c.args.k c.args.a.0 c.requires.segment (Cut c.args.n)
    c.requires.there).head

pub invariant_of-self : goal.invariant_of-self
invariant_of-self c = record {
  sound = either _ c.cut.result c.cut.ensures.ok c.cut.ensures.err
      (λ e. (cut_stands c.args.self.now c.args.k c.args.a.0 c.requires.segment c.requires.held
      c.index_mut-draft.result.now
      c.index_mut-draft.ensures.value c.cut.new.draft c.cut.new.pages c.args.n c.min-left.result c.requires.there
      (left_is c.args.self.now c.args.k c.args.a.0 c.args.n c.min-left.result c.len.result c.min-left.ensures
      c.len.ensures) e).sound)
      (λ e. (cut_refused c.args.self.now c.args.k c.args.a.0 c.requires.segment c.requires.held
      c.index_mut-draft.result.now
      c.index_mut-draft.ensures.value c.cut.new.draft c.cut.new.pages e).sound);
}

pub returns-in_err-cut-clause-err : goal.returns-in_err-cut-clause-err
returns-in_err-cut-clause-err c = told c.from_residual.result
    (cut_refused c.args.self.now c.args.k c.args.a.0 c.requires.segment c.requires.held c.index_mut-draft.result.now
    c.index_mut-draft.ensures.value c.cut.new.draft c.cut.new.pages c.in_err-cut.ensures.err).means

pub returns-clause-ok : goal.returns-clause-ok
returns-clause-ok c = (cut_stands c.args.self.now c.args.k c.args.a.0 c.requires.segment c.requires.held
    c.index_mut-draft.result.now
    c.index_mut-draft.ensures.value c.cut.new.draft c.cut.new.pages c.args.n c.min-left.result c.requires.there
    (left_is c.args.self.now c.args.k c.args.a.0 c.args.n c.min-left.result c.len.result c.min-left.ensures
    c.len.ensures) c.in_ok-cut.ensures.ok).means

pub returns-in_err-cut-clause-peaks : goal.returns-in_err-cut-clause-peaks
returns-in_err-cut-clause-peaks c = λ i n. (c.in_err-cut.ensures.err.wrote.same.shelf i n).total

pub returns-clause-peaks : goal.returns-clause-peaks
returns-clause-peaks c = λ i n. (c.in_ok-cut.ensures.ok.same.shelf i n).total
