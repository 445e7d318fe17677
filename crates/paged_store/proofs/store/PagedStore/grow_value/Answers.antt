use Rattle.std.proofs.Common.{[], ◌∷◌, arith}
use Rattle.std.proofs.lemmas.Result.{err_from_is_err_and}
use Rattle.py_data.specs.declared.change.Change.TheVariants.{Push}
use Rattle.seg_store.proofs.Stores.{either, told}
use Rattle.page_table.specs.Lists.{table_of}
use Rattle.paged_store.proofs.StoreCalls.{segment_in}
use Rattle.paged_store.proofs.StoreEnds.{table_segment}
use Rattle.paged_store.proofs.GrowStore.{keeps, list_grows, list_filled, list_stands, list_refuses, list_asks, ungrown_stands, list_gains, grow_refused, grow_over, grew_rises, grew_fits}
use Rattle.paged_store.proofs.store.PagedStore.grow_value.Goals as goal

pub index_mut-draft-requires : goal.index_mut-draft-requires
index_mut-draft-requires c = let l = segment_in c.args.self.now c.args.k c.requires.segment in
    omega (arith, l, c.args.self.now.drafts.ok.0)

pub grow-requires-clause-segment : goal.grow-requires-clause-segment
grow-requires-clause-segment c = table_segment c.args.self.now c.args.k c.requires.segment

pub grow-requires-clause-grows : goal.grow-requires-clause-grows
grow-requires-clause-grows c = list_grows c.args.self.now c.args.k c.args.a.0 c.requires.segment c.requires.held
    c.args.v c.requires.there c.requires.full

pub grow-requires-clause-keeps : goal.grow-requires-clause-keeps
grow-requires-clause-keeps c = keeps c.args.self.now c.args.k c.args.a.0 c.requires.segment c.requires.held

pub invariant_of-self : goal.invariant_of-self
invariant_of-self c = record {
  sound = either _ c.grow.result c.grow.ensures.ok c.grow.ensures.err
      (λ e. (list_stands c.args.self.now c.args.k c.args.a.0 c.requires.segment c.requires.held
      c.index_mut-draft.result.now
      c.index_mut-draft.ensures.value c.grow.new.draft c.grow.new.pages c.grow.ensures.most c.args.v c.requires.there
      c.requires.full c.known_value.ensures e).sound)
      (λ e. (ungrown_stands c.args.self.now c.args.k c.args.a.0 c.requires.segment c.requires.held
      c.index_mut-draft.result.now
      c.index_mut-draft.ensures.value c.grow.new.draft c.grow.new.pages c.grow.ensures.most e).sound);
}

pub returns-in_err-grow-clause-err : goal.returns-in_err-grow-clause-err
returns-in_err-grow-clause-err c = told c.from_residual.result
    (ungrown_stands c.args.self.now c.args.k c.args.a.0 c.requires.segment c.requires.held c.index_mut-draft.result.now
    c.index_mut-draft.ensures.value c.grow.new.draft c.grow.new.pages c.grow.ensures.most
    c.in_err-grow.ensures.err).means

pub returns-in_err-grow-clause-cause : goal.returns-in_err-grow-clause-cause
returns-in_err-grow-clause-cause c =
    let p = err_from_is_err_and c.from_residual.result c.from_residual.ensures.1 in
    rw (p.1, p.2) (list_refuses c.args.self.now c.args.k c.args.a.0 c.requires.segment c.requires.held
    (table_of c.grow.new.pages) _ c.in_err-grow.ensures.cause
    c.args.v c.requires.there c.requires.full)

pub returns-in_err-grow-clause-asked : goal.returns-in_err-grow-clause-asked
returns-in_err-grow-clause-asked c =
    let p = err_from_is_err_and c.from_residual.result c.from_residual.ensures.1 in
    rw (p.1, p.2) (list_asks c.args.self.now c.args.k c.args.a.0 c.requires.segment c.requires.held
    (table_of c.grow.new.pages) _ c.in_err-grow.ensures.cause
    c.args.v c.requires.there c.requires.full)

pub returns-in_err-grow-clause-over : goal.returns-in_err-grow-clause-over
returns-in_err-grow-clause-over c =
    let p = err_from_is_err_and c.from_residual.result c.from_residual.ensures.1 in
    rw (p.1, p.2) (grow_over c.args.self.now c.args.k c.args.a.0 c.requires.segment (Push c.args.v) c.requires.there
    (table_of c.grow.new.pages) _
    (list_gains c.args.self.now c.args.k c.args.a.0 c.requires.segment c.requires.held c.args.v c.requires.there
    c.requires.full) c.grow.ensures.filled c.grow.ensures.rises c.in_err-grow.ensures.cause)

pub returns-clause-ok : goal.returns-clause-ok
returns-clause-ok c = (list_stands c.args.self.now c.args.k c.args.a.0 c.requires.segment c.requires.held
    c.index_mut-draft.result.now
    c.index_mut-draft.ensures.value c.grow.new.draft c.grow.new.pages c.grow.ensures.most c.args.v c.requires.there
    c.requires.full c.known_value.ensures c.in_ok-grow.ensures.ok).means

pub returns-in_err-grow-clause-rises_err : goal.returns-in_err-grow-clause-rises_err
returns-in_err-grow-clause-rises_err c = told c.from_residual.result
    (grow_refused c.args.self.now c.args.k c.args.a.0 c.requires.segment (Push c.args.v) c.requires.there
    (table_of c.grow.new.pages)
    (list_gains c.args.self.now c.args.k c.args.a.0 c.requires.segment c.requires.held c.args.v c.requires.there
    c.requires.full) c.grow.ensures.rises)

pub returns-clause-rises : goal.returns-clause-rises
returns-clause-rises c = grew_rises c.args.self.now c.args.k c.args.a.0 c.requires.segment c.requires.held
    c.index_mut-draft.result.now c.index_mut-draft.ensures.value c.grow.new.draft c.grow.new.pages c.grow.ensures.most
    (c.args.v ∷ []) _
    (list_filled c.args.self.now c.args.k c.args.a.0 c.requires.segment c.requires.held c.index_mut-draft.result.now
    c.index_mut-draft.ensures.value c.grow.new.draft c.grow.new.pages c.grow.ensures.most c.args.v
    c.in_ok-grow.ensures.ok) c.grow.ensures.rises
    (list_stands c.args.self.now c.args.k c.args.a.0 c.requires.segment c.requires.held
    c.index_mut-draft.result.now
    c.index_mut-draft.ensures.value c.grow.new.draft c.grow.new.pages c.grow.ensures.most c.args.v c.requires.there
    c.requires.full c.known_value.ensures c.in_ok-grow.ensures.ok)

pub returns-clause-fits : goal.returns-clause-fits
returns-clause-fits c = grew_fits c.args.self.now c.args.k c.args.a.0 c.requires.segment c.requires.held
    c.index_mut-draft.result.now c.index_mut-draft.ensures.value c.grow.new.draft c.grow.new.pages c.grow.ensures.most
    (c.args.v ∷ []) (Push c.args.v) _ c.requires.there
    (list_gains c.args.self.now c.args.k c.args.a.0 c.requires.segment c.requires.held c.args.v c.requires.there
    c.requires.full)
    (list_filled c.args.self.now c.args.k c.args.a.0 c.requires.segment c.requires.held c.index_mut-draft.result.now
    c.index_mut-draft.ensures.value c.grow.new.draft c.grow.new.pages c.grow.ensures.most c.args.v
    c.in_ok-grow.ensures.ok) c.grow.ensures.rises
    (list_stands c.args.self.now c.args.k c.args.a.0 c.requires.segment c.requires.held
    c.index_mut-draft.result.now
    c.index_mut-draft.ensures.value c.grow.new.draft c.grow.new.pages c.grow.ensures.most c.args.v c.requires.there
    c.requires.full c.known_value.ensures c.in_ok-grow.ensures.ok) c.grow.ensures.filled
