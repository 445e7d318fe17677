use Rattle.std.proofs.Common.{arith}
use Rattle.std.proofs.lemmas.Result.{err_from_is_err_and}
use Rattle.py_data.specs.declared.change.Change.TheVariants.{Pair}
use Rattle.seg_store.proofs.Stores.{told}
use Rattle.page_table.specs.Lists.{table_of}
use Rattle.paged_store.proofs.StoreCalls.{segment_in}
use Rattle.paged_store.proofs.StoreEnds.{table_segment}
use Rattle.paged_store.proofs.GrowStore.{keeps, dict_grows, dict_refuses, dict_asks, ungrown_stands, dict_gains, grow_refused, grow_over}
use Rattle.paged_store.proofs.GrowPair.{can_index, is_blank, dict_stands, dict_rises, dict_fits}
use Rattle.paged_store.proofs.store.PagedStore.grow_pair.Goals as goal

pub index_mut-draft-requires : goal.index_mut-draft-requires
index_mut-draft-requires c = let l = segment_in c.args.self.now c.args.k c.requires.segment in
    omega (arith, l, c.args.self.now.drafts.ok.0)

pub grow-requires-clause-segment : goal.grow-requires-clause-segment
grow-requires-clause-segment c = table_segment c.args.self.now c.args.k c.requires.segment

pub grow-requires-clause-grows : goal.grow-requires-clause-grows
grow-requires-clause-grows c = dict_grows c.args.self.now c.args.k c.args.d.0 c.requires.segment c.requires.held
    c.args.key c.args.v c.requires.there c.requires.full

pub grow-requires-clause-keeps : goal.grow-requires-clause-keeps
grow-requires-clause-keeps c = keeps c.args.self.now c.args.k c.args.d.0 c.requires.segment c.requires.held

pub fill_index-requires-clause-can : goal.fill_index-requires-clause-can
fill_index-requires-clause-can c = can_index c.args.self.now c.args.k c.args.d.0 c.requires.segment c.requires.held
    c.index_mut-draft.result.now c.index_mut-draft.ensures.value c.grow.new.draft c.grow.new.pages c.grow.ensures.most
    c.args.key c.args.v c.requires.there c.requires.full c.known_value.ensures c.known_value-2.ensures
    c.in_ok-grow.ensures.ok

pub fill_index-requires-clause-blank : goal.fill_index-requires-clause-blank
fill_index-requires-clause-blank c = is_blank c.args.self.now c.args.k c.args.d.0 c.requires.segment c.requires.held
    c.index_mut-draft.result.now c.index_mut-draft.ensures.value c.grow.new.draft c.grow.new.pages c.grow.ensures.most
    c.args.key c.args.v c.requires.there c.requires.full c.known_value.ensures c.known_value-2.ensures
    c.in_ok-grow.ensures.ok

pub invariant_of-self : goal.invariant_of-self
invariant_of-self c = record {
  sound = (ungrown_stands c.args.self.now c.args.k c.args.d.0 c.requires.segment c.requires.held
      c.index_mut-draft.result.now
      c.index_mut-draft.ensures.value c.grow.new.draft c.grow.new.pages c.grow.ensures.most
      c.in_err-grow.ensures.err).sound;
}

pub invariant_of-self-2 : goal.invariant_of-self-2
invariant_of-self-2 c = record {
  sound = (dict_stands c.args.self.now c.args.k c.args.d.0 c.requires.segment c.requires.held
      c.index_mut-draft.result.now
      c.index_mut-draft.ensures.value c.grow.new.draft c.grow.new.pages c.grow.ensures.most c.args.key c.args.v
      c.requires.there c.requires.full c.known_value.ensures c.known_value-2.ensures c.in_ok-grow.ensures.ok
      c.fill_index.new.pages c.fill_index.ensures.puts c.fill_index.ensures.index).sound;
}

pub returns-in_err-grow-clause-err : goal.returns-in_err-grow-clause-err
returns-in_err-grow-clause-err c = told c.from_residual.result
    (ungrown_stands c.args.self.now c.args.k c.args.d.0 c.requires.segment c.requires.held c.index_mut-draft.result.now
    c.index_mut-draft.ensures.value c.grow.new.draft c.grow.new.pages c.grow.ensures.most
    c.in_err-grow.ensures.err).means

pub returns-in_err-grow-clause-cause : goal.returns-in_err-grow-clause-cause
returns-in_err-grow-clause-cause c =
    let p = err_from_is_err_and c.from_residual.result c.from_residual.ensures.1 in
    rw (p.1, p.2) (dict_refuses c.args.self.now c.args.k c.args.d.0 c.requires.segment c.requires.held
    (table_of c.grow.new.pages) _ c.in_err-grow.ensures.cause
    c.args.key c.args.v c.requires.there c.requires.full)

pub returns-in_err-grow-clause-asked : goal.returns-in_err-grow-clause-asked
returns-in_err-grow-clause-asked c =
    let p = err_from_is_err_and c.from_residual.result c.from_residual.ensures.1 in
    rw (p.1, p.2) (dict_asks c.args.self.now c.args.k c.args.d.0 c.requires.segment c.requires.held
    (table_of c.grow.new.pages) _ c.in_err-grow.ensures.cause
    c.args.key c.args.v c.requires.there c.requires.full)

pub returns-in_err-grow-clause-over : goal.returns-in_err-grow-clause-over
returns-in_err-grow-clause-over c =
    let p = err_from_is_err_and c.from_residual.result c.from_residual.ensures.1 in
    rw (p.1, p.2) (grow_over c.args.self.now c.args.k c.args.d.0 c.requires.segment (Pair c.args.key c.args.v)
    c.requires.there (table_of c.grow.new.pages) _
    (dict_gains c.args.self.now c.args.k c.args.d.0 c.requires.segment c.requires.held c.args.key c.args.v
    c.requires.there c.requires.full) c.grow.ensures.filled c.grow.ensures.rises c.in_err-grow.ensures.cause)

pub returns-clause-ok : goal.returns-clause-ok
returns-clause-ok c = (dict_stands c.args.self.now c.args.k c.args.d.0 c.requires.segment c.requires.held
    c.index_mut-draft.result.now
    c.index_mut-draft.ensures.value c.grow.new.draft c.grow.new.pages c.grow.ensures.most c.args.key c.args.v
    c.requires.there c.requires.full c.known_value.ensures c.known_value-2.ensures c.in_ok-grow.ensures.ok
    c.fill_index.new.pages c.fill_index.ensures.puts c.fill_index.ensures.index).means

pub returns-in_err-grow-clause-rises_err : goal.returns-in_err-grow-clause-rises_err
returns-in_err-grow-clause-rises_err c = told c.from_residual.result
    (grow_refused c.args.self.now c.args.k c.args.d.0 c.requires.segment (Pair c.args.key c.args.v) c.requires.there
    (table_of c.grow.new.pages)
    (dict_gains c.args.self.now c.args.k c.args.d.0 c.requires.segment c.requires.held c.args.key c.args.v
    c.requires.there c.requires.full) c.grow.ensures.rises)

pub returns-clause-rises : goal.returns-clause-rises
returns-clause-rises c = dict_rises c.args.self.now c.args.k c.args.d.0 c.requires.segment c.requires.held
    c.index_mut-draft.result.now c.index_mut-draft.ensures.value c.grow.new.draft c.grow.new.pages c.grow.ensures.most
    c.args.key c.args.v c.requires.there c.requires.full c.known_value.ensures c.known_value-2.ensures
    c.in_ok-grow.ensures.ok c.fill_index.new.pages c.fill_index.ensures.puts _ c.grow.ensures.rises
    (dict_stands c.args.self.now c.args.k c.args.d.0 c.requires.segment c.requires.held
    c.index_mut-draft.result.now
    c.index_mut-draft.ensures.value c.grow.new.draft c.grow.new.pages c.grow.ensures.most c.args.key c.args.v
    c.requires.there c.requires.full c.known_value.ensures c.known_value-2.ensures c.in_ok-grow.ensures.ok
    c.fill_index.new.pages c.fill_index.ensures.puts c.fill_index.ensures.index)

pub returns-clause-fits : goal.returns-clause-fits
returns-clause-fits c = dict_fits c.args.self.now c.args.k c.args.d.0 c.requires.segment c.requires.held
    c.index_mut-draft.result.now c.index_mut-draft.ensures.value c.grow.new.draft c.grow.new.pages c.grow.ensures.most
    c.args.key c.args.v c.requires.there c.requires.full c.known_value.ensures c.known_value-2.ensures
    c.in_ok-grow.ensures.ok c.fill_index.new.pages c.fill_index.ensures.puts _ c.grow.ensures.rises
    (dict_stands c.args.self.now c.args.k c.args.d.0 c.requires.segment c.requires.held
    c.index_mut-draft.result.now
    c.index_mut-draft.ensures.value c.grow.new.draft c.grow.new.pages c.grow.ensures.most c.args.key c.args.v
    c.requires.there c.requires.full c.known_value.ensures c.known_value-2.ensures c.in_ok-grow.ensures.ok
    c.fill_index.new.pages c.fill_index.ensures.puts c.fill_index.ensures.index) c.grow.ensures.filled
