use Rattle.std.proofs.Common.{[], ◌∷◌, ◌++◌, Some, length, ◌∙◌, ap}
use Rattle.std.specs.Ordering.{nat_cmp}
use Rattle.std.specs.BTreeMap as tree
use Rattle.lock_run.specs.Space.{space_heap, space_base}
use Rattle.stm_pieces.specs.declared.lent.OnTerms.{OnTerms}
use Rattle.stm_pieces.specs.PieceState.{but_at}
use Rattle.stm_pieces.proofs.Laying.{laid_more, laid_same}
use Rattle.stm_pieces.proofs.Naming.{names_more}
use Rattle.stm_pieces.proofs.lent.Lent.lend.Goals as goal

pub invariant_of-self-in-Ok : goal.invariant_of-self-in-Ok
invariant_of-self-in-Ok c = record {
  named = names_more c.args.self.now.names.items c.name.new.names.items (tree.get nat_cmp c.args.self.now.loaned)
      (tree.get nat_cmp c.put.new.loaned) c.args.a _
      (c.name.ensures ∙ ap (λ xs. xs ++ c.args.a ∷ []) c.reserve.ensures.items) c.in-Ok.ensures.ok
      c.args.self.now.named;
}

pub returns-in-Ok-clause-ok : goal.returns-in-Ok-clause-ok
returns-in-Ok-clause-ok c =
    let terms = tree.get nat_cmp c.args.self.now.loaned in
    let terms1 = tree.get nat_cmp c.put.new.loaned in
    let t : OnTerms = record { entry = c.args.r; most = length c.args.r.values; locked = c.args.locked } in
    let is = c.in-Ok.ensures.ok ∙ ap (λ xs. but_at terms c.args.a.0 (Some (record t { most = length xs })))
    c.values-most.ensures.values in
    record {
      terms = is;
      names = c.name.ensures ∙ ap (λ xs. xs ++ c.args.a ∷ []) c.reserve.ensures.items;
      heap = laid_more (space_heap c.args.self.now.changed) terms terms1 c.args.a.0 t is c.requires.heap;
      base = laid_more (space_base c.args.self.now.changed) terms terms1 c.args.a.0 t is c.requires.base;
    }

pub returns-in-Err-clause-err : goal.returns-in-Err-clause-err
returns-in-Err-clause-err c =
    let terms = tree.get nat_cmp c.args.self.now.loaned in
    let terms1 = tree.get nat_cmp c.put.new.loaned in
    record {
      terms = c.in-Err.ensures.err;
      names = c.reserve.ensures.items;
      heap = laid_same (space_heap c.args.self.now.changed) terms terms1 c.in-Err.ensures.err;
      base = laid_same (space_base c.args.self.now.changed) terms terms1 c.in-Err.ensures.err;
    }
