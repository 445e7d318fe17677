use Rattle.std.proofs.Common.{◌≡◌, IfSome, sym, ◌∙◌, ap, subst}
use Rattle.py_data.specs.Heap.{at}
use Rattle.seg_store.specs.Meaning.{sees}
use Rattle.stm_pieces.specs.PieceOf.{piece_state}
use Rattle.stm_core.proofs.Lending.{not_there, lends_add}
use Rattle.stm_core.proofs.loans.lend.Goals as goal

pub add-requires : goal.add-requires
add-requires g c = record {
  fresh = ap (λ h. h c.args.a.0) c.args.loan.now.fresh.heap ∙
      not_there ((piece_state c.args.loan.now.view).loaned c.args.a.0) (sym c.has.ensures ∙ c.if-has.false);
}

pub returns-in-Some : goal.returns-in-Some
returns-in-Some g c =
    lends_add (g.S.SegStore.meaning c.args.store.now) c.args.k c.add.result c.args.loan.now c.add.new.self c.args.a.0
    c.in-Some.record c.is_held.result c.requires.lent (c.may_lend.ensures c.if-not-may_lend.false)
    (subst (λ o. IfSome o (λ r. r ≡ at (sees (g.S.SegStore.meaning c.args.store.now) c.args.k) c.args.a.0))
    c.in-Some.is c.in_ok-record.ensures) c.is_held.ensures c.add.ensures.ok c.add.ensures.err c.add.ensures.thread
    c.add.ensures.state c.add.ensures.most
