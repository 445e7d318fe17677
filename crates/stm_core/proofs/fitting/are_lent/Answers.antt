use Rattle.std.proofs.Common.{refl, subst, sym}
use Rattle.py_data.specs.Every.{Every}
use Rattle.py_data.specs.declared.value.Addr.{Addr}
use Rattle.stm_pieces.specs.PieceOf.{piece_state}
use Rattle.stm_core.specs.inner.Lent.{IsLentAt}
use Rattle.stm_core.proofs.Lending.{every_lent}
use Rattle.stm_core.proofs.fitting.are_lent.Goals as goal

pub returns : goal.returns
returns g c =
    let d = piece_state c.args.view.now in
    let m = g.S.SegStore.meaning c.args.store.now in
    let P = λ (a : Addr). IsLentAt m c.args.k d.loaned d.locked a.0 in
    let none = c.in_default.ensures in
    (λ y. every_lent m c.args.k d c.known.ensures.named (c.names.invariant (subst (Every P) (sym none) tt)), λ h. refl)
