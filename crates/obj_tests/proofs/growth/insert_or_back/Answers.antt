use Rattle.std.proofs.Common.{pos, sym, subst}
use Rattle.py_data.specs.declared.value.Value.TheVariants.{Int}
use Rattle.std.specs.Prelude.{IfSome}
use Rattle.py_data.specs.Sense.{Stopped}
use Rattle.obj_seq.specs.HoldsLaws.{IsListAt}
use Rattle.obj_seq.specs.Seq.{insert_row}
use Rattle.obj_tests.proofs.BenchUndo.{good_opened, undone_heap}
use Rattle.obj_tests.proofs.growth.insert_or_back.Goals as goal

pub insert_stop-requires-clause-good : goal.insert_stop-requires-clause-good
insert_stop-requires-clause-good g c = good_opened g.met.V.View.bracketed _ c.open_step.ensures c.requires.good

pub insert_stop-requires-clause-at : goal.insert_stop-requires-clause-at
insert_stop-requires-clause-at g c = subst (λ h. IsListAt h c.args.a.0)
    (sym (g.met.V.View.bracketed.opened _ _ c.open_step.ensures).0) c.requires.at

pub returns-in-Some : goal.returns-in-Some
returns-in-Some g c =
    let u = g.V.View.sense in
    let row = insert_row c.args.a.0 (pos 0) (Int (pos 9)) in
    undone_heap g.met.V.View.bracketed row _ c.open_step.ensures
    (subst (λ o. IfSome o (λ e. Stopped u row c.open_step.new.self e c.insert_stop.new.v)) c.in-Some.is
    c.insert_stop.ensures) c.undo_step.ensures
