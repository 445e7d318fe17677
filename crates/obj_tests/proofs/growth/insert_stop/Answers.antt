use Rattle.std.proofs.Common.{pos, subst, sym}
use Rattle.std.specs.Prelude.{IfSome}
use Rattle.py_data.specs.declared.value.Value.TheVariants.{Int}
use Rattle.py_data.specs.Sense.{Stopped}
use Rattle.obj_seq.specs.Seq.{insert_row}
use Rattle.obj_tests.proofs.BenchUndo.{err_stopped}
use Rattle.obj_tests.proofs.growth.insert_stop.Goals as goal

pub returns : goal.returns
returns g c =
    let u = g.V.View.sense in
    let row = insert_row c.args.a.0 (pos 0) (Int (pos 9)) in
    subst (λ o. IfSome o (λ e. Stopped u row c.args.v.now e c.insert_front.new.v)) (sym c.err.ensures.value)
    (err_stopped u row _ _ _ c.insert_front.ensures)
