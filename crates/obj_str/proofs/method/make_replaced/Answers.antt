use Rattle.std.proofs.Common.{refl}
use Rattle.py_data.proofs.AfterLook.{starved_again}
use Rattle.obj_str.specs.Pieces as pieces
use Rattle.obj_str.proofs.JoinLoop.{fitting_safe, fitting_met}
use Rattle.obj_str.proofs.method.make_replaced.Goals as goal

pub returns-in_err-text : goal.returns-in_err-text
returns-in_err-text g c = starved_again _ _ _ _ _ refl c.from_residual.ensures.1

pub make_fitting-requires-clause-safe : goal.make_fitting-requires-clause-safe
make_fitting-requires-clause-safe g c = fitting_safe g.V.View.sense
    (pieces.replaced c.args.old.now c.args.new.now c.args.bytes.now) c.in_ok-text.text _ c.in_ok-text.ensures
    c.requires.safe

pub returns : goal.returns
returns g c = fitting_met g.V.View.sense (pieces.replaced c.args.old.now c.args.new.now c.args.bytes.now)
    c.in_ok-text.text _ _ _ c.in_ok-text.ensures c.make_fitting.ensures
