use Rattle.std.proofs.Common.{sym, subst}
use Rattle.py_data.proofs.Steps.{as_err}
use Rattle.py_data.specs.declared.stop.Stop.TheVariants.{OutOfMemory}
use Rattle.obj_str.specs.Adding.{Adds}
use Rattle.obj_str.specs.Methods.{text_item}
use Rattle.obj_str.proofs.Copied.{done_starved}
use Rattle.obj_str.proofs.join.add_item.Goals as goal

pub returns-in_err-grown_by-in-Is : goal.returns-in_err-grown_by-in-Is
returns-in_err-grown_by-in-Is g c =
    subst (Adds g.V.View.sense c.args.sep.now c.args.text c.args.x c.args.v.now c.text_item.new.v)
    (sym (as_err _ OutOfMemory c.from_residual-in_err-grown_by-in-Is.ensures.1))
    (done_starved g.V.View.sense (text_item c.args.x) c.args.v.now c.text_item.new.v _ c.in_ok-part-in-Some.ensures)
