use Rattle.std.proofs.Common.{Some, pos, subst}
use Rattle.py_data.specs.declared.change.Change.TheVariants as change
use Rattle.py_data.specs.declared.value.Value.TheVariants.{None as NoneValue, Int}
use Rattle.py_data.specs.Row.{Edit}
use Rattle.py_data.specs.Sense.{Safe}
use Rattle.py_data.proofs.Rows.{safe_next}
use Rattle.py_frames.specs.CallRows.{started_row, counted_row}
use Rattle.py_calls.proofs.Wide.{wide}
use Rattle.py_calls.proofs.starts.started_row.Goals as goal

pub counted_row-requires-clause-safe : goal.counted_row-requires-clause-safe
unfolding started_row
counted_row-requires-clause-safe g c =
    let t = c.in-Some.t in
    safe_next g.met.V.View.lawful (Edit t.0 (change.Set 2 (Int (pos c.args.n))))
    (λ _. counted_row c.args.roots.0 (Some c.in-Some.t) c.args.f.now c.args.count.0 c.args.n NoneValue) _ _ tt
    (subst (λ o. Safe g.V.View.sense.partial (started_row c.args.roots.0 o c.args.f.now c.args.count.0 c.args.n)
    (g.V.View.sense.heap c.args.v.now)) c.in-Some.is c.requires.safe)
    (subst (λ z. g.V.View.sense.does (Edit t.0 (change.Set 2 (Int z))) c.args.v.now tt c.set_val.new.self)
    (wide c.args.n c.ranges.n.fits) c.in_ok-set_val-in-Some.ensures)
