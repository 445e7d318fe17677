use Rattle.std.proofs.Common.{◌≡◌, Ok, ap, subst}
use Rattle.py_code.specs.declared.program.Program.{Program}
use Rattle.py_data.specs.Sense.{Meets}
use Rattle.py_data.proofs.Steps.{live_after, safe_then}
use Rattle.py_frames.specs.Binding.{bound_row}
use Rattle.py_frames.specs.ClassCalls.{Site, entered_row}
use Rattle.py_frames.specs.CallRows.{function_call}
use Rattle.py_calls.proofs.calls.passed_call.Goals as goal

pub entered_row-requires-clause-live : goal.entered_row-requires-clause-live
entered_row-requires-clause-live g c = live_after g.V.View.sense g.met.V.View.lawful
    (bound_row c.s.inside.program.now c.args.g.now c.args.f.0) _ _ c.in_ok-x.x c.in_ok-x.ensures c.requires.live

pub entered_row-requires-clause-safe : goal.entered_row-requires-clause-safe
unfolding function_call
entered_row-requires-clause-safe g c =
    let s = c.args.s.now in
    let program : Site → Program = λ z. z.program in
    let e : c.s.inside.program.now ≡ s.program = ap program c.s.view_is in
    safe_then g.V.View.sense g.met.V.View.lawful (bound_row s.program c.args.g.now c.args.f.0) (entered_row s)
    c.args.v.now c.passed_row.new.v c.in_ok-x.x c.requires.safe
    (subst (λ z. Meets g.V.View.sense (bound_row z c.args.g.now c.args.f.0) c.args.v.now c.passed_row.new.v
    (Ok c.in_ok-x.x)) e c.in_ok-x.ensures)
