use Rattle.std.proofs.Common.{◌≡◌, Ok, ap, subst}
use Rattle.py_code.specs.declared.program.Program.{Program}
use Rattle.py_data.specs.declared.value.Value.TheVariants.{Unset}
use Rattle.py_data.specs.Sense.{Meets}
use Rattle.py_data.proofs.Steps.{live_after, safe_then}
use Rattle.py_frames.specs.Binding.{bound_row, with_first}
use Rattle.py_frames.specs.ClassCalls.{Site, init_entered, function_init}
use Rattle.py_calls.proofs.class_calls.function_init.Goals as goal

pub init_entered-requires-clause-live : goal.init_entered-requires-clause-live
init_entered-requires-clause-live g c = live_after g.V.View.sense g.met.V.View.lawful
    (bound_row c.s.inside.program.now (with_first Unset c.args.g.now) c.args.f.0) _ _ c.in_ok-x.x c.in_ok-x.ensures
    c.requires.live

pub init_entered-requires-clause-safe : goal.init_entered-requires-clause-safe
unfolding function_init
init_entered-requires-clause-safe g c =
    let s = c.args.s.now in
    let program : Site → Program = λ z. z.program in
    let e : c.s.inside.program.now ≡ s.program = ap program c.s.view_is in
    safe_then g.V.View.sense g.met.V.View.lawful (bound_row s.program (with_first Unset c.args.g.now) c.args.f.0)
    (init_entered s c.args.c.0 c.args.g.now c.args.exception) c.args.v.now c.bound_first.new.v c.in_ok-x.x
    c.requires.safe
    (subst (λ z. Meets g.V.View.sense (bound_row z (with_first Unset c.args.g.now) c.args.f.0) c.args.v.now
    c.bound_first.new.v (Ok c.in_ok-x.x)) e c.in_ok-x.ensures)
