use Rattle.std.proofs.Common.{◌∙◌, ap, drop}
use Rattle.obj_bench.proofs.BenchClasses.{call_safe, call_done}
use Rattle.obj_bench.proofs.calling.call_builtin.Goals as goal

pub call-requires-clause-safe : goal.call-requires-clause-safe
call-requires-clause-safe g c = call_safe c.requires.good c.call_law.ensures.holds c.args.b c.args.place c.args.own
    c.skip-args.result.now (c.skip-args.ensures ∙ ap (drop c.args.place) c.as_slice.ensures) c.requires.own

pub returns : goal.returns
returns g c =
    call_done c.requires.good c.call_law.ensures.holds c.args.b c.args.place c.args.own c.skip-args.result.now
    (c.skip-args.ensures ∙ ap (drop c.args.place) c.as_slice.ensures) c.requires.own g.met.V.View.lawful _ _
    c.in_ok-got.ensures
