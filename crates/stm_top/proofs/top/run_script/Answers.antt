use Rattle.std.proofs.Common.{sym, ap, subst, length, arith}
use Rattle.paged_store.specs.Stores.{paged_meaning, reserved_of}
use Rattle.py_frames.specs.Laws.{prog_of}
use Rattle.stm_top.specs.Script.{Origin}
use Rattle.front_end.specs.TextCode.{HasCode, IsRefused}
use Rattle.stm_top.specs.TopCall.{devices_of, Told, told_of}
use Rattle.stm_top.specs.inner.Ending.{TextEnded}
use Rattle.stm_top.proofs.TopSteps.{taken_short, text_ran}
use Rattle.stm_top.proofs.top.run_script.Goals as goal

pub run_text-requires-clause-short : goal.run_text-requires-clause-short
run_text-requires-clause-short g c =
    let short = taken_short c.args.options.now.script c.in-Ok.text.items _ _ c.requires.options.script
    c.in-Ok.ensures.taken in
    let same = ap length c.as_slice.ensures.value in
    omega (arith, short, same)

pub returns-in-Ok : goal.returns-in-Ok
returns-in-Ok g c =
    let r = c.run_text.result in
    let o = c.args.options.now in
    let a = devices_of g.L.Loader.state g.I.Source.state g.O.Sink.state g.E.Sink.state c.args.outside.loader
    c.args.outside.input c.args.outside.out c.args.outside.err in
    let b = devices_of g.L.Loader.state g.I.Source.state g.O.Sink.state g.E.Sink.state r.outside.loader r.outside.input
    r.outside.out r.outside.err in
    let t : Told = told_of paged_meaning reserved_of r.history.entries r.conflicts.entries r.store in
    let between = devices_of g.L.Loader.state g.I.Source.state g.O.Sink.state g.E.Sink.state c.take_script.new.loader
    c.take_script.new.input c.args.outside.out c.args.outside.err in
    let taken_to : Origin = record {
      loader = g.L.Loader.state c.take_script.new.loader;
      input =
          g.I.Source.state c.take_script.new.input;
    } in
    let ended = subst (λ x. TextEnded HasCode IsRefused prog_of x o r.answer between t b) c.as_slice.ensures.value
    c.run_text.ensures.ended in
    record {
      cause = text_ran HasCode IsRefused prog_of o a b t c.in-Ok.text.items taken_to c.in-Ok.ensures.taken
          r.answer ended;
    }
