use Rattle.std.proofs.Common.{inr, sym, subst}
use Rattle.paged_store.specs.Stores.{paged_meaning, reserved_of}
use Rattle.lock_run.specs.Client.{IsSoundFirst}
use Rattle.py_frames.specs.Laws.{prog_of}
use Rattle.py_frames.specs.Sound.{Sound}
use Rattle.stm_top.specs.inner.Ending.{ThreadsEnded}
use Rattle.stm_top.specs.TopCall.{devices_of, Told, told_of}
use Rattle.stm_top.proofs.top.run_text.Goals as goal

pub run_threads-requires-clause-first : goal.run_threads-requires-clause-first
run_threads-requires-clause-first g c κs within =
    subst (λ p. IsSoundFirst (prog_of p) (Sound p)) (sym c.new-client.ensures.program) c.new-client.ensures.first

pub returns : goal.returns
returns g c =
    let r = c.run_threads.result in
    let a = devices_of g.L.Loader.state g.I.Source.state g.O.Sink.state g.E.Sink.state c.args.outside.loader
    c.args.outside.input c.args.outside.out c.args.outside.err in
    let b = devices_of g.L.Loader.state g.I.Source.state g.O.Sink.state g.E.Sink.state r.outside.loader r.outside.input
    r.outside.out r.outside.err in
    let t : Told = told_of paged_meaning reserved_of r.history.entries r.conflicts.entries r.store in
    record {
      ended = inr (
        c.in-Ok.program,
        c.in-Ok.ensures.program,
        subst (λ p. ThreadsEnded (prog_of p) c.args.options.now r.answer a t b) c.new-client.ensures.program
            c.run_threads.ensures.ended,
      );
    }
