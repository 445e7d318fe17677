use Rattle.std.proofs.Common.{◌≡◌, arith, subst, refl, ◌∙◌, suc, ◌+◌}
use Rattle.lock_run.specs.declared.machine.LockRun.{LockRun}
use Rattle.lock_run.specs.LockState.{lock_state}
use Rattle.lock_run.specs.Turns.{LockState, Reach, StepGoes, StepCut}
use Rattle.lock_run.proofs.Stepping.{falls_none, falls_next}
use Rattle.lock_run.proofs.machine.LockRun.go.Given as given
use Rattle.lock_run.proofs.machine.LockRun.go.Goals as goal

abbrev lock : (g : given.Over) → LockRun g.row.C.Denot g.row.I.Denot g.row.O.Denot g.row.E.Denot g.row.C-State.Denot →
    LockState g.row.C-State.Denot
lock g run = lock_state g.I.Source.state g.O.Sink.state g.E.Sink.state run

pub loop-done-init : goal.loop-done-init
loop-done-init g c = record {
  there = c.requires.there;
  sound = c.requires.sound;
  free = refl;
  counts =
      falls_none (lock g c.args.self.now).view;
  client = refl;
  reached = λ names o e m d0 go. go;
}

pub loop-done-preserved : goal.loop-done-preserved
loop-done-preserved g c =
    let one : StepGoes (g.C.Client.prog c.args.self.now.client.now) c.args.t (lock g c.loop-done.self)
    (lock g c.step_one.new.self)
    = subst (λ cl. StepGoes (g.C.Client.prog cl.now) c.args.t (lock g c.loop-done.self) (lock g c.step_one.new.self))
    c.loop-done.invariant.client c.in-Ok.ensures.done in
    let same : suc c.loop-done.done ≡ c.loop-done.done + 1 = omega arith in
    record {
      there = c.step_one.ensures.there;
      sound = c.step_one.ensures.sound;
      free = c.step_one.ensures.free ∙ c.loop-done.invariant.free;
      counts = falls_next (lock g c.args.self.now).view (lock g c.loop-done.self).view
          (lock g c.step_one.new.self).view c.loop-done.invariant.counts c.step_one.ensures.counts;
      client = c.step_one.ensures.client ∙ c.loop-done.invariant.client;
      reached = subst (λ k. Reach (g.C.Client.prog c.args.self.now.client.now) c.args.t k (lock g c.args.self.now)
          (lock g c.step_one.new.self)) same
          (λ names o e m d0 go. one c.loop-done.done names o e m d0 (c.loop-done.invariant.reached names o e m d0 go));
    }

pub returns-in-Err-clause-cut : goal.returns-in-Err-clause-cut
returns-in-Err-clause-cut g c =
    let one : StepCut (g.C.Client.prog c.args.self.now.client.now) c.args.t c.in-Err.why (lock g c.loop-done.self)
    (lock g c.step_one.new.self)
    = subst (λ cl. StepCut (g.C.Client.prog cl.now) c.args.t c.in-Err.why (lock g c.loop-done.self)
    (lock g c.step_one.new.self)) c.loop-done.invariant.client c.in-Err.ensures.cut in (
      c.loop-done-test.true,
      λ names o e m d0 go.
          one c.loop-done.done names o e m d0 (c.loop-done.invariant.reached names o e m d0 go),
    )

pub returns-clause-done : goal.returns-clause-done
returns-clause-done g c =
    let n : c.loop-done.done ≡ c.args.steps = omega arith in
    subst (λ k. Reach (g.C.Client.prog c.args.self.now.client.now) c.args.t k (lock g c.args.self.now)
    (lock g c.loop-done.self)) n c.loop-done.invariant.reached

pub returns-in-Err-clause-counts : goal.returns-in-Err-clause-counts
returns-in-Err-clause-counts g c = falls_next (lock g c.args.self.now).view (lock g c.loop-done.self).view
    (lock g c.step_one.new.self).view c.loop-done.invariant.counts c.step_one.ensures.counts

pub returns-clause-counts : goal.returns-clause-counts
returns-clause-counts g c = c.loop-done.invariant.counts
