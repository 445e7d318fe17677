use Rattle.std.proofs.Common.{◌≡◌, ◌<◌, length}
use Rattle.lock_run.specs.LockState.{lock_state, IsSound}
use Rattle.lock_run.specs.Turns.{Reach, NoneFall}
use Rattle.lock_run.proofs.machine.LockRun.go.Given as goal

abbrev pub invariant-loop-done : goal.invariant-loop-done
invariant-loop-done g l = record {
  there : l.t < length (lock_state g.I.Source.state g.O.Sink.state g.E.Sink.state l.self).threads;
  sound : IsSound (g.C.Client.sound l.self.client.now)
      (lock_state g.I.Source.state g.O.Sink.state g.E.Sink.state l.self);
  free : l.self.view.free ≡ l.initial.self.view.free;
  counts : NoneFall (lock_state g.I.Source.state g.O.Sink.state g.E.Sink.state l.initial.self).view
      (lock_state g.I.Source.state g.O.Sink.state g.E.Sink.state l.self).view;
  client : l.self.client ≡ l.initial.self.client;
  reached : Reach (g.C.Client.prog l.initial.self.client.now) l.t l.done
      (lock_state g.I.Source.state g.O.Sink.state g.E.Sink.state l.initial.self)
      (lock_state g.I.Source.state g.O.Sink.state g.E.Sink.state l.self);
}
