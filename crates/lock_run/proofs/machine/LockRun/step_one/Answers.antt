use Rattle.std.proofs.Common.{◌≡◌, ap, sym, ◌∙◌, subst, ◌++◌, append-nil, refl, length, ◌<◌}
use Rattle.lock_run.specs.declared.plain.PlainView.{PlainView}
use Rattle.lock_run.specs.declared.turn.TurnWhy.{TurnWhy}
use Rattle.lock_run.specs.PlainState.{PlainState}
use Rattle.lock_run.specs.PlainSense.{plain_state}
use Rattle.lock_run.proofs.Stepping.{get_front, ok_map, err_map, going_moved, goes_moved, cut_moved, starved_here, ended_here, falls_started}
use Rattle.lock_run.proofs.machine.LockRun.step_one.Given as given
use Rattle.lock_run.proofs.machine.LockRun.step_one.Goals as goal

abbrev state : (g : given.Over) → PlainView g.row.C-State.Denot g.row.I.Denot g.row.O.Denot g.row.E.Denot →
    PlainState g.row.C-State.Denot
state g v = plain_state g.I.Source.state g.O.Sink.state g.E.Sink.state v

pub returns-in-Lives-clause-done : goal.returns-in-Lives-clause-done
returns-in-Lives-clause-done g c = ok_map c.step_living.result _ _
    (goes_moved (g.C.Client.prog c.args.self.now.client.now) c.args.t _ _ _ (ap (state g) c.move_started.ensures.rest)
    c.in-Ok.ensures.ok.0) c.step_living.ensures.done

pub returns-in-Lives-clause-cut : goal.returns-in-Lives-clause-cut
returns-in-Lives-clause-cut g c = err_map c.step_living.result _ _
    (λ (why : TurnWhy). cut_moved (g.C.Client.prog c.args.self.now.client.now) c.args.t why _ _ _
    (ap (state g) c.move_started.ensures.rest) c.in-Ok.ensures.ok.0) c.step_living.ensures.cut

pub returns-in_default : goal.returns-in_default
returns-in_default g c =
    let moved = c.move_started.new in
    let view : state g moved.self ≡ record (state g c.args.self.now.view) { started = (state g moved.self).started } =
    ap (state g) c.move_started.ensures.rest in
    let same : (moved.to ++ moved.self.started) ≡ (c.args.self.now.threads ++ c.args.self.now.view.started) =
    ap (λ l. moved.to ++ l) c.in-Ok.ensures.ok.1 ∙ append-nil moved.to ∙ c.in-Ok.ensures.ok.0 in
    record {
      sound = subst (λ l. g.C.Client.sound c.args.self.now.client.now (state g moved.self).heap l) (sym same)
          (subst (λ h. g.C.Client.sound c.args.self.now.client.now h
          (c.args.self.now.threads ++ c.args.self.now.view.started)) (sym (ap (λ z. z.heap) view)) c.requires.sound);
      client = refl;
      free = ap (λ z. z.free) view;
      there = subst (λ l. c.args.t < length l) (sym same) c.requires.there;
      counts = falls_started _ _ _ view;
      done = tt;
      cut = λ k names o e m d0 go.
          ended_here _ _ _ _ _ _ _ _ _ _
          (going_moved _ _ k names o e m d0 _ (state g moved.self) _ (moved.to ++ moved.self.started) view same go)
          c.at.result.now
          (get_front moved.to moved.self.started c.args.t c.at.result.now c.at.ensures)
          (λ l. c.in_default.not-Lives (c.life.ensures ∙ l));
    }

pub returns-in-Err-clause-cut : goal.returns-in-Err-clause-cut
returns-in-Err-clause-cut g c = λ k names o e m d0 go.
    let same : (c.move_started.new.to ++ c.move_started.new.self.started) ≡
    (c.args.self.now.threads ++ c.args.self.now.view.started) =
    ap (λ l. l ++ c.move_started.new.self.started) c.in-Err.ensures.err.0 ∙
    ap (λ l. c.args.self.now.threads ++ l) c.in-Err.ensures.err.1 in
    starved_here _ _ _ _ _ _ _ _ _ _ (going_moved _ _ k names o e m d0 _ (state g c.move_started.new.self) _
    (c.move_started.new.to ++ c.move_started.new.self.started) (ap (state g) c.move_started.ensures.rest) same go)
