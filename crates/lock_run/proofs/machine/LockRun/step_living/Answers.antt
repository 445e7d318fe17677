use Rattle.std.proofs.Common.{◌≡◌, ap, sym, ◌∙◌, subst, refl}
use Rattle.lock_run.specs.declared.plain.PlainView.{PlainView}
use Rattle.lock_run.specs.declared.client.Life.TheVariants.{Lives}
use Rattle.lock_run.specs.declared.turn.TurnWhy.TheVariants.{Waits}
use Rattle.lock_run.specs.PlainState.{PlainState}
use Rattle.lock_run.specs.PlainSense.{plain_state, plain_sense, plain_bracket}
use Rattle.lock_run.specs.Whys.{why_of_stop}
use Rattle.lock_run.specs.Turns.{CutTold}
use Rattle.lock_run.proofs.Following.{IsPlain}
use Rattle.lock_run.proofs.IsPlainView.{is_plain}
use Rattle.lock_run.proofs.Stepping.{if_some, set_kept, step_goes, step_waits, step_stopped, state_waits, sound_after, undone_run, undone_stop, started_undone, free_run, free_stop, falls_next, falls_undone, falls_run, falls_stop}
use Rattle.lock_run.proofs.machine.LockRun.step_living.Given as given
use Rattle.lock_run.proofs.machine.LockRun.step_living.Goals as goal

abbrev state : (g : given.Over) → PlainView g.row.C-State.Denot g.row.I.Denot g.row.O.Denot g.row.E.Denot →
    PlainState g.row.C-State.Denot
state g v = plain_state g.I.Source.state g.O.Sink.state g.E.Sink.state v

abbrev plain : (g : given.Over) → IsPlain
    (plain_sense {S = g.row.C-State.Denot} g.I.Source.state g.O.Sink.state g.E.Sink.state)
    (plain_bracket g.I.Source.state g.O.Sink.state g.E.Sink.state) (state g)
plain g = is_plain g.I.Source.state g.O.Sink.state g.E.Sink.state

pub returns-then-is_wait-clause-sound : goal.returns-then-is_wait-clause-sound
returns-then-is_wait-clause-sound g c =
    let p = g.C.Client.prog c.args.self.now.client.now in
    let sound = g.C.Client.sound c.args.self.now.client.now in
    let s = c.at_mut-s.result.now in
    let same = state_waits p (g.met.C.Client.waits_quietly c.args.self.now.client.now) _ _ (state g) (plain g) s
    c.step.new.s c.in-Ok.outcome c.args.self.now.view c.step.new.v c.in-Ok.ensures.ok
    (c.is_wait.ensures.yes c.if-is_wait.true) in
    subst (λ l. sound (state g c.undo_step.new.self).heap l)
    (sym (set_kept c.args.self.now.threads c.undo_step.new.self.started c.args.t s c.step.new.s
    c.at_mut-s.ensures.value same (ap (λ z. z.started) c.undo_step.ensures)))
    (subst (λ h. sound h c.args.self.now.threads)
    (sym (undone_run p _ _ (state g) (plain g) s c.step.new.s c.in-Ok.outcome c.args.self.now.view c.step.new.v
    (state g c.undo_step.new.self) c.in-Ok.ensures.ok c.undo_step.ensures)) c.requires.sound)

pub returns-then-is_wait-clause-cut : goal.returns-then-is_wait-clause-cut
returns-then-is_wait-clause-cut g c = λ k names o e m d0 go.
    let p = g.C.Client.prog c.args.self.now.client.now in
    let s = c.at_mut-s.result.now in
    let quiet = g.met.C.Client.waits_quietly c.args.self.now.client.now in
    let waits = c.is_wait.ensures.yes c.if-is_wait.true in
    let lives = if_some _ s (λ s. p.life s ≡ Lives) c.at_mut-s.ensures.value c.requires.lives in
    let same = state_waits p quiet _ _ (state g) (plain g) s c.step.new.s c.in-Ok.outcome c.args.self.now.view
    c.step.new.v c.in-Ok.ensures.ok waits in
    subst (λ l. CutTold p c.args.t k names o e m d0 (state g c.undo_step.new.self) l Waits)
    (sym (set_kept c.args.self.now.threads c.undo_step.new.self.started c.args.t s c.step.new.s
    c.at_mut-s.ensures.value same (ap (λ z. z.started) c.undo_step.ensures)))
    (step_waits _ _ _ _ _ _ _ _ _ _ go _ _ (state g) (plain g) s c.step.new.s c.in-Ok.outcome c.args.self.now.view
    c.step.new.v (state g c.undo_step.new.self) c.at_mut-s.ensures.value lives refl c.in-Ok.ensures.ok
    c.undo_step.ensures quiet waits)

pub returns-then-is_wait-clause-free : goal.returns-then-is_wait-clause-free
returns-then-is_wait-clause-free g c = ap (λ z. z.free) c.undo_step.ensures ∙
    free_run (g.C.Client.prog c.args.self.now.client.now) _ _ (state g) (plain g) c.at_mut-s.result.now c.step.new.s
    c.in-Ok.outcome c.args.self.now.view c.step.new.v c.in-Ok.ensures.ok

pub returns-then-is_wait-clause-counts : goal.returns-then-is_wait-clause-counts
returns-then-is_wait-clause-counts g c =
    falls_next (state g c.args.self.now.view) (state g c.step.new.v) (state g c.undo_step.new.self)
    (falls_run (g.C.Client.prog c.args.self.now.client.now) _ _ (state g) (plain g) c.at_mut-s.result.now c.step.new.s
    c.in-Ok.outcome c.args.self.now.view c.step.new.v c.in-Ok.ensures.ok)
    (falls_undone _ _ c.undo_step.ensures)

pub returns-else-is_wait-clause-sound : goal.returns-else-is_wait-clause-sound
returns-else-is_wait-clause-sound g c =
    let p = g.C.Client.prog c.args.self.now.client.now in
    let s = c.at_mut-s.result.now in
    let lives = if_some _ s (λ s. p.life s ≡ Lives) c.at_mut-s.ensures.value c.requires.lives in
    sound_after p (g.C.Client.sound c.args.self.now.client.now) (g.met.C.Client.sound_step c.args.self.now.client.now)
    _ _ (state g) (plain g) c.args.self.now.threads c.args.t s c.step.new.s c.in-Ok.outcome c.args.self.now.view
    c.step.new.v c.requires.sound c.at_mut-s.ensures.value lives c.in-Ok.ensures.ok

pub returns-else-is_wait-clause-done : goal.returns-else-is_wait-clause-done
returns-else-is_wait-clause-done g c = λ k names o e m d0 go.
    let p = g.C.Client.prog c.args.self.now.client.now in
    let s = c.at_mut-s.result.now in
    let lives = if_some _ s (λ s. p.life s ≡ Lives) c.at_mut-s.ensures.value c.requires.lives in
    step_goes _ _ _ _ _ _ _ _ _ _ go _ _ (state g) (plain g) s c.step.new.s c.in-Ok.outcome c.args.self.now.view
    c.step.new.v c.at_mut-s.ensures.value lives refl c.in-Ok.ensures.ok (c.is_wait.ensures.not c.if-is_wait.false)

pub returns-else-is_wait-clause-free : goal.returns-else-is_wait-clause-free
returns-else-is_wait-clause-free g c = free_run (g.C.Client.prog c.args.self.now.client.now) _ _ (state g) (plain g)
    c.at_mut-s.result.now c.step.new.s c.in-Ok.outcome c.args.self.now.view c.step.new.v c.in-Ok.ensures.ok

pub returns-else-is_wait-clause-counts : goal.returns-else-is_wait-clause-counts
returns-else-is_wait-clause-counts g c = falls_run (g.C.Client.prog c.args.self.now.client.now) _ _ (state g) (plain g)
    c.at_mut-s.result.now c.step.new.s c.in-Ok.outcome c.args.self.now.view c.step.new.v c.in-Ok.ensures.ok

pub returns-in-Err-clause-sound : goal.returns-in-Err-clause-sound
returns-in-Err-clause-sound g c =
    let p = g.C.Client.prog c.args.self.now.client.now in
    let sound = g.C.Client.sound c.args.self.now.client.now in
    let s = c.at_mut-s.result.now in
    let none = started_undone p _ _ (state g) (plain g) s c.in-Err.stop c.args.self.now.view c.step.new.v
    c.in-Err.ensures.err in
    subst (λ l. sound (state g c.step.new.v).heap l)
    (sym (set_kept c.args.self.now.threads c.step.new.v.started c.args.t s c.step.new.s c.at_mut-s.ensures.value
    c.in-Err.ensures.state none))
    (subst (λ h. sound h c.args.self.now.threads)
    (sym (undone_stop p _ _ (state g) (plain g) s c.in-Err.stop c.args.self.now.view c.step.new.v
    c.in-Err.ensures.err)) c.requires.sound)

pub returns-in-Err-clause-cut : goal.returns-in-Err-clause-cut
returns-in-Err-clause-cut g c = λ k names o e m d0 go.
    let p = g.C.Client.prog c.args.self.now.client.now in
    let s = c.at_mut-s.result.now in
    let lives = if_some _ s (λ s. p.life s ≡ Lives) c.at_mut-s.ensures.value c.requires.lives in
    let none = started_undone p _ _ (state g) (plain g) s c.in-Err.stop c.args.self.now.view c.step.new.v
    c.in-Err.ensures.err in
    let z = step_stopped _ _ _ _ _ _ _ _ _ _ go _ _ (state g) (plain g) s c.in-Err.stop c.args.self.now.view
    c.step.new.v c.at_mut-s.ensures.value lives refl c.in-Err.ensures.err in
    subst (λ l. CutTold p c.args.t k names o e m d0 (state g c.step.new.v) l c.why_of.result)
    (sym (set_kept c.args.self.now.threads c.step.new.v.started c.args.t s c.step.new.s c.at_mut-s.ensures.value
    c.in-Err.ensures.state none))
    (subst (λ y. CutTold p c.args.t k names o e m d0 (state g c.step.new.v) c.args.self.now.threads y)
    (sym (c.why_of.ensures ∙ ap (λ b. why_of_stop c.in-Err.stop b) c.is_bad.ensures)) z)

pub returns-in-Err-clause-free : goal.returns-in-Err-clause-free
returns-in-Err-clause-free g c = free_stop (g.C.Client.prog c.args.self.now.client.now) _ _ (state g) (plain g)
    c.at_mut-s.result.now c.in-Err.stop c.args.self.now.view c.step.new.v c.in-Err.ensures.err

pub returns-in-Err-clause-counts : goal.returns-in-Err-clause-counts
returns-in-Err-clause-counts g c = falls_stop (g.C.Client.prog c.args.self.now.client.now) _ _ (state g) (plain g)
    c.at_mut-s.result.now c.in-Err.stop c.args.self.now.view c.step.new.v c.in-Err.ensures.err
