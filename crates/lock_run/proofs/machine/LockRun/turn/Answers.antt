use Rattle.std.proofs.Common.{◌≡◌, ◌∙◌, ◌++◌, ap, sym, subst, arith, refl, false, []}
use Rattle.py_data.specs.Collection.{places}
use Rattle.lock_run.specs.declared.machine.LockRun.{LockRun}
use Rattle.lock_run.specs.declared.plain.PlainView.{PlainView}
use Rattle.lock_run.specs.PlainState.{PlainState}
use Rattle.lock_run.specs.PlainSense.{plain_state}
use Rattle.lock_run.specs.LockState.{lock_state}
use Rattle.lock_run.specs.declared.turn.TurnWhy.TheVariants.{OutOfMemory}
use Rattle.lock_run.specs.Turns.{LockState, Reach, ReachCut, TurnCut}
use Rattle.lock_run.proofs.Turning.{Begun, begun_by, begun_again, ends, cuts, leaves, starves, none_of}
use Rattle.lock_run.proofs.machine.LockRun.turn.Given as given
use Rattle.lock_run.proofs.machine.LockRun.turn.Goals as goal

abbrev state : (g : given.Over) → PlainView g.row.C-State.Denot g.row.I.Denot g.row.O.Denot g.row.E.Denot →
    PlainState g.row.C-State.Denot
state g v = plain_state g.I.Source.state g.O.Sink.state g.E.Sink.state v

abbrev lock : (g : given.Over) → LockRun g.row.C.Denot g.row.I.Denot g.row.O.Denot g.row.E.Denot g.row.C-State.Denot →
    LockState g.row.C-State.Denot
lock g run = lock_state g.I.Source.state g.O.Sink.state g.E.Sink.state run

pub returns-in-Err-clause-cut : goal.returns-in-Err-clause-cut
returns-in-Err-clause-cut g c =
    let e1 : Begun (state g c.args.self.now.view) (state g c.set_plan.new.self) [] =
    begun_by _ _ _ _ _ _ [] false (ap (state g) c.set_plan.ensures.rest) c.set_plan.ensures.made
    c.set_plan.ensures.kept (λ f. ap places c.new-2.ensures) in
    let p = g.C.Client.prog c.args.self.now.client.now in
    let same : (c.args.self.now.threads ++ c.set_plan.new.self.started) ≡ (lock g c.args.self.now).threads =
    ap (λ v. c.args.self.now.threads ++ v.started) c.set_plan.ensures.rest in
    subst (λ l. TurnCut p (record { thread = c.args.thread; steps = c.args.steps; names = c.args.names.now }) 0
    OutOfMemory (lock g c.args.self.now) (record { view = state g c.set_plan.new.self; threads = l })) (sym same)
    (starves p c.args.thread (lock g c.args.self.now) (state g c.set_plan.new.self) (omega arith)
    (record { thread = c.args.thread; steps = c.args.steps; names = c.args.names.now }) refl c.requires.some e1)

pub returns-in-Err-go-clause-cut : goal.returns-in-Err-go-clause-cut
returns-in-Err-go-clause-cut g c =
    let e1 : Begun (state g c.args.self.now.view) (state g c.set_plan.new.self) [] =
    begun_by _ _ _ _ _ _ [] false (ap (state g) c.set_plan.ensures.rest) c.set_plan.ensures.made
    c.set_plan.ensures.kept (λ f. ap places c.new-2.ensures) in
    let e2 : Begun (state g c.set_plan.new.self) (state g c.set_plan-2.new.self) (places c.args.names.now) =
    begun_by _ _ _ _ _ _ (places c.args.names.now) false (ap (state g) c.set_plan-2.ensures.rest)
    c.set_plan-2.ensures.made c.set_plan-2.ensures.kept (λ f. ap places c.in-Ok.ensures) in
    let p = g.C.Client.prog c.args.self.now.client.now in
    let same : (c.args.self.now.threads ++ c.set_plan-2.new.self.started) ≡ (lock g c.args.self.now).threads =
    ap (λ v. c.args.self.now.threads ++ v.started) c.set_plan-2.ensures.rest ∙
    ap (λ v. c.args.self.now.threads ++ v.started) c.set_plan.ensures.rest in
    let gone = subst (λ l. ReachCut p c.args.thread c.args.steps c.in-Err-go.cut.done c.in-Err-go.cut.why
    (record { view = state g c.set_plan-2.new.self; threads = l }) (lock g c.go.new.self)) same
    c.in-Err-go.ensures.cut in
    cuts (g.C.Client.prog c.args.self.now.client.now) c.args.thread (lock g c.args.self.now)
    (state g c.set_plan-2.new.self) (omega arith)
    (record { thread = c.args.thread; steps = c.args.steps; names = c.args.names.now }) (lock g c.go.new.self) _ _
    refl (begun_again _ _ _ _ _ e1 e2) gone (c.go.ensures.free ∙ ap (λ v. v.free) c.set_plan-2.ensures.rest)

pub returns-then-has_names-clause-cut : goal.returns-then-has_names-clause-cut
returns-then-has_names-clause-cut g c =
    let e1 : Begun (state g c.args.self.now.view) (state g c.set_plan.new.self) [] =
    begun_by _ _ _ _ _ _ [] false (ap (state g) c.set_plan.ensures.rest) c.set_plan.ensures.made
    c.set_plan.ensures.kept (λ f. ap places c.new-2.ensures) in
    let e2 : Begun (state g c.set_plan.new.self) (state g c.set_plan-2.new.self) (places c.args.names.now) =
    begun_by _ _ _ _ _ _ (places c.args.names.now) false (ap (state g) c.set_plan-2.ensures.rest)
    c.set_plan-2.ensures.made c.set_plan-2.ensures.kept (λ f. ap places c.in-Ok.ensures) in
    let p = g.C.Client.prog c.args.self.now.client.now in
    let same : (c.args.self.now.threads ++ c.set_plan-2.new.self.started) ≡ (lock g c.args.self.now).threads =
    ap (λ v. c.args.self.now.threads ++ v.started) c.set_plan-2.ensures.rest ∙
    ap (λ v. c.args.self.now.threads ++ v.started) c.set_plan.ensures.rest in
    let gone = subst (λ l. Reach p c.args.thread c.args.steps
    (record { view = state g c.set_plan-2.new.self; threads = l }) (lock g c.go.new.self)) same
    c.in-Ok-go.ensures.done in
    leaves (g.C.Client.prog c.args.self.now.client.now) c.args.thread (lock g c.args.self.now)
    (state g c.set_plan-2.new.self) (omega arith)
    (record { thread = c.args.thread; steps = c.args.steps; names = c.args.names.now }) (lock g c.go.new.self) refl
    (begun_again _ _ _ _ _ e1 e2)
    gone (c.go.ensures.free ∙ ap (λ v. v.free) c.set_plan-2.ensures.rest) (c.has_names.ensures.0 c.if-has_names.true)

pub returns-clause-done : goal.returns-clause-done
returns-clause-done g c =
    let e1 : Begun (state g c.args.self.now.view) (state g c.set_plan.new.self) [] =
    begun_by _ _ _ _ _ _ [] false (ap (state g) c.set_plan.ensures.rest) c.set_plan.ensures.made
    c.set_plan.ensures.kept (λ f. ap places c.new-2.ensures) in
    let e2 : Begun (state g c.set_plan.new.self) (state g c.set_plan-2.new.self) (places c.args.names.now) =
    begun_by _ _ _ _ _ _ (places c.args.names.now) false (ap (state g) c.set_plan-2.ensures.rest)
    c.set_plan-2.ensures.made c.set_plan-2.ensures.kept (λ f. ap places c.in-Ok.ensures) in
    let p = g.C.Client.prog c.args.self.now.client.now in
    let same : (c.args.self.now.threads ++ c.set_plan-2.new.self.started) ≡ (lock g c.args.self.now).threads =
    ap (λ v. c.args.self.now.threads ++ v.started) c.set_plan-2.ensures.rest ∙
    ap (λ v. c.args.self.now.threads ++ v.started) c.set_plan.ensures.rest in
    let gone = subst (λ l. Reach p c.args.thread c.args.steps
    (record { view = state g c.set_plan-2.new.self; threads = l }) (lock g c.go.new.self)) same
    c.in-Ok-go.ensures.done in
    ends (g.C.Client.prog c.args.self.now.client.now) c.args.thread (lock g c.args.self.now)
    (state g c.set_plan-2.new.self) (omega arith)
    (record { thread = c.args.thread; steps = c.args.steps; names = c.args.names.now }) (lock g c.go.new.self) refl
    c.requires.some (begun_again _ _ _ _ _ e1 e2)
    gone (c.go.ensures.free ∙ ap (λ v. v.free) c.set_plan-2.ensures.rest)
    (none_of _ _ c.has_names.ensures.1 c.if-has_names.false)
