use Rattle.std.proofs.Common.{◌≡◌, ◌∙◌, ◌++◌, ap, sym, subst, arith, refl, true, []}
use Rattle.py_data.specs.Collection.{places}
use Rattle.lock_run.specs.declared.machine.LockRun.{LockRun}
use Rattle.lock_run.specs.declared.plain.PlainView.{PlainView}
use Rattle.lock_run.specs.PlainState.{PlainState}
use Rattle.lock_run.specs.PlainSense.{plain_state}
use Rattle.lock_run.specs.LockState.{lock_state}
use Rattle.lock_run.specs.Turns.{LockState, Reach, ReachCut, FreeDone, FreeCut}
use Rattle.lock_run.proofs.Turning.{Begun, begun_by, free_ends, free_rests, free_cut}
use Rattle.lock_run.proofs.machine.LockRun.free_turn.Given as given
use Rattle.lock_run.proofs.machine.LockRun.free_turn.Goals as goal

abbrev state : (g : given.Over) → PlainView g.row.C-State.Denot g.row.I.Denot g.row.O.Denot g.row.E.Denot →
    PlainState g.row.C-State.Denot
state g v = plain_state g.I.Source.state g.O.Sink.state g.E.Sink.state v

abbrev lock : (g : given.Over) → LockRun g.row.C.Denot g.row.I.Denot g.row.O.Denot g.row.E.Denot g.row.C-State.Denot →
    LockState g.row.C-State.Denot
lock g run = lock_state g.I.Source.state g.O.Sink.state g.E.Sink.state run

pub returns-in-Ok-clause-done : goal.returns-in-Ok-clause-done
returns-in-Ok-clause-done g c =
    let bg : Begun (state g c.args.self.now.view) (state g c.set_free.new.self) [] =
    begun_by _ _ _ _ _ _ [] true (ap (state g) c.set_free.ensures.rest) c.set_free.ensures.made
    c.set_free.ensures.kept (λ f. cc) in
    let p = g.C.Client.prog c.args.self.now.client.now in
    let same : (c.args.self.now.threads ++ c.set_free.new.self.started) ≡ (lock g c.args.self.now).threads =
    ap (λ v. c.args.self.now.threads ++ v.started) c.set_free.ensures.rest in
    let last : (c.go-end.new.self.threads ++ c.take_names-names.new.self.started) ≡
    (lock g c.go-end.new.self).threads =
    ap (λ v. c.go-end.new.self.threads ++ v.started) c.take_names-names.ensures.rest in
    let gone = subst (λ l. Reach p c.args.thread c.args.most
    (record { view = state g c.set_free.new.self; threads = l }) (lock g c.go-end.new.self)) same
    c.in-Ok.ensures.done in
    subst (λ l. FreeDone p c.args.thread c.args.most
    (record { thread = c.args.thread; steps = c.args.most; names = c.take_names-names.result })
    (lock g c.args.self.now) (record { view = state g c.take_names-names.new.self; threads = l })) (sym last)
    (free_ends (g.C.Client.prog c.args.self.now.client.now) c.args.thread c.args.most (lock g c.args.self.now)
    (lock g c.go-end.new.self) (state g c.set_free.new.self) (state g c.take_names-names.new.self)
    (omega arith) bg (ap (state g) c.take_names-names.ensures.rest) _ refl refl c.requires.some
    c.take_names-names.ensures.names gone)

pub returns-then-ends_turn-clause-done : goal.returns-then-ends_turn-clause-done
returns-then-ends_turn-clause-done g c =
    let bg : Begun (state g c.args.self.now.view) (state g c.set_free.new.self) [] =
    begun_by _ _ _ _ _ _ [] true (ap (state g) c.set_free.ensures.rest) c.set_free.ensures.made
    c.set_free.ensures.kept (λ f. cc) in
    let y = c.ends_turn.ensures.yes c.if-ends_turn.true in
    let p = g.C.Client.prog c.args.self.now.client.now in
    let same : (c.args.self.now.threads ++ c.set_free.new.self.started) ≡ (lock g c.args.self.now).threads =
    ap (λ v. c.args.self.now.threads ++ v.started) c.set_free.ensures.rest in
    let last : (c.go-end.new.self.threads ++ c.take_names-names.new.self.started) ≡
    (lock g c.go-end.new.self).threads =
    ap (λ v. c.go-end.new.self.threads ++ v.started) c.take_names-names.ensures.rest in
    let gone = subst (λ l. ReachCut p c.args.thread c.args.most c.in-Err.cut.done c.in-Err.cut.why
    (record { view = state g c.set_free.new.self; threads = l }) (lock g c.go-end.new.self)) same
    c.in-Err.ensures.cut in
    subst (λ l. FreeDone p c.args.thread c.args.most
    (record { thread = c.args.thread; steps = c.in-Err.cut.done; names = c.take_names-names.result })
    (lock g c.args.self.now) (record { view = state g c.take_names-names.new.self; threads = l })) (sym last)
    (free_rests (g.C.Client.prog c.args.self.now.client.now) c.args.thread c.args.most (lock g c.args.self.now)
    (lock g c.go-end.new.self) (state g c.set_free.new.self) (state g c.take_names-names.new.self)
    (omega arith) bg (ap (state g) c.take_names-names.ensures.rest) _ _ _ refl refl (let z = y.0 in omega arith)
    c.take_names-names.ensures.names y.1 gone)

pub returns-else-ends_turn-clause-cut : goal.returns-else-ends_turn-clause-cut
returns-else-ends_turn-clause-cut g c =
    let bg : Begun (state g c.args.self.now.view) (state g c.set_free.new.self) [] =
    begun_by _ _ _ _ _ _ [] true (ap (state g) c.set_free.ensures.rest) c.set_free.ensures.made
    c.set_free.ensures.kept (λ f. cc) in
    let p = g.C.Client.prog c.args.self.now.client.now in
    let same : (c.args.self.now.threads ++ c.set_free.new.self.started) ≡ (lock g c.args.self.now).threads =
    ap (λ v. c.args.self.now.threads ++ v.started) c.set_free.ensures.rest in
    let last : (c.go-end.new.self.threads ++ c.take_names-names.new.self.started) ≡
    (lock g c.go-end.new.self).threads =
    ap (λ v. c.go-end.new.self.threads ++ v.started) c.take_names-names.ensures.rest in
    let gone = subst (λ l. ReachCut p c.args.thread c.args.most c.in-Err.cut.done c.in-Err.cut.why
    (record { view = state g c.set_free.new.self; threads = l }) (lock g c.go-end.new.self)) same
    c.in-Err.ensures.cut in
    subst (λ l. FreeCut p c.args.thread c.args.most c.in-Err.cut.done (places c.take_names-names.result)
    c.in-Err.cut.why (lock g c.args.self.now) (record { view = state g c.take_names-names.new.self; threads = l }))
    (sym last)
    (free_cut (g.C.Client.prog c.args.self.now.client.now) c.args.thread c.args.most (lock g c.args.self.now)
    (lock g c.go-end.new.self) (state g c.set_free.new.self) (state g c.take_names-names.new.self)
    (omega arith) bg (ap (state g) c.take_names-names.ensures.rest) _ _ _ c.take_names-names.ensures.names
    (c.go-end.ensures.free ∙ ap (λ v. v.free) c.set_free.ensures.rest)
    (c.ends_turn.ensures.not c.if-ends_turn.false) gone)
