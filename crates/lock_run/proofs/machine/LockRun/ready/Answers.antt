use Rattle.std.proofs.Common.{arith, ◌≡◌, ◌∙◌, ◌+◌, ◌-◌, length, slice_get, ap, sym}
use Rattle.lock_run.proofs.Stepping.{get_front, get_behind, some_is}
use Rattle.lock_run.proofs.machine.LockRun.ready.Goals as goal

pub can_go-requires-else-t-moved : goal.can_go-requires-else-t-moved
can_go-requires-else-t-moved g c =
    let k : c.args.t ≡ length c.args.self.now.threads + (c.args.t - c.len-moved.result) = omega arith in (
      _,
      c.args.t,
      get_behind c.args.self.now.threads c.args.self.now.view.started c.args.t
          (c.args.t - c.len-moved.result) _ k
          (ap (λ l. slice_get l (c.args.t - c.len-moved.result)) (sym c.started.ensures) ∙ c.at-else-t-moved.ensures),
      c.requires.sound,
    )

pub returns-then-t-moved : goal.returns-then-t-moved
returns-then-t-moved g c = some_is _ _ _
    (get_front c.args.self.now.threads c.args.self.now.view.started c.args.t _ c.at.ensures) c.can_go.ensures

pub returns-else-t-moved : goal.returns-else-t-moved
returns-else-t-moved g c =
    let k : c.args.t ≡ length c.args.self.now.threads + (c.args.t - c.len-moved.result) = omega arith in
    some_is _ _ _ (get_behind c.args.self.now.threads c.args.self.now.view.started c.args.t
    (c.args.t - c.len-moved.result) _ k
    (ap (λ l. slice_get l (c.args.t - c.len-moved.result)) (sym c.started.ensures) ∙ c.at-else-t-moved.ensures))
    c.can_go-else-t-moved.ensures
