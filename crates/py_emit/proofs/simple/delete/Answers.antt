use Rattle.std.proofs.Common.{◌+◌, drop, map}
use Rattle.std.proofs.lemmas.List.{drop_all}
use Rattle.py_emit.specs.inner.State.{no_frames}
use Rattle.py_templates.specs.Expressions.{all_deleted, deleted}
use Rattle.py_base.proofs.Lists.{next_item}
use Rattle.py_emit.proofs.Rests.{rest_step, rest_end}
use Rattle.py_emit.proofs.StmtArms.{deletion_arm}
use Rattle.py_emit.proofs.simple.delete.Goals as goal

pub loop-x-preserved : goal.loop-x-preserved
loop-x-preserved c =
    let e = next_item c.args.items.now c.loop-x.x-index c.x-item.result c.loop-x-test.true c.x-item.is in
    rest_step no_frames c.args.e.now (all_deleted c.args.names.now c.args.line (map (λ x. x.now) c.args.items.now))
    c.loop-x.e c.delete_one.new.e (deleted c.args.names.now c.args.line c.x-item.result.now)
    (all_deleted c.args.names.now c.args.line (map (λ x. x.now) (drop (c.loop-x.x-index + 1) c.args.items.now)))
    (rw e at c.loop-x.invariant) c.in_ok-delete_one.ensures.done

pub returns-clause-done : goal.returns-clause-done
returns-clause-done c env =
    let e = drop_all c.loop-x.x-index c.args.items.now c.loop-x-test.false in
    deletion_arm c.args.line env (all_deleted c.args.names.now c.args.line (map (λ x. x.now) c.args.items.now))
    c.args.e.now _
    (rest_end no_frames c.args.e.now (all_deleted c.args.names.now c.args.line (map (λ x. x.now) c.args.items.now))
    c.loop-x.e (rw e at c.loop-x.invariant))
