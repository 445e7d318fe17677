use Rattle.std.proofs.Common.{arith, subst, sym, ◌+◌}
use Rattle.py_data.specs.Row.{Make}
use Rattle.py_data.specs.Sense.{Asks}
use Rattle.py_data.proofs.Steps.{stop_as}
use Rattle.lock_run.specs.inner.ScriptSafe.{cell_asks}
use Rattle.lock_run.proofs.ScriptRecords.{Making, making_first, making_more, making_refused, making_starved, making_last}
use Rattle.lock_run.proofs.script.make_all.Goals as goal

pub loop-i-init : goal.loop-i-init
loop-i-init g c = subst (λ cells. Making g.V.View.sense c.args.n 0 cells c.args.v.now c.args.v.now)
    (sym c.new-cells.ensures) (making_first c.requires.live)

pub make-requires-clause-shape : goal.make-requires-clause-shape
make-requires-clause-shape g c = subst (λ r. Asks {S = g.row.S.Denot} g.V.View.sense.partial (Make r)
    (g.V.View.sense.heap c.loop-i.v)) (sym c.in_ok-cell.ensures) (cell_asks g.row.S.Denot _ _)

pub returns-in_err-a : goal.returns-in_err-a
returns-in_err-a g c =
    let d = subst (λ r. g.V.View.sense.refuses (Make r) c.loop-i.v c.in_err-a.field-0.0 c.make.new.self)
    c.in_ok-cell.ensures c.in_err-a.ensures in
    stop_as _ _ _ _ _ _ (making_refused c.loop-i.invariant c.in_err-a.field-0.0 c.make.new.self (omega arith) d)
    c.from_residual-in_err-a.ensures.1

pub returns-in_err-push : goal.returns-in_err-push
returns-in_err-push g c =
    let d = subst (λ r. g.V.View.sense.does (Make r) c.loop-i.v c.in_ok-a.a.0 c.make.new.self) c.in_ok-cell.ensures
    c.in_ok-a.ensures in
    let m = making_more c.loop-i.invariant g.met.V.View.lawful c.in_ok-a.a.0 c.make.new.self (omega arith) d in
    stop_as _ _ _ _ _ _ (making_starved m) c.from_residual-in_err-push.ensures.1

pub loop-i-preserved : goal.loop-i-preserved
loop-i-preserved g c =
    let d = subst (λ r. g.V.View.sense.does (Make r) c.loop-i.v c.in_ok-a.a.0 c.make.new.self) c.in_ok-cell.ensures
    c.in_ok-a.ensures in
    subst (λ cells. Making g.V.View.sense c.args.n (c.loop-i._i + 1) cells c.args.v.now c.make.new.self)
    {y = c.push.new.self} (sym c.in_ok-push.ensures.ok)
    (making_more c.loop-i.invariant g.met.V.View.lawful c.in_ok-a.a.0 c.make.new.self (omega arith) d)

pub returns : goal.returns
returns g c = making_last c.loop-i.invariant (omega arith)
