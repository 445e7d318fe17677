use Rattle.std.proofs.Common.{arith, subst}
use Rattle.py_data.specs.Row.{Start}
use Rattle.py_data.proofs.Steps.{stop_as}
use Rattle.lock_run.specs.declared.script.ScriptState.TheVariants.{Acts}
use Rattle.lock_run.proofs.ScriptRecords.{starting_first, starting_more, starting_refused, starting_starved, starting_last}
use Rattle.lock_run.proofs.script.start_all.Goals as goal

pub loop-number-init : goal.loop-number-init
loop-number-init g c = starting_first c.requires.live

pub returns-in_err-cells : goal.returns-in_err-cells
returns-in_err-cells g c = stop_as _ _ _ _ _ _ (starting_starved c.loop-number.invariant) c.from_residual.ensures.1

pub returns-in_err-start_thread : goal.returns-in_err-start_thread
returns-in_err-start_thread g c =
    let d = subst (λ cells. g.V.View.sense.refuses (Start (Acts c.loop-number.number 0 cells c.args.list))
    c.loop-number.v c.in_err-start_thread.field-0.0 c.start_thread.new.self) c.in_ok-cells.ensures
    c.in_err-start_thread.ensures in
    stop_as _ _ _ _ _ _ (starting_refused c.loop-number.invariant c.in_err-start_thread.field-0.0
    c.start_thread.new.self (omega arith) d) c.from_residual-in_err-start_thread.ensures.1

pub loop-number-preserved : goal.loop-number-preserved
loop-number-preserved g c =
    let d = subst (λ cells. g.V.View.sense.does (Start (Acts c.loop-number.number 0 cells c.args.list)) c.loop-number.v
    tt c.start_thread.new.self) c.in_ok-cells.ensures c.in_ok-start_thread.ensures in
    starting_more c.loop-number.invariant g.met.V.View.lawful c.start_thread.new.self (omega arith) d

pub returns : goal.returns
returns g c = starting_last c.loop-number.invariant (omega arith)
