use Rattle.bench_cases.proofs.Holding.{val_asks, looked}
use Rattle.bench_cases.proofs.heap.sum.Goals as goal

pub val-requires-clause-live : goal.val-requires-clause-live
val-requires-clause-live g c = c.loop-i.invariant.1.live

pub val-requires-clause-there : goal.val-requires-clause-there
val-requires-clause-there g c = val_asks g.met.V.View.lawful _ _ _ _ c.loop-i-test.true c.loop-i.invariant

pub loop-i-preserved : goal.loop-i-preserved
loop-i-preserved g c = looked g.met.V.View.lawful _ _ _ _ _ c.in_ok-val.field-0 c.loop-i.invariant c.in_ok-val.ensures
