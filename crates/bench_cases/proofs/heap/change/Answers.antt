use Rattle.std.proofs.Common.{◌*◌}
use Rattle.py_base.specs.declared.kind.Kind.TheVariants.{Dict}
use Rattle.bench_cases.proofs.Holding.{opened, set_asks, was_set}
use Rattle.bench_cases.proofs.heap.change.Goals as goal

pub set_val-requires-clause-there : goal.set_val-requires-clause-there
set_val-requires-clause-there g c = set_asks g.met.V.View.lawful c.args.dict.0 c.args.n c.args.place _ _
    c.requires.pair (opened g.met.V.View.lawful g.met.V.View.bracketed Dict _ _ _ _ c.open_step.ensures c.requires.dict)

pub returns : goal.returns
returns g c = was_set g.met.V.View.lawful c.args.dict.0 (2 * c.args.n) _ _ _ _ _
    (opened g.met.V.View.lawful g.met.V.View.bracketed Dict _ _ _ _ c.open_step.ensures c.requires.dict)
    c.set_val.ensures
