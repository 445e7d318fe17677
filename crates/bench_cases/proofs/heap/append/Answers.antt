use Rattle.py_base.specs.declared.kind.Kind.TheVariants.{List as ListKind}
use Rattle.bench_cases.proofs.Holding.{opened, push_asks, pushed}
use Rattle.bench_cases.proofs.heap.append.Goals as goal

pub push_val-requires-clause-there : goal.push_val-requires-clause-there
push_val-requires-clause-there g c = push_asks g.met.V.View.lawful c.args.list.0 c.args.n _ _ c.requires.below
    (opened g.met.V.View.lawful g.met.V.View.bracketed ListKind _ _ _ _ c.open_step.ensures c.requires.list)

pub returns : goal.returns
returns g c = pushed g.met.V.View.lawful c.args.list.0 c.args.n _ _ _ _
    (opened g.met.V.View.lawful g.met.V.View.bracketed ListKind _ _ _ _ c.open_step.ensures c.requires.list)
    c.push_val.ensures
