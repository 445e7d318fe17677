use Rattle.obj_bench.proofs.BenchClasses.{function_fit}
use Rattle.obj_bench.proofs.makers.function.Goals as goal

pub made-requires-clause-fits : goal.made-requires-clause-fits
made-requires-clause-fits g c = λ a. function_fit (g.V.View.sense.heap c.args.v.now) a c.args.name.0 c.args.defaults.0
    _ _ c.in_ok-values.ensures c.new.ensures c.requires.name c.requires.defaults
