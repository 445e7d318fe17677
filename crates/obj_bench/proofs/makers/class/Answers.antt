use Rattle.obj_bench.proofs.BenchClasses.{class_fit}
use Rattle.obj_bench.proofs.makers.class.Goals as goal

pub made-requires-clause-fits : goal.made-requires-clause-fits
made-requires-clause-fits g c = λ a. class_fit (g.V.View.sense.heap c.args.v.now) c.requires.good.order a c.args.name.0
    c.args.dict.0 c.args.base _ _ c.in_ok-values.ensures c.new.ensures c.requires.name c.requires.base c.requires.dict
