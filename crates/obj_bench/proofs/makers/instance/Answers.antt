use Rattle.obj_bench.proofs.BenchClasses.{instance_fit}
use Rattle.obj_bench.proofs.makers.instance.Goals as goal

pub made-requires-clause-fits : goal.made-requires-clause-fits
made-requires-clause-fits g c = λ a. instance_fit (g.V.View.sense.heap c.args.v.now) a c.args.class.0 c.args.dict.0 _ _
    c.in_ok-values.ensures c.new.ensures c.requires.class c.requires.dict
