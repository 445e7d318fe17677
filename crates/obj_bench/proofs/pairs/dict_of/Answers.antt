use Rattle.obj_bench.proofs.BenchPairs.{pairs_fit}
use Rattle.obj_bench.proofs.pairs.dict_of.Goals as goal

pub made-requires-clause-fits : goal.made-requires-clause-fits
made-requires-clause-fits g c = λ a. pairs_fit _ a c.args.n _ _ c.in_ok-zero_pairs.ensures c.new.ensures
    c.requires.limit
