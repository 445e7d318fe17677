use Rattle.obj_bench.proofs.BenchClasses.{root_safe, root_done}
use Rattle.obj_bench.proofs.classes.call_root.Goals as goal

pub look-requires-clause-safe : goal.look-requires-clause-safe
look-requires-clause-safe g c = root_safe c.requires.good c.args.n c.requires.number

pub returns : goal.returns
returns g c = root_done c.requires.good c.args.n c.requires.number g.met.V.View.lawful _ _ c.in_ok-x.ensures
