use Rattle.obj_bench.proofs.BenchSteps.{roots_safe, roots_done}
use Rattle.obj_bench.proofs.state.rooted.Goals as goal

pub make_roots-requires-clause-safe : goal.make_roots-requires-clause-safe
make_roots-requires-clause-safe g c = roots_safe c.requires

pub returns : goal.returns
returns g c = roots_done c.requires g.met.V.View.lawful _ _ c.in_ok-roots.ensures
