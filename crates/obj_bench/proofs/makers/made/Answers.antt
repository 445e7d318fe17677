use Rattle.obj_bench.proofs.BenchSteps.{good_makes, good_made}
use Rattle.obj_bench.proofs.makers.made.Goals as goal

pub make-requires-clause-shape : goal.make-requires-clause-shape
make-requires-clause-shape g c = good_makes c.requires.good _ c.requires.fits

pub returns : goal.returns
returns g c = good_made c.requires.good _ c.requires.fits g.met.V.View.lawful _ _ c.in_ok-a.ensures
