use Rattle.obj_class.proofs.TellingLooks.{told_looks}
use Rattle.obj_class.specs.Telling.{told_row}
use Rattle.obj_bench.specs.Bench.{free}
use Rattle.obj_bench.proofs.BenchSteps.{look_safe, look_done, good_item}
use Rattle.obj_bench.proofs.nested.text.Goals as goal

pub text-requires-clause-safe : goal.text-requires-clause-safe
text-requires-clause-safe g c =
    let i0 = good_item _ _ c.requires.place c.at.ensures c.requires.good in
    look_safe _ (told_row c.args.roots.0 c.at.result c.args.quoted) c.requires.good
    (told_looks _ free (g.V.View.sense.heap c.args.v.now) c.requires.good.order c.args.roots.0
    c.requires.good.listed c.at.result c.args.quoted i0)

pub returns : goal.returns
returns g c =
    let i0 = good_item _ _ c.requires.place c.at.ensures c.requires.good in
    look_done _ (told_row c.args.roots.0 c.at.result c.args.quoted) c.requires.good
    (told_looks _ free (g.V.View.sense.heap c.args.v.now) c.requires.good.order c.args.roots.0
    c.requires.good.listed c.at.result c.args.quoted i0) g.met.V.View.lawful _ _ c.in_ok-got.ensures
