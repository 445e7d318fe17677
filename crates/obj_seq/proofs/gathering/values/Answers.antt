use Rattle.std.proofs.Common.{◌∙◌, ap}
use Rattle.py_data.specs.declared.record.Got.TheVariants.{Is}
use Rattle.py_data.specs.Heap.{at}
use Rattle.py_data.proofs.Steps.{stands_again, stop_as}
use Rattle.obj_seq.specs.Seq.{part}
use Rattle.obj_seq.proofs.GatherSteps.{stands_asks, ret_as, err_as, part_all}
use Rattle.obj_seq.proofs.gathering.values.Goals as goal

pub len-requires-clause-there : goal.len-requires-clause-there
len-requires-clause-there g c = stands_asks c.requires.stands

pub returns-in_err-collect : goal.returns-in_err-collect
returns-in_err-collect g c =
    let same = stands_again g.met.V.View.lawful _ c.requires.stands c.in_ok-n.ensures.shows.0 in
    stop_as _ _ _ _ _ _ (err_as g.V.View.sense _ _ _ _ _ _ same c.in_err-collect.ensures)
    c.from_residual-in_err-collect.ensures.1

pub returns : goal.returns
returns g c =
    let same = stands_again g.met.V.View.lawful _ c.requires.stands c.in_ok-n.ensures.shows.0 in
    let all = ap (λ z. part (at (g.V.View.sense.heap z) c.args.a.0).values 0 c.in_ok-n.n) same ∙
    part_all (at (g.V.View.sense.heap c.args.v.now) c.args.a.0).values c.in_ok-n.n c.in_ok-n.ensures.shows.1 in
    ret_as g.V.View.sense (λ vs. Is vs) _ _ _ _ _ _ same (ap (λ vs. Is vs) all) c.in_ok-collect.ensures
