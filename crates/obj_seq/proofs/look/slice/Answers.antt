use Rattle.py_data.proofs.Rows.{again}
use Rattle.py_data.proofs.Steps.{leads_asks, leads_refused, leads_do, leads_ret, stop_as}
use Rattle.obj_seq.specs.Seq.{slice_at}
use Rattle.obj_seq.proofs.PartSteps.{slice_leads, starved_looked}
use Rattle.obj_seq.proofs.look.slice.Goals as goal

pub returns-in_err-values : goal.returns-in_err-values
returns-in_err-values g c =
    let L = g.met.V.View.lawful in
    let same = again L c.args.a.0 _ _ _ _ _ c.in_ok-kind.ensures.0 c.in_ok-n.ensures.shows.0 in
    stop_as _ _ _ _ _ _ (starved_looked L _ _ _ (slice_at c.args.from c.args.to) c.in_ok-kind.ensures.0 same
    c.in_err-values.ensures c.requires.safe c.requires.live) c.from_residual-in_err-values.ensures.1

pub make-requires-clause-live : goal.make-requires-clause-live
make-requires-clause-live g c =
    let l = slice_leads _ g.met.V.View.lawful _ _ _ _ _ _ _ _ _ _ _ _ _ _ c.in_ok-kind.ensures.0
    c.in_ok-n.ensures.shows.0 c.in_ok-values.ensures c.in_ok-kind.ensures.1 c.in_ok-n.ensures.shows.1
    c.bound_or.ensures c.bound_or-2.ensures c.new.ensures c.requires.safe c.requires.live in
    l.live

pub make-requires-clause-shape : goal.make-requires-clause-shape
make-requires-clause-shape g c =
    leads_asks (slice_leads _ g.met.V.View.lawful _ _ _ _ _ _ _ _ _ _ _ _ _ _ c.in_ok-kind.ensures.0
    c.in_ok-n.ensures.shows.0 c.in_ok-values.ensures c.in_ok-kind.ensures.1 c.in_ok-n.ensures.shows.1
    c.bound_or.ensures c.bound_or-2.ensures c.new.ensures c.requires.safe c.requires.live)

pub returns-in_err-make : goal.returns-in_err-make
returns-in_err-make g c =
    let l = slice_leads _ g.met.V.View.lawful _ _ _ _ _ _ _ _ _ _ _ _ _ _ c.in_ok-kind.ensures.0
    c.in_ok-n.ensures.shows.0 c.in_ok-values.ensures c.in_ok-kind.ensures.1 c.in_ok-n.ensures.shows.1
    c.bound_or.ensures c.bound_or-2.ensures c.new.ensures c.requires.safe c.requires.live in
    stop_as _ _ _ _ _ _ (leads_refused l c.in_err-make.ensures) c.from_residual-in_err-make.ensures.1

pub returns : goal.returns
returns g c =
    let L = g.met.V.View.lawful in
    let l = slice_leads _ g.met.V.View.lawful _ _ _ _ _ _ _ _ _ _ _ _ _ _ c.in_ok-kind.ensures.0
    c.in_ok-n.ensures.shows.0 c.in_ok-values.ensures c.in_ok-kind.ensures.1 c.in_ok-n.ensures.shows.1
    c.bound_or.ensures c.bound_or-2.ensures c.new.ensures c.requires.safe c.requires.live in
    leads_ret (leads_do L c.in_ok-make.field-0.0 l c.in_ok-make.ensures)
