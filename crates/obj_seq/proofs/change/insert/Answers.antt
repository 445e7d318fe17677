use Rattle.std.proofs.Common.{◌<◌, drop, refl, subst}
use Rattle.py_data.specs.declared.record.Got.TheVariants.{Is}
use Rattle.py_data.specs.declared.record.TheConstants.{LENGTH_LIMIT}
use Rattle.py_data.specs.Heap.{at}
use Rattle.py_data.specs.Row.{Ret}
use Rattle.obj_seq.specs.Seq.{insert_at, shift_row}
use Rattle.obj_seq.proofs.Places.{bound_found, insert_is}
use Rattle.py_data.proofs.AfterLook.{after_look}
use Rattle.obj_seq.proofs.change.insert.Goals as goal

pub returns-in_ok-open_gap : goal.returns-in_ok-open_gap
returns-in_ok-open_gap g c =
    after_look g.V.View.sense g.met.V.View.lawful c.args.a.0 (insert_at c.args.a.0 c.args.i c.args.x) c.args.v.now
    c.len.new.self
    (λ r. shift_row c.args.a.0 c.bound_of.result c.args.x (drop c.bound_of.result r.values)) (λ _. Ret (Is tt))
    c.in_ok-n.ensures.shows.0
    (insert_is _ _ _ (at (g.V.View.sense.heap c.args.v.now) c.args.a.0) _
    (subst (λ n. n < LENGTH_LIMIT) c.in_ok-n.ensures.shows.1 c.if-n-lt-LENGTH_LIMIT.true)
    (bound_found c.args.i _ _ _ c.ranges.i c.in_ok-n.ensures.shows.1 c.bound_of.ensures))
    c.open_gap.new.v tt (Is tt) c.in_ok-open_gap.ensures refl
