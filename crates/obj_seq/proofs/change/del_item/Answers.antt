use Rattle.std.proofs.Common.{◌+◌, drop, refl}
use Rattle.py_data.specs.declared.record.Got.TheVariants.{Is}
use Rattle.py_data.specs.Row.{Ret}
use Rattle.obj_seq.specs.Seq.{del_item_at, gap_row}
use Rattle.obj_seq.proofs.Places.{at_place, place_found}
use Rattle.py_data.proofs.AfterLook.{after_look}
use Rattle.obj_seq.proofs.change.del_item.Goals as goal

pub returns-in_ok-close_gap-in-Some : goal.returns-in_ok-close_gap-in-Some
returns-in_ok-close_gap-in-Some g c =
    after_look g.V.View.sense g.met.V.View.lawful c.args.a.0 (del_item_at c.args.a.0 c.args.i) c.args.v.now
    c.len.new.self
    (λ r. gap_row c.args.a.0 c.in-Some.k (drop (c.in-Some.k + 1) r.values)) (λ _. Ret (Is tt)) c.in_ok-n.ensures.shows.0
    (at_place _ _ _ _ (place_found c.args.i _ _ _ _ c.ranges.i c.in_ok-n.ensures.shows.1 c.place_of.ensures
    c.in-Some.is))
    c.close_gap.new.v tt (Is tt) c.in_ok-close_gap-in-Some.ensures refl
