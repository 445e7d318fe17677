use Rattle.std.proofs.Common.{◌<◌, ◌≤◌, ◌∙◌, length, take, drop, refl, sym, ap, subst}
use Rattle.std.proofs.lemmas.Option.{slice_get_past}
use Rattle.py_data.specs.Heap.{at}
use Rattle.py_data.specs.Row.{Read}
use Rattle.py_data.proofs.Rows.{again}
use Rattle.py_data.proofs.AfterLook.{looked_record}
use Rattle.obj_seq.proofs.Forms.{one_byte}
use Rattle.obj_seq.proofs.advance.byte_at.Goals as goal

pub returns-in_ok-copy_bytes-clause-shows : goal.returns-in_ok-copy_bytes-clause-shows
returns-in_ok-copy_bytes-clause-shows g c =
    let L = g.met.V.View.lawful in
    let same2 = again L c.args.a.0 _ _ _ _ _ c.in_ok-n.ensures.shows.0 c.in_ok-copy_bytes.ensures.look.0 in
    let less : c.args.at < length (at (g.V.View.sense.heap c.args.v.now) c.args.a.0).bytes =
    subst (λ n. c.args.at < n) c.in_ok-n.ensures.shows.1 c.if-at-n.true in (
      subst (λ z. g.V.View.sense.does (Read c.args.a.0) c.args.v.now (at (g.V.View.sense.heap c.args.v.now) c.args.a.0)
          z) (sym same2) c.in_ok-n.ensures.shows.0,
      one_byte (at (g.V.View.sense.heap c.args.v.now) c.args.a.0).bytes c.copy_bytes.new.out c.args.at less
          (c.in_ok-copy_bytes.ensures.bytes ∙
          ap (λ r. take 1 (drop c.args.at r.bytes)) (looked_record L c.in_ok-n.ensures.shows.0 refl)),
    )

pub returns-else-at-n-clause-shows : goal.returns-else-at-n-clause-shows
returns-else-at-n-clause-shows g c =
    let less : length (at (g.V.View.sense.heap c.args.v.now) c.args.a.0).bytes ≤ c.args.at =
    subst (λ n. n ≤ c.args.at) c.in_ok-n.ensures.shows.1 c.if-at-n.false in
    (c.in_ok-n.ensures.shows.0, sym (slice_get_past _ _ less))
