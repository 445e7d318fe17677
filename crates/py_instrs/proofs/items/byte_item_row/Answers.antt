use Rattle.std.proofs.Common.{◌≡◌, ℤ, List, ℕ, length, sym, subst, w64, to_z, of_z}
use Rattle.std.proofs.lemmas.Int.{to_z-of_z}
use Rattle.py_data.specs.Looking.{bytes_row}
use Rattle.py_data.specs.Sense.{Safe, Meets}
use Rattle.py_data.proofs.Steps.{safe_then, meets_bind}
use Rattle.obj_seq.specs.Seq.{place}
use Rattle.py_frames.specs.ItemRows.{byte_row, byte_item_row}
use Rattle.py_instrs.proofs.items.byte_item_row.Goals as goal

pub byte_in-requires-clause-safe : goal.byte_in-requires-clause-safe
unfolding byte_item_row
byte_in-requires-clause-safe g c =
    let u = g.V.View.sense in
    let i : to_z w64 (of_z w64 c.args.i) ≡ c.args.i = to_z-of_z w64 c.args.i c.ranges.i in
    let here = safe_then u g.met.V.View.lawful (bytes_row c.args.a.0)
    (λ t. byte_row {S = g.row.S.Denot} t (place c.args.i (length t))) c.args.v.now c.bytes_of.new.v
    c.in_ok-text.text c.requires.safe c.in_ok-text.ensures in
    subst (λ z. Safe u.partial (byte_row {S = g.row.S.Denot} c.as_slice.result.now
    (place z (length c.as_slice.result.now))) (u.heap c.bytes_of.new.v)) (sym i)
    (subst (λ t. Safe u.partial (byte_row {S = g.row.S.Denot} t (place c.args.i (length t)))
    (u.heap c.bytes_of.new.v)) (sym c.as_slice.ensures) here)

pub returns : goal.returns
unfolding byte_item_row
returns g c =
    let u = g.V.View.sense in
    let i : to_z w64 (of_z w64 c.args.i) ≡ c.args.i = to_z-of_z w64 c.args.i c.ranges.i in
    meets_bind u (bytes_row c.args.a.0) (λ t. byte_row {S = g.row.S.Denot} t (place c.args.i (length t)))
    c.args.v.now c.bytes_of.new.v c.byte_in.new.v c.in_ok-text.text c.byte_in.result c.in_ok-text.ensures
    (subst (λ t. Meets u (byte_row {S = g.row.S.Denot} t (place c.args.i (length t))) c.bytes_of.new.v
    c.byte_in.new.v c.byte_in.result) c.as_slice.ensures
    (subst (λ z. Meets u (byte_row {S = g.row.S.Denot} c.as_slice.result.now
    (place z (length c.as_slice.result.now))) c.bytes_of.new.v c.byte_in.new.v c.byte_in.result) i
    c.byte_in.ensures))
