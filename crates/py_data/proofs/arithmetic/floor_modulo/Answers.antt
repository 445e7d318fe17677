use Rattle.std.proofs.Common.{◌≡◌, ◌+ℤ◌, FitsSigned, w64, sym, subst}
use Rattle.std.proofs.lemmas.Int.{to_z-of_z}
use Rattle.std.specs.Prelude.{int_rem}
use Rattle.py_data.specs.Arithmetic.{floor_remainder}
use Rattle.py_data.proofs.FloorDivision.{lowered, kept, rest_fits, floor_remainder_fits}
use Rattle.py_data.proofs.arithmetic.floor_modulo.Goals as goal
use Rattle.py_data.proofs.arithmetic.floor_modulo.Goals.{Then-is_across}

moved : (c : Then-is_across) → int_rem c.args.a c.args.b +ℤ c.args.b ≡ floor_remainder c.args.a c.args.b
moved c =
    let a = c.args.a in
    let b = c.args.b in
    let s = simp (
      to_z-of_z w64 a c.ranges.a,
      to_z-of_z w64 b c.ranges.b,
      to_z-of_z w64 (int_rem a b) (rest_fits a b c.ranges.a),
    ) at c.is_across.ensures in
    (lowered a b c.requires (s.0 c.if-is_across.true)).1

moved_fits : (c : Then-is_across) → FitsSigned w64 (int_rem c.args.a c.args.b +ℤ c.args.b)
moved_fits c = subst (FitsSigned w64) (sym (moved c)) (floor_remainder_fits c.args.a c.args.b c.ranges.b c.requires)

pub returns-then-is_across : goal.returns-then-is_across
returns-then-is_across c =
    let a = c.args.a in
    let b = c.args.b in
    simp (
      to_z-of_z w64 a c.ranges.a,
      to_z-of_z w64 b c.ranges.b,
      to_z-of_z w64 (int_rem a b) (rest_fits a b c.ranges.a),
      to_z-of_z w64 (int_rem a b +ℤ b) (moved_fits c),
    )
    (moved c)

pub returns-else-is_across : goal.returns-else-is_across
returns-else-is_across c =
    let a = c.args.a in
    let b = c.args.b in
    let s = simp (
      to_z-of_z w64 a c.ranges.a,
      to_z-of_z w64 b c.ranges.b,
      to_z-of_z w64 (int_rem a b) (rest_fits a b c.ranges.a),
    ) at c.is_across.ensures in
    let k = (kept a b c.requires (λ t. let y = s.1 t in cc (y, c.if-is_across.false))).1 in
    simp (
      to_z-of_z w64 a c.ranges.a,
      to_z-of_z w64 b c.ranges.b,
      to_z-of_z w64 (int_rem a b) (rest_fits a b c.ranges.a),
    ) k
