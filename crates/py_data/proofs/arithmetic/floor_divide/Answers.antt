use Rattle.std.proofs.Common.{◌≡◌, ◌-ℤ◌, pos, FitsSigned, w64, sym, subst}
use Rattle.std.proofs.lemmas.Int.{to_z-of_z}
use Rattle.std.specs.Prelude.{int_div, int_rem}
use Rattle.py_data.specs.Arithmetic.{floor_quotient}
use Rattle.py_data.proofs.FloorDivision.{lowered, kept, quotient_near, floor_quotient_near, rest_fits}
use Rattle.py_data.proofs.arithmetic.floor_divide.Goals as goal
use Rattle.py_data.proofs.arithmetic.floor_divide.Goals.{Then-is_across}

one_less : (c : Then-is_across) → int_div c.args.a c.args.b -ℤ pos 1 ≡ floor_quotient c.args.a c.args.b
one_less c =
    let a = c.args.a in
    let b = c.args.b in
    let s = simp (
      to_z-of_z w64 a c.ranges.a,
      to_z-of_z w64 b c.ranges.b,
      to_z-of_z w64 (int_rem a b) (rest_fits a b c.ranges.a),
    ) at c.is_across.ensures in
    (lowered a b c.requires.divisor (s.0 c.if-is_across.true)).0

one_less_fits : (c : Then-is_across) → FitsSigned w64 (int_div c.args.a c.args.b -ℤ pos 1)
one_less_fits c = subst (FitsSigned w64) (sym (one_less c))
    (floor_quotient_near c.args.a c.args.b c.ranges.a c.requires.fits)

pub overflow_sub-result : goal.overflow_sub-result
overflow_sub-result c =
    let a = c.args.a in
    let b = c.args.b in
    simp (
      to_z-of_z w64 a c.ranges.a,
      to_z-of_z w64 b c.ranges.b,
      to_z-of_z w64 (int_div a b) (quotient_near a b c.ranges.a c.requires.fits),
    ) (one_less_fits c)

pub returns-then-is_across : goal.returns-then-is_across
returns-then-is_across c =
    let a = c.args.a in
    let b = c.args.b in
    simp (
      to_z-of_z w64 a c.ranges.a,
      to_z-of_z w64 b c.ranges.b,
      to_z-of_z w64 (int_div a b) (quotient_near a b c.ranges.a c.requires.fits),
      to_z-of_z w64 (int_div a b -ℤ pos 1) (one_less_fits c),
    ) (one_less c)

pub returns-else-is_across : goal.returns-else-is_across
returns-else-is_across c =
    let a = c.args.a in
    let b = c.args.b in
    let s = simp (
      to_z-of_z w64 a c.ranges.a,
      to_z-of_z w64 b c.ranges.b,
      to_z-of_z w64 (int_rem a b) (rest_fits a b c.ranges.a),
    ) at c.is_across.ensures in
    let fq = quotient_near a b c.ranges.a c.requires.fits in
    let k = (kept a b c.requires.divisor (λ t. let y = s.1 t in cc (y, c.if-is_across.false))).0 in
    simp (to_z-of_z w64 a c.ranges.a, to_z-of_z w64 b c.ranges.b, to_z-of_z w64 (int_div a b) fq) k
