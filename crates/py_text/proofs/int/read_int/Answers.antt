use Rattle.std.proofs.Common.{◌≡◌, ◌+◌, ◌*◌, take, refl, sym, ap, ◌∙◌, arith}
use Rattle.std.proofs.lemmas.Int.Digits.{digits_value_more}
use Rattle.std.proofs.lemmas.Str.Parse.{digits_value-take-le}
use Rattle.std.specs.Str.Parse.{digits_value}
use Rattle.py_text.proofs.Digits.{base_of_digits}
use Rattle.py_text.proofs.int.read_int.Goals as goal

pub returns-then-next-gt-MOST : goal.returns-then-next-gt-MOST
returns-then-next-gt-MOST c =
    let more = digits_value_more c.args.base c.args.digits.now c.loop-b.b-index c.loop-b-test.true in
    let most = digits_value-take-le c.args.base c.args.digits.now (c.loop-b.b-index + 1)
    (base_of_digits c.args.base c.args.digits.now c.requires.some c.requires.of_base) in
    let next : c.loop-b.value * c.args.base + c.digit_value.result ≡ digits_value c.args.base
    (take (c.loop-b.b-index + 1) c.args.digits.now) =
    ap (λ v. v * c.args.base + c.digit_value.result) c.loop-b.invariant.same ∙
    ap (λ d. digits_value c.args.base (take c.loop-b.b-index c.args.digits.now) * c.args.base + d)
    c.digit_value.ensures ∙ sym more in
    (refl, omega (arith, c.if-next-gt-MOST.true))

pub loop-b-preserved : goal.loop-b-preserved
loop-b-preserved c =
    let more = digits_value_more c.args.base c.args.digits.now c.loop-b.b-index c.loop-b-test.true in
    record {
      same = ap (λ v. v * c.args.base + c.digit_value.result) c.loop-b.invariant.same ∙
          ap (λ d. digits_value c.args.base (take c.loop-b.b-index c.args.digits.now) * c.args.base + d)
          c.digit_value.ensures ∙ sym more;
      small = omega (arith, c.if-next-gt-MOST.false);
    }
