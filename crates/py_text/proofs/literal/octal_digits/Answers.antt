use Rattle.std.proofs.Common.{◌≡◌, ◌∙◌, ap, sym, ltb, le-ltb, length, take, arith}
use Rattle.std.proofs.Math.Seq.{take-length}
use Rattle.py_text.proofs.Digits.{octal_digits_stop}
use Rattle.py_text.proofs.literal.octal_digits.Goals as goal

pub returns-then-digit_value-ge8 : goal.returns-then-digit_value-ge8
returns-then-digit_value-ge8 c = octal_digits_stop c.args.bytes.now c.first-most.result.now c.loop-i.i
    c.first-most.ensures (omega arith) c.loop-i.invariant (λ h. ap (λ d. ltb d 8) (sym c.digit_value.ensures) ∙
    le-ltb c.digit_value.result 8 c.if-digit_value-ge8.true)

pub returns : goal.returns
returns c =
    let all : c.loop-i.i ≡ length c.first-most.result.now = omega arith in
    sym (take-length c.first-most.result.now) ∙ ap (λ n. take n c.first-most.result.now) (sym all)
    ∙ octal_digits_stop c.args.bytes.now c.first-most.result.now c.loop-i.i c.first-most.ensures (omega arith)
    c.loop-i.invariant (λ h. absurd (omega arith))
