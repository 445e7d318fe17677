use Rattle.std.proofs.Common.{◌+◌, ◌*◌, ◌%◌, take, sym, ap, ◌∙◌}
use Rattle.std.proofs.lemmas.Int.Digits.{digits_value_more}
use Rattle.std.specs.Str.Parse.{digits_value}
use Rattle.py_text.proofs.Digits.{low_byte_more}
use Rattle.py_text.proofs.literal.low_byte.Goals as goal

pub loop-b-preserved : goal.loop-b-preserved
loop-b-preserved c =
    let before = digits_value 8 (take c.loop-b.b-index c.args.digits.now) in
    low_byte_more c.loop-b.value before c.digit_value.result c.loop-b.invariant
    ∙ ap (λ d. (before * 8 + d) % 256) c.digit_value.ensures
    ∙ ap (λ n. n % 256) (sym (digits_value_more 8 c.args.digits.now c.loop-b.b-index c.loop-b-test.true))
