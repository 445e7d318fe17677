use Rattle.std.proofs.Common.{◌∙◌, rules}
use Rattle.stm_words.proofs.Numerals.{numeral_read}
use Rattle.stm_words.proofs.reader.numeral.Goals as goal

pub returns-then-has_digits : goal.returns-then-has_digits
returns-then-has_digits c = c.ok.ensures.value
    ∙ numeral_read c.args.text.now c.parse.result c.parse.ensures.value.0 (search rules)
