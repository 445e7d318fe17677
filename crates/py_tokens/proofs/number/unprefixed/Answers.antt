use Rattle.py_tokens.specs.declared.class.Base.TheVariants.{Ten}
use Rattle.py_tokens.proofs.Digits.{all_digits_front}
use Rattle.py_tokens.proofs.number.unprefixed.Goals as goal

pub whole-requires : goal.whole-requires
whole-requires c = all_digits_front Ten c.args.chars.now _ c.run_len-len.result c.run_len-len.ensures.value
    c.first.ensures
