use Rattle.py_tokens.proofs.Digits.{all_digits_front}
use Rattle.py_tokens.proofs.number.prefixed.Goals as goal

pub suffixed-requires-clause-of_base : goal.suffixed-requires-clause-of_base
suffixed-requires-clause-of_base c = all_digits_front c.args.base c.args.chars.now _ c.run_len-len.result
    c.run_len-len.ensures.value c.first.ensures
