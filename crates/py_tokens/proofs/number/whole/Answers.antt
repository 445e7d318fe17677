use Rattle.py_tokens.proofs.Digits.{all_octal}
use Rattle.py_tokens.proofs.number.whole.Goals as goal

pub suffixed-requires-clause-of_base : goal.suffixed-requires-clause-of_base
suffixed-requires-clause-of_base c = all_octal c.args.digits.now c.run_len.result c.run_len.ensures.value
    c.if-run_len-digits.true
