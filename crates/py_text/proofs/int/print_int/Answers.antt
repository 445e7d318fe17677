use Rattle.std.proofs.Common.{◌∙◌, ap, w64}
use Rattle.std.proofs.lemmas.Int.{to_z-of_z}
use Rattle.std.specs.Fmt.{signed_decimal}
use Rattle.py_text.proofs.Digits.{printed}
use Rattle.py_text.proofs.int.print_int.Goals as goal

pub returns-clause-back : goal.returns-clause-back
returns-clause-back c = printed c.from_slice.result c.args.n c.as_bytes.result.now c.ranges.n.sfits
    (c.as_bytes.ensures.value ∙ c.in_ok-text.ensures.ok ∙ ap signed_decimal (to_z-of_z w64 c.args.n c.ranges.n))
    c.from_slice.ensures
