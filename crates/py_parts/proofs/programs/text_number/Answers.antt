use Rattle.std.proofs.Common.{◌≡◌, subst, IfOk}
use Rattle.py_base.specs.Numbers.{number_from}
use Rattle.py_code.specs.Right.{first_text, texts_of}
use Rattle.py_parts.proofs.Places.{text_numbered}
use Rattle.py_parts.proofs.programs.text_number.Goals as goal

pub returns : goal.returns
returns c = subst (λ z. IfOk c.text_from.result (λ o. o ≡ z)) (text_numbered c.args.p.now c.args.text.now)
    (subst (λ rs. IfOk c.text_from.result (λ o. o ≡ number_from first_text (texts_of rs) c.args.text.now))
    c.as_slice.ensures c.text_from.ensures)
