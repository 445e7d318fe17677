use Rattle.std.proofs.Common.{◌∙◌, ap, Some, None}
use Rattle.std.specs.Prelude.{position}
use Rattle.py_templates.specs.Expressions.{key_names}
use Rattle.py_templates.specs.Names.{same_names}
use Rattle.py_templates.proofs.KeyNumbers.{number_is}
use Rattle.py_templates.proofs.key_set.KeySet.number.Goals as goal

pub returns-in-Some-clause-number : goal.returns-in-Some-clause-number
returns-in-Some-clause-number c = number_is (key_names c.args.named.now) c.args.self.now (Some c.in-Some.i)
    (c.in-Some.ensures.index ∙ ap (position (same_names (key_names c.args.named.now))) c.self.view_is)

pub returns-in-None-clause-number : goal.returns-in-None-clause-number
returns-in-None-clause-number c = number_is (key_names c.args.named.now) c.args.self.now None
    (c.in-None.ensures.index ∙ ap (position (same_names (key_names c.args.named.now))) c.self.view_is)
