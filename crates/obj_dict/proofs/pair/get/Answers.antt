use Rattle.py_data.specs.Row.{Do, Find}
use Rattle.py_data.proofs.Steps.{safe_first}
use Rattle.obj_dict.specs.Dict.{key_row, if_key, get_row, value_of_pair}
use Rattle.obj_dict.proofs.FindSteps.{keyed_safe}
use Rattle.obj_dict.proofs.pair.get.Goals as goal

pub is_key-requires-clause-safe : goal.is_key-requires-clause-safe
unfolding get_row
is_key-requires-clause-safe g c = safe_first _ (key_row c.args.key)
    (if_key (Do (Find c.args.d.0 c.args.key) (value_of_pair c.args.d.0))) _ c.requires.safe

pub found_value-requires-clause-safe : goal.found_value-requires-clause-safe
unfolding get_row
found_value-requires-clause-safe g c = keyed_safe g.V.View.sense g.met.V.View.lawful c.args.key
    (Do (Find c.args.d.0 c.args.key) (value_of_pair c.args.d.0)) c.args.v.now c.is_key.new.v c.in_ok-is_key.field-0
    c.requires.safe c.in_ok-is_key.ensures c.if-branch.true
