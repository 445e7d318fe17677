use Rattle.py_verify.proofs.Setups.{none_iff}
use Rattle.py_verify.proofs.setup.has_no_setup.Goals as goal

pub returns : goal.returns
returns c = none_iff c.no_setup.result c.args.instrs.now c.no_setup.ensures
