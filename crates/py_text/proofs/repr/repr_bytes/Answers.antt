use Rattle.py_text.proofs.Quoted.{reads_back}
use Rattle.py_text.proofs.repr.repr_bytes.Goals as goal

pub returns-clause-back : goal.returns-clause-back
returns-clause-back c = reads_back c.quoted.result c.args.b.now c.type_inv.b c.quoted.ensures
