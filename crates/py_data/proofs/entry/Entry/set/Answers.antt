use Rattle.std.proofs.Common.{rules}
use Rattle.py_data.proofs.UndoLemmas.{set_undone}
use Rattle.py_data.proofs.entry.Entry.set.Goals as goal

pub returns : goal.returns
returns c = set_undone _ _ c.args.i c.args.x _ c.requires (search rules) (search rules)
