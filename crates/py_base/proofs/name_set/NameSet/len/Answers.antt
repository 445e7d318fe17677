use Rattle.py_base.proofs.NameLists.{shown_len}
use Rattle.py_base.proofs.name_set.NameSet.len.Goals as goal

pub returns : goal.returns
returns c = shown_len (λ k. k.now) c.self.inside.set.keys c.args.self.now _ c.len.ensures.len c.self.view_is
