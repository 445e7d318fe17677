use Rattle.std.specs.Str.{bytes_eq}
use Rattle.py_base.proofs.NameLists.{shown_has}
use Rattle.py_base.proofs.name_set.NameSet.has.Goals as goal

pub returns : goal.returns
returns c = shown_has (λ k. k.now) (bytes_eq c.args.name.now) c.self.inside.set.keys c.args.self.now _
    c.contains.ensures c.self.view_is
