use Rattle.std.specs.Str.{bytes_eq}
use Rattle.py_base.proofs.NameLists.{shown_place}
use Rattle.py_base.proofs.name_set.NameSet.find.Goals as goal

pub returns-clause-place : goal.returns-clause-place
returns-clause-place c = shown_place (λ k. k.now) (bytes_eq c.args.name.now) c.self.inside.set.keys c.args.self.now _
    c.get_index_of.ensures.index c.self.view_is
