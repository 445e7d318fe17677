use Rattle.std.specs.Str.{bytes_eq}
use Rattle.py_base.proofs.NameLists.{shown_names}
use Rattle.py_base.proofs.name_set.NameSet.note.Goals as goal

pub returns-clause-names : goal.returns-clause-names
returns-clause-names c = shown_names (λ k. k.now) (bytes_eq c.args.name.now) c.self.inside.set.keys _ c.args.name
    c.args.self.now c.in_ok-insert_full.ensures.keys c.self.view_is
