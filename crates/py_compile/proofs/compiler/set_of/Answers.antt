use Rattle.std.proofs.Common.{ap, ◌∙◌}
use Rattle.py_base.specs.NameLists.{with_name}
use Rattle.py_compile.proofs.OnceNames.{one_more}
use Rattle.py_compile.proofs.compiler.set_of.Goals as goal

pub names-preserved : goal.names-preserved
names-preserved c = one_more c.args.names.now c.names.set c.note.new.self c.in-Some.x.now c.names.rest.now
    c.in-Some.more.now c.requires c.names.invariant c.in-Some.ensures
    (c.in_ok-note.ensures.names ∙ ap (with_name c.names.set) c.as_slice.ensures)
