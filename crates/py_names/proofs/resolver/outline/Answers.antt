use Rattle.std.proofs.Common.{◌∙◌}
use Rattle.py_names.specs.Outline.{outline}
use Rattle.py_names.proofs.Added.{three, from_nothing}
use Rattle.py_names.proofs.resolver.outline.Goals as goal

pub returns : goal.returns
unfolding outline
returns c = c.into_events.ensures ∙ rw (← c.as_slice.ensures)
    (from_nothing _ _ c.new-out.ensures (three _ _ _ _ c.in_ok-push.ensures c.in_ok-block.ensures
    c.in_ok-push-2.ensures))
