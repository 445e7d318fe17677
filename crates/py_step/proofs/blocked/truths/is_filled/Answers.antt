use Rattle.std.proofs.Common.{sym, ◌∙◌}
use Rattle.py_step.proofs.BuiltinWaits.{three_in_range}
use Rattle.py_step.proofs.blocked.truths.is_filled.Goals as goal

pub range_has_item-requires-clause-three : goal.range_has_item-requires-clause-three
range_has_item-requires-clause-three g c = three_in_range (g.P.Peek.image c.args.heap.now) c.requires.closed c.args.a.0
    c.requires.there (sym c.peek_kind.ensures ∙ c.in-Range.is)
