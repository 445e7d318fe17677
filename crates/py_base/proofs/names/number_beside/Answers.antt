use Rattle.std.proofs.Common.{sym, ◌∙◌}
use Rattle.py_base.proofs.Numbering.{is_found, goes_on}
use Rattle.py_base.proofs.names.number_beside.Goals as goal

pub returns-then-eq : goal.returns-then-eq
returns-then-eq c = is_found c.args.table.now c.args.name.now c.loop-entry.entry-index _ c.loop-entry-test.true
    c.loop-entry.invariant (sym c.eq.ensures ∙ c.if-eq.true)

pub loop-entry-preserved : goal.loop-entry-preserved
loop-entry-preserved c = goes_on c.args.table.now c.args.name.now c.loop-entry.entry-index _ c.loop-entry-test.true
    c.loop-entry.invariant (sym c.eq.ensures ∙ c.if-eq.false)
