use Rattle.std.proofs.Common.{◌+◌, arith}
use Rattle.std.proofs.lemmas.Grind.{common_steps}
use Rattle.py_grammar.specs.inner.Reading.{reads}
use Rattle.py_grammar.proofs.AimUnfold.{grown_up}
use Rattle.py_exprs.proofs.level.+grown_rungs.Goals as goal

pub returns-clause-value : goal.returns-clause-value
returns-clause-value g t c =
    let e = grown_up (reads c.args.reader.now.turns c.args.reader.now.budget) c.args.reader.now.turns
    (c.args.reader.now.budget + 1) c.args.rungs (c.args.operand, c.args.tokens.now) (omega arith) in
    grind (arith, common_steps)
