use Rattle.std.proofs.Common.{◌+◌, arith}
use Rattle.std.proofs.lemmas.Grind.{common_steps}
use Rattle.py_grammar.specs.inner.Reading.{reads}
use Rattle.py_exprs.proofs.Unfold.{level_up}
use Rattle.py_exprs.proofs.level.+at_level.Goals as goal

pub returns-in_err-first-in-Chained-clause-value :
    goal.returns-in_err-first-in-Chained-clause-value
returns-in_err-first-in-Chained-clause-value g t c =
    let e = level_up (reads c.args.reader.now.turns c.args.reader.now.budget) c.args.reader.now.turns
    (c.args.reader.now.budget + 1) c.args.level c.args.tokens.now (omega arith) in
    grind (arith, common_steps)

pub returns-in_err-test-in-Listed-clause-value : goal.returns-in_err-test-in-Listed-clause-value
returns-in_err-test-in-Listed-clause-value g t c =
    let e = level_up (reads c.args.reader.now.turns c.args.reader.now.budget) c.args.reader.now.turns
    (c.args.reader.now.budget + 1) c.args.level c.args.tokens.now (omega arith) in
    grind (arith, common_steps)

pub returns-in_ok-first-in-Chained-clause-value : goal.returns-in_ok-first-in-Chained-clause-value
returns-in_ok-first-in-Chained-clause-value g t c =
    let e = level_up (reads c.args.reader.now.turns c.args.reader.now.budget) c.args.reader.now.turns
    (c.args.reader.now.budget + 1) c.args.level c.args.tokens.now (omega arith) in
    grind (arith, common_steps)

pub returns-in_ok-test-in-Listed-clause-value : goal.returns-in_ok-test-in-Listed-clause-value
returns-in_ok-test-in-Listed-clause-value g t c =
    let e = level_up (reads c.args.reader.now.turns c.args.reader.now.budget) c.args.reader.now.turns
    (c.args.reader.now.budget + 1) c.args.level c.args.tokens.now (omega arith) in
    grind (arith, common_steps)
