use Rattle.py_parser.proofs.Answered.{parses_ok, parses_err}
use Rattle.py_parser.proofs.parser.parse.Goals as goal

pub returns-in-Ok : goal.returns-in-Ok
returns-in-Ok c =
    let laws = c.grammar_law.ensures in
    parses_ok laws.found laws.only c.args.tokens.now c.in-Ok.module c.in-Ok.field-0-1.now c.requires.ends c.in-Ok.ensures

pub returns-in-Err : goal.returns-in-Err
returns-in-Err c =
    let laws = c.grammar_law.ensures in
    parses_err laws.only laws.refused c.args.tokens.now c.in-Err.error c.requires.ends c.in-Err.ensures
