use Rattle.front_end.proofs.text_code.program_of.Goals as goal

pub returns-in-Ok-clause-right : goal.returns-in-Ok-clause-right
returns-in-Ok-clause-right c = c.right_law.ensures c.args.tree.now c.args.scopes.now c.in-Ok.program
    (record { tokens = c.requires.is.tokens; is = c.requires.is.is; resolves = (c.requires.allowed, c.requires.are) })
    c.in-Ok.ensures
