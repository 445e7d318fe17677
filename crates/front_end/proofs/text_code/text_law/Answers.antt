use Rattle.front_end.proofs.OneAnswer.{one_program, one_refusal, program_or_refusal}
use Rattle.front_end.proofs.SomeAnswer.{some_answer}
use Rattle.front_end.proofs.text_code.text_law.Goals as goal

pub returns-clause-some : goal.returns-clause-some
returns-clause-some c = some_answer c.tree_law.ensures.some c.ends_law.ensures.text

pub returns-clause-program : goal.returns-clause-program
returns-clause-program c = one_program c.round_law.ensures.one c.tree_law.ensures.never_both

pub returns-clause-none : goal.returns-clause-none
returns-clause-none c = program_or_refusal c.round_law.ensures.one c.tree_law.ensures.never_both

pub returns-clause-refusal : goal.returns-clause-refusal
returns-clause-refusal c = λ text.
    let both = c.tree_law.ensures.never_both in
    let ends = c.ends_law.ensures.text text in
    one_refusal c.round_law.ensures.one both text c.tree_law.ensures.one_refusal ends
