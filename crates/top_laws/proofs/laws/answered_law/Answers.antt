use Rattle.py_frames.specs.Laws.{prog_of}
use Rattle.front_end.specs.TextCode.{HasCode, IsRefused}
use Rattle.top_laws.proofs.Wording as words
use Rattle.top_laws.proofs.Refusing as script
use Rattle.top_laws.proofs.laws.answered_law.Goals as goal

pub returns-clause-idle : goal.returns-clause-idle
returns-clause-idle c = words.idle_law HasCode IsRefused prog_of

pub returns-clause-ran : goal.returns-clause-ran
returns-clause-ran c = words.ran_law HasCode IsRefused prog_of

pub returns-clause-no_options : goal.returns-clause-no_options
returns-clause-no_options c = words.no_options_law HasCode IsRefused prog_of

pub returns-clause-options : goal.returns-clause-options
returns-clause-options c = words.options_law HasCode IsRefused prog_of

pub returns-clause-refused : goal.returns-clause-refused
returns-clause-refused c = script.refused_law HasCode IsRefused prog_of c.text_law.ensures.none
    c.text_law.ensures.refusal

pub returns-clause-too_long : goal.returns-clause-too_long
returns-clause-too_long c = script.too_long_law HasCode IsRefused prog_of

pub returns-clause-program : goal.returns-clause-program
returns-clause-program c = script.program_law HasCode IsRefused prog_of c.text_law.ensures.none
