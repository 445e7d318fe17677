use Rattle.std.proofs.Common.{ℕ, sym, ◌∙◌, ap, is_some, option_copied}
use Rattle.page_table.specs.Lists.{sheet_in, has_page}
use Rattle.page_table.proofs.SheetLemmas.{run_of_page}
use Rattle.page_table.proofs.sheet.Sheet.own_run.Goals as goal

pub returns-in-Some-clause-words : goal.returns-in-Some-clause-words
returns-in-Some-clause-words c = λ (below : ℕ → ℕ).
    run_of_page (sheet_in c.args.self.now) c.args.place c.args.n below c.in-Some.page.now
    c.words.result.now c.requires.page (sym c.page.ensures ∙ ap option_copied c.in-Some.is) c.words.ensures.words
    c.words.ensures.length

pub returns-in-Some-clause-own : goal.returns-in-Some-clause-own
unfolding has_page
returns-in-Some-clause-own c = ap is_some (sym c.page.ensures ∙ ap option_copied c.in-Some.is)

pub returns-in-None-clause-none : goal.returns-in-None-clause-none
unfolding has_page
returns-in-None-clause-none c = ap is_some (sym c.page.ensures ∙ ap option_copied c.in-None.is)
