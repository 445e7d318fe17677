use Rattle.std.proofs.Common.{sym, ◌∙◌, ap, option_copied}
use Rattle.page_table.specs.Lists.{word_at, sheet_in}
use Rattle.page_table.proofs.SheetLemmas.{run_of_page, run_below}
use Rattle.page_table.proofs.sheet.Sheet.run.Goals as goal

pub returns-in-Some : goal.returns-in-Some
returns-in-Some c =
    run_of_page (sheet_in c.args.self.now) c.args.place c.args.n (word_at c.args.shared.now) c.in-Some.page.now
    c.words.result.now c.requires.page (sym c.page.ensures ∙ ap option_copied c.in-Some.is) c.words.ensures.words
    c.words.ensures.length

pub returns-in-None : goal.returns-in-None
returns-in-None c =
    run_below (sheet_in c.args.self.now) c.args.place c.args.n c.args.shared.now c.requires.page c.requires.within
    (sym c.page.ensures ∙ ap option_copied c.in-None.is)
