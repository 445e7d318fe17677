use Rattle.std.proofs.Common.{sym, ◌∙◌, ap, option_copied, Some, None}
use Rattle.page_table.specs.Lists.{word_at, sheet_in}
use Rattle.page_table.proofs.SheetLemmas.{word_of_page}
use Rattle.page_table.proofs.sheet.Sheet.word.Goals as goal

pub returns-in-Some : goal.returns-in-Some
returns-in-Some c = c.get.ensures
    ∙ sym (word_of_page (sheet_in c.args.self.now) (word_at c.args.shared.now) c.args.place (Some c.in-Some.page.now)
    (sym c.page.ensures ∙ ap option_copied c.in-Some.is))

pub returns-in-None : goal.returns-in-None
unfolding word_at
returns-in-None c = sym
    (word_of_page (sheet_in c.args.self.now) (word_at c.args.shared.now) c.args.place None
    (sym c.page.ensures ∙ ap option_copied c.in-None.is))
