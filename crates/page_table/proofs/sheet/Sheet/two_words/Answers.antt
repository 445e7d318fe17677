use Rattle.std.proofs.Common.{sym, ◌∙◌, ap, option_copied, Some, None, arith}
use Rattle.page_table.specs.Lists.{word_at, sheet_in}
use Rattle.page_table.proofs.SheetLemmas.{word_of_page, word_further}
use Rattle.page_table.proofs.sheet.Sheet.two_words.Goals as goal

pub returns-in-Some-clause-first : goal.returns-in-Some-clause-first
returns-in-Some-clause-first c = c.get.ensures
    ∙ sym (word_of_page (sheet_in c.args.self.now) (word_at c.args.shared.now) c.args.place (Some c.in-Some.page.now)
    (sym c.page.ensures ∙ ap option_copied c.in-Some.is))

pub returns-in-Some-clause-second : goal.returns-in-Some-clause-second
returns-in-Some-clause-second c = c.get-in-Some.ensures
    ∙ sym (word_further (sheet_in c.args.self.now) (word_at c.args.shared.now) c.args.place 1 (Some c.in-Some.page.now)
    (omega (arith, c.requires.even))
    (sym c.page.ensures ∙ ap option_copied c.in-Some.is))

pub returns-in-None-clause-first : goal.returns-in-None-clause-first
unfolding word_at
returns-in-None-clause-first c = sym
    (word_of_page (sheet_in c.args.self.now) (word_at c.args.shared.now) c.args.place None
    (sym c.page.ensures ∙ ap option_copied c.in-None.is))

pub returns-in-None-clause-second : goal.returns-in-None-clause-second
unfolding word_at
returns-in-None-clause-second c = sym
    (word_further (sheet_in c.args.self.now) (word_at c.args.shared.now) c.args.place 1 None
    (omega (arith, c.requires.even))
    (sym c.page.ensures ∙ ap option_copied c.in-None.is))
