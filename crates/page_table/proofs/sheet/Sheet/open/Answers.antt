use Rattle.std.proofs.Common.{sym, ◌∙◌, ap}
use Rattle.page_table.specs.Pages.{put}
use Rattle.page_table.specs.Lists.{word_at, sheet_in, word_over, has_page}
use Rattle.page_table.proofs.SheetLemmas.{sheet_in_set, lacks_page, words_opened, own_opened}
use Rattle.page_table.proofs.sheet.Sheet.open.Goals as goal

pub returns-clause-words : goal.returns-clause-words
returns-clause-words c =
    ap (λ s. word_over s (word_at c.args.shared.now))
    (sheet_in_set c.reach.new.pages.items c.args.page _ c.in_ok-reach.ensures.ok
    ∙ ap (put c.args.page _) (c.in_ok-reach.ensures.same ∙ ap sheet_in c.self.view_is))
    ∙ words_opened (sheet_in c.args.self.now) c.args.page _ (word_at c.args.shared.now)
    (lacks_page (sheet_in c.args.self.now) c.args.page
    (sym c.has.ensures ∙ c.if-has.false)) c.in_ok-copy.ensures.words

pub returns-clause-own : goal.returns-clause-own
returns-clause-own c =
    ap has_page (sheet_in_set c.reach.new.pages.items c.args.page _ c.in_ok-reach.ensures.ok
    ∙ ap (put c.args.page _) (c.in_ok-reach.ensures.same ∙ ap sheet_in c.self.view_is))
    ∙ own_opened (sheet_in c.args.self.now) c.args.page _
