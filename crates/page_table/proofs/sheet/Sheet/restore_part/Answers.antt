use Rattle.std.proofs.Common.{sym, ◌∙◌, ◌/◌}
use Rattle.page_table.specs.Lists.{word_at, sheet_in, word_over}
use Rattle.page_table.proofs.Spans.{copied_part_over, over_there}
use Rattle.page_table.proofs.SheetLemmas.{words_below, lacks_page}
use Rattle.page_table.proofs.sheet.Sheet.restore_part.Goals as goal

pub returns-then-has-clause-words : goal.returns-then-has-clause-words
returns-then-has-clause-words c = c.set_words.ensures.words (word_at c.args.shared.now)
    ∙ copied_part_over c.args.shared.now c.args.place c.args.n
    (word_over (sheet_in c.args.self.now) (word_at c.args.shared.now)) c.requires.within

pub returns-else-has-clause-words : goal.returns-else-has-clause-words
returns-else-has-clause-words c =
    over_there c.args.place c.args.n (word_at c.args.shared.now)
    (word_over (sheet_in c.args.self.now) (word_at c.args.shared.now))
    (λ p a b. sym (words_below (sheet_in c.args.self.now) c.args.place c.args.n
    (word_at c.args.shared.now) c.requires.page
    (lacks_page (sheet_in c.args.self.now) (c.args.place / 512) (sym c.has.ensures ∙ c.if-has.false)) p a b))
