use Rattle.std.proofs.Common.{sym, ◌∙◌, ◌-◌, ap, option_copied, length}
use Rattle.page_table.specs.Pages.{over}
use Rattle.page_table.specs.Lists.{word_at, sheet_in, word_over}
use Rattle.page_table.proofs.Spans.{lent_back, over_there}
use Rattle.page_table.proofs.SheetLemmas.{shared_part, words_below}
use Rattle.page_table.proofs.sheet.Sheet.share_part.Goals as goal

pub returns-in-Some-clause-words : goal.returns-in-Some-clause-words
returns-in-Some-clause-words c =
    let same = c.deref_mut.ensures.value in
    ap word_at (lent_back c.args.shared.now.len c.args.shared.now.items c.copy_to.new.to c.args.shared.now.ok.0
    (c.copy_to.ensures.length ∙ ap (λ z. length z) same)) ∙ c.copy_to.ensures.words
    ∙ ap (λ z. over c.args.place (length c.words.result.now) (λ p. word_at c.words.result.now (p - c.args.place))
    (word_at z)) same ∙ shared_part (sheet_in c.args.self.now) c.args.place c.args.n
    (word_at c.args.shared.now.items)
    (word_at c.args.shared.now.items) c.in-Some.page.now c.words.result.now c.requires.page
    (sym c.page.ensures ∙ ap option_copied c.in-Some.is) c.words.ensures.words c.words.ensures.length

pub returns-in_default-clause-words : goal.returns-in_default-clause-words
returns-in_default-clause-words c =
    over_there c.args.place c.args.n (word_over (sheet_in c.args.self.now) (word_at c.args.shared.now.items))
    (word_at c.args.shared.now.items)
    (words_below (sheet_in c.args.self.now) c.args.place c.args.n
    (word_at c.args.shared.now.items) c.requires.page (sym c.page.ensures ∙ ap option_copied c.in_default.is))
