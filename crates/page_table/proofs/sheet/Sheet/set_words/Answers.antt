use Rattle.std.proofs.Common.{◌/◌, length, ◌∙◌, ap, arith}
use Rattle.page_table.specs.Lists.{word_at, sheet_in, word_over}
use Rattle.page_table.proofs.SheetLemmas.{own_within, own_there, own_written, words_copied}
use Rattle.page_table.proofs.sheet.Sheet.set_words.Goals as goal

pub index_mut-requires : goal.index_mut-requires
index_mut-requires c =
    let q = c.args.place / 512 in
    let lt = own_within c.args.self.now c.self.inside.pages.items q c.self.view_is c.requires.has in
    omega (arith, c.self.inside.pages.ok, lt)

pub unreachable-requires : goal.unreachable-requires
unreachable-requires c = own_there c.args.self.now c.self.inside.pages.items (c.args.place / 512) c.self.view_is
    c.requires.has c.index_mut.result.now c.index_mut.ensures.value c.in-None.is

pub returns-clause-words : goal.returns-clause-words
returns-clause-words c = λ below.
    let k = own_written c.args.self.now c.self.inside.pages.items (c.args.place / 512) c.self.view_is c.requires.has
    c.index_mut.result.now c.in-Some.page c.set_words.new.self c.index_mut.ensures.value c.in-Some.is in
    ap (λ s. word_over s below) k.sheet ∙ words_copied (sheet_in c.args.self.now) c.args.place
    (length c.args.words.now) c.in-Some.page c.set_words.new.self (word_at c.args.words.now) below c.requires.page
    k.was c.set_words.ensures

pub returns-clause-own : goal.returns-clause-own
returns-clause-own c =
    (own_written c.args.self.now c.self.inside.pages.items (c.args.place / 512) c.self.view_is c.requires.has
    c.index_mut.result.now c.in-Some.page c.set_words.new.self c.index_mut.ensures.value c.in-Some.is).own
