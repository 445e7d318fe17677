use Rattle.std.proofs.Common.{◌/◌, ◌∙◌, ap, arith}
use Rattle.page_table.specs.Lists.{sheet_in, word_over}
use Rattle.page_table.proofs.SheetLemmas.{own_within, own_there, own_written, words_put_two}
use Rattle.page_table.proofs.sheet.Sheet.set_two.Goals as goal

pub index_mut-requires : goal.index_mut-requires
index_mut-requires c =
    let q = c.args.place / 512 in
    let lt = own_within c.args.self.now c.self.inside.pages.items q c.self.view_is c.requires.has in
    omega (arith, c.self.inside.pages.ok, lt)

pub unreachable-requires : goal.unreachable-requires
unreachable-requires c = own_there c.args.self.now c.self.inside.pages.items (c.args.place / 512) c.self.view_is
    c.requires.has c.index_mut.result.now c.index_mut.ensures.value c.in-None.is

pub returns-clause-words : goal.returns-clause-words
returns-clause-words c = λ below.
    let k = own_written c.args.self.now c.self.inside.pages.items (c.args.place / 512) c.self.view_is c.requires.has
    c.index_mut.result.now c.in-Some.page c.set_two.new.self c.index_mut.ensures.value c.in-Some.is in
    ap (λ s. word_over s below) k.sheet ∙ words_put_two (sheet_in c.args.self.now) c.args.place c.args.first
    c.args.second c.in-Some.page c.set_two.new.self below c.requires.even k.was c.set_two.ensures

pub returns-clause-own : goal.returns-clause-own
returns-clause-own c =
    (own_written c.args.self.now c.self.inside.pages.items (c.args.place / 512) c.self.view_is c.requires.has
    c.index_mut.result.now c.in-Some.page c.set_two.new.self c.index_mut.ensures.value c.in-Some.is).own
