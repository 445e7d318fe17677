use Rattle.std.proofs.Common.{◌<◌, ◌+◌, ◌≤◌, length, refl, sym, subst}
use Rattle.page_table.specs.Lists.{Lists, word_at, table_of}
use Rattle.page_table.specs.inner.Spreading.{HasWords}
use Rattle.page_table.proofs.Keeping.{push_keeps}
use Rattle.page_table.proofs.ListsLemmas.{lists, share_of, has_words_now, pushed_words, sound_again}
use Rattle.page_table.proofs.pages.Pages.push_words.Goals as goal

pub spread-requires-clause-there : goal.spread-requires-clause-there
spread-requires-clause-there c =
    let inside : c.args.k < length c.self.inside.sheets.items = rw (← c.self.view_is) at c.requires.segment in
    subst (λ z. HasWords c.args.k c.args.place c.args.n (word_at z) c.self.inside.sheets.items)
    (sym c.deref.ensures.value)
    (has_words_now c.args.k c.args.place c.args.n (word_at c.self.inside.shared.items)
    (word_at c.share.new.shared.items) c.self.inside.sheets.items
    (share_of c.args.k c.args.place c.args.n _ _ c.self.inside.sheets.items c.index.result.now inside
    c.index.ensures c.share.ensures.words))

pub invariant_of-self : goal.invariant_of-self
invariant_of-self c =
    let inside : c.args.k < length c.self.inside.sheets.items = rw (← c.self.view_is) at c.requires.segment in
    let span : c.args.place + c.args.n ≤ length c.self.inside.shared.items = rw (← c.self.view_is) at c.requires.span in
    let s : Lists = lists c.self.inside.shared.items c.self.inside.sheets.items c.self.inside.shelves.items
    c.self.inside.pages in
    sound_again s (lists c.share.new.shared.items c.spread.new.sheets.items s.shelves s.pages) _ c.self.invariant refl
    (pushed_words c.args.k c.args.place c.args.n s c.share.new.shared.items _ c.index.result.now
    c.spread.new.sheets.items inside c.index.ensures c.share.ensures.words c.share.ensures.length
    c.deref.ensures.value c.spread.ensures)
    (push_keeps c.args.k c.args.place c.args.n (table_of s) c.self.invariant.table span)

pub returns : goal.returns
returns c =
    let inside : c.args.k < length c.self.inside.sheets.items = rw (← c.self.view_is) at c.requires.segment in
    let s : Lists = lists c.self.inside.shared.items c.self.inside.sheets.items c.self.inside.shelves.items
    c.self.inside.pages in
    rw (← c.self.view_is)
    (pushed_words c.args.k c.args.place c.args.n s c.share.new.shared.items _ c.index.result.now
    c.spread.new.sheets.items inside c.index.ensures c.share.ensures.words c.share.ensures.length
    c.deref.ensures.value c.spread.ensures)
