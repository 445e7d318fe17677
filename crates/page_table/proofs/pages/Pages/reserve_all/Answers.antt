use Rattle.std.proofs.Common.{◌≡◌, ◌+◌, ◌≤◌, ◌*◌, ◌∙◌, ap, length, arith}
use Rattle.page_table.specs.Lists.{Lists, word_at, table_of}
use Rattle.page_table.specs.inner.Counted.{words_of}
use Rattle.page_table.proofs.Keeping.{total_fits}
use Rattle.page_table.proofs.ListsLemmas.{lists}
use Rattle.page_table.proofs.CountedLemmas.{sound_same, sound_three, took_three}
use Rattle.page_table.proofs.pages.Pages.reserve_all.Goals as goal

pub count_three-requires-clause-few : goal.count_three-requires-clause-few
count_three-requires-clause-few c = λ d l m.
    let s : Lists = lists c.self.inside.shared.items c.self.inside.sheets.items c.self.inside.shelves.items
    c.self.inside.pages in
    let fits = total_fits d (table_of s) c.self.invariant.table l (omega (arith, m, c.self.invariant.shelves)) in
    omega (arith, fits)

pub invariant_of-self-then-not-count_three : goal.invariant_of-self-then-not-count_three
invariant_of-self-then-not-count_three c =
    sound_same (lists c.self.inside.shared.items c.self.inside.sheets.items c.self.inside.shelves.items
    c.self.inside.pages) c.reserve.new.self.items c.count_three.new.shelves.items c.self.invariant
    c.reserve.ensures.items c.if-not-count_three.ensures.counts c.count_three.ensures.length

-- as many words more as the extents have
longer : (c : goal.After-lengthen) → length c.lengthen.new.shared.items ≡ length c.self.inside.shared.items
    + words_of c.args.first + words_of c.args.second + words_of c.args.third
longer c = omega (
  arith,
  c.lengthen.ensures.length,
  ap (λ z. length z) c.reserve.ensures.items,
  c.words_of.ensures.is,
  c.words_of-2.ensures.is,
  c.words_of-3.ensures.is,
)

-- which is within the limit
within : (c : goal.After-lengthen) → length c.self.inside.shared.items + words_of c.args.first
    + words_of c.args.second + words_of c.args.third ≤ 512 * c.self.inside.pages
within c = omega (
  arith,
  c.if-end-self.false,
  c.len-one.ensures,
  c.self.inside.shared.ok.0,
  c.words_of.ensures.is,
  c.words_of-2.ensures.is,
  c.words_of-3.ensures.is,
)

pub invariant_of-self-2 : goal.invariant_of-self-2
invariant_of-self-2 c =
    sound_three c.args.first c.args.second c.args.third (lists c.self.inside.shared.items c.self.inside.sheets.items c.self.inside.shelves.items
    c.self.inside.pages) c.lengthen.new.shared.items
    c.count_three.new.shelves.items c.self.invariant c.requires.first c.requires.second c.requires.third
    c.if-not-count_three.ensures.counts (c.lengthen.ensures.words ∙ ap word_at c.reserve.ensures.items) (longer c)
    (within c) c.count_three.ensures.length

pub returns-clause-some : goal.returns-clause-some
returns-clause-some c =
    rw (← c.self.view_is)
    (took_three c.args.first c.args.second c.args.third (lists c.self.inside.shared.items c.self.inside.sheets.items c.self.inside.shelves.items
    c.self.inside.pages) c.lengthen.new.shared.items
    c.count_three.new.shelves.items c.self.invariant c.requires.first c.requires.second c.requires.third
    c.if-not-count_three.ensures.counts (c.lengthen.ensures.words ∙ ap word_at c.reserve.ensures.items) (longer c)
    (within c) _ _ _ (c.len-one.ensures ∙ c.self.inside.shared.ok.0)
    (omega (arith, c.words_of.ensures.is)) (omega (arith, c.words_of-2.ensures.is)))
