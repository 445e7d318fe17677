use Rattle.std.proofs.Common.{◌≡◌, ◌<◌, ◌≤◌, ◌+◌, ◌*◌, ◌^◌, [], length, inr, sym, ◌∙◌, ap, subst, arith}
use Rattle.std.proofs.lemmas.Nat.{one_shl, pow_pos}
use Rattle.page_table.specs.Pages.{Shelf}
use Rattle.page_table.specs.Reserving.{TakesNew}
use Rattle.page_table.specs.Lists.{Lists, word_at, shelf_at, table_of}
use Rattle.page_table.proofs.Keeping.{total_fits, new_keeps}
use Rattle.page_table.proofs.ListsLemmas.{read_shelf, with_extents, took_new, sound_taken}
use Rattle.page_table.proofs.pages.Pages.extend.Goals as goal

pub grow-requires : goal.grow-requires
grow-requires c =
    let within : c.args.class < length c.self.inside.shelves.items =
    omega (arith, c.self.invariant.shelves, c.requires.class.1) in
    let read : c.index_mut.result.now ≡ shelf_at c.self.inside.shelves.items c.args.class =
    read_shelf c.self.inside.shelves.items c.args.class c.index_mut.result.now within c.index_mut.ensures.value in
    let fits = total_fits c.args.class _ c.self.invariant.table c.requires.class.0 c.requires.class.1 in
    subst (λ (z : Shelf). z.total < 2 ^ 33) (sym read) (omega (arith, fits))

abbrev before : goal.After-lengthen → Lists
before c = record {
  shared = c.self.inside.shared.items;
  sheets = c.self.inside.sheets.items;
  shelves =
      c.self.inside.shelves.items;
  pages = c.self.inside.pages;
}

-- the extent has the next words
taken : (c : goal.After-lengthen)
    → TakesNew c.args.class (length c.self.inside.shared.items) (table_of (before c))
    (table_of (with_extents c.args.class c.grow.new.self c.lengthen.new.shared.items (before c)))
taken c =
    let within : c.args.class < length c.self.inside.shelves.items =
    omega (arith, c.self.invariant.shelves, c.requires.class.1) in
    let read : c.index_mut.result.now ≡ shelf_at c.self.inside.shelves.items c.args.class =
    read_shelf c.self.inside.shelves.items c.args.class c.index_mut.result.now within c.index_mut.ensures.value in
    let none : (shelf_at c.self.inside.shelves.items c.args.class).spare ≡ [] =
    rw (← c.self.view_is) at c.requires.none in
    let grown : length c.lengthen.new.shared.items ≡ length c.self.inside.shared.items + 2 ^ c.args.class =
    omega (
      arith,
      c.lengthen.ensures.length,
      ap (λ z. length z) c.in_ok-reserve.ensures.items,
      one_shl c.args.class 64 (omega (arith, c.requires.class.1)),
      pow_pos c.args.class,
    ) in
    let fits : length c.self.inside.shared.items + 2 ^ c.args.class ≤ 512 * c.self.inside.pages =
    omega (
      arith,
      c.if-reserved-size.false,
      c.len-reserved.ensures,
      c.self.inside.shared.ok.0,
      one_shl c.args.class 64 (omega (arith, c.requires.class.1)),
      pow_pos c.args.class,
    ) in
    took_new c.args.class c.grow.new.self c.lengthen.new.shared.items (before c) within
    (c.in_ok-grow.ensures
    ∙ ap {B = Shelf} (λ (z : Shelf). record { spare = z.spare; total = z.total + 1 }) read) none
    (c.lengthen.ensures.words ∙ ap word_at c.in_ok-reserve.ensures.items) grown fits

pub invariant_of-self-2 : goal.invariant_of-self-2
invariant_of-self-2 c =
    sound_taken c.args.class c.grow.new.self c.lengthen.new.shared.items (before c) c.self.invariant
    (new_keeps c.args.class (length c.self.inside.shared.items)
    (table_of (before c)) _ c.self.invariant.table c.requires.class.0 c.requires.class.1 (taken c)).0

pub returns-clause-extent : goal.returns-clause-extent
returns-clause-extent c =
    rw (← c.self.view_is)
    (inr (subst (λ p. TakesNew c.args.class p (table_of (before c))
    (table_of (with_extents c.args.class c.grow.new.self c.lengthen.new.shared.items (before c))))
    (sym (c.len-reserved.ensures ∙ c.self.inside.shared.ok.0)) (taken c)))
