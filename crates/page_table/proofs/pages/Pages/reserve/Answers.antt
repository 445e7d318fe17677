use Rattle.std.proofs.Common.{◌≡◌, ◌<◌, length, inl, sym, ◌∙◌, ap, arith}
use Rattle.page_table.specs.Pages.{Shelf}
use Rattle.page_table.specs.Lists.{Lists, shelf_at, table_of}
use Rattle.page_table.proofs.Keeping.{again_keeps}
use Rattle.page_table.proofs.ListsLemmas.{lists, read_shelf, took_again}
use Rattle.page_table.proofs.pages.Pages.reserve.Goals as goal

pub returns-else-is_empty-clause-extent : goal.returns-else-is_empty-clause-extent
returns-else-is_empty-clause-extent c =
    let s : Lists = lists c.self.inside.shared.items c.self.inside.sheets.items c.self.inside.shelves.items
    c.self.inside.pages in
    let within : c.args.class < length c.self.inside.shelves.items =
    omega (arith, c.self.invariant.shelves, c.requires.class.1) in
    let read : c.index_mut.result.now ≡ shelf_at c.self.inside.shelves.items c.args.class =
    read_shelf c.self.inside.shelves.items c.args.class c.index_mut.result.now within c.index_mut.ensures.value in
    rw (← c.self.view_is)
    (inl (took_again c.args.class c.take.result c.take.new.self s within
    (c.take.ensures.total ∙ ap (λ (z : Shelf). z.total) read)
    (sym (ap (λ (z : Shelf). z.spare) read) ∙ c.take.ensures.spare)))

pub returns-else-is_empty-clause-lies : goal.returns-else-is_empty-clause-lies
returns-else-is_empty-clause-lies c =
    let s : Lists = lists c.self.inside.shared.items c.self.inside.sheets.items c.self.inside.shelves.items
    c.self.inside.pages in
    let within : c.args.class < length c.self.inside.shelves.items =
    omega (arith, c.self.invariant.shelves, c.requires.class.1) in
    let read : c.index_mut.result.now ≡ shelf_at c.self.inside.shelves.items c.args.class =
    read_shelf c.self.inside.shelves.items c.args.class c.index_mut.result.now within c.index_mut.ensures.value in
    (again_keeps c.args.class c.take.result
    (table_of s) _ c.self.invariant.table c.requires.class.0 c.requires.class.1
    (took_again c.args.class c.take.result c.take.new.self s within
    (c.take.ensures.total ∙ ap (λ (z : Shelf). z.total) read)
    (sym (ap (λ (z : Shelf). z.spare) read) ∙ c.take.ensures.spare))).1
