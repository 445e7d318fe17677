use Rattle.std.proofs.Common.{◌≡◌, length, refl, ◌∙◌, sym, subst, arith}
use Rattle.page_table.specs.Pages.{IsTable, new_table}
use Rattle.page_table.specs.Lists.{Lists, table_of}
use Rattle.page_table.proofs.Keeping.{new_is}
use Rattle.page_table.proofs.ListsLemmas.{new_pages}
use Rattle.page_table.proofs.pages.Pages.new.Goals as goal

abbrev made : goal.In_ok-resize → Lists
made c = record {
  shared = c.resize.new.self.items;
  sheets = c.sheets.sheets.items;
  shelves = c.shelves.shelves.items;
  pages = c.args.pages;
}

new : (c : goal.In_ok-resize)
    → (length (made c).shelves ≡ 22) × (table_of (made c) ≡ new_table c.args.segments c.args.pages)
new c = new_pages c.args.segments c.args.pages c.sheets._i c.shelves._i c.resize.new.self.items c.sheets.sheets.items
    c.shelves.shelves.items
    (c.in_ok-resize.ensures.items
    ∙ rw (c.new-shared.ensures.items, c.new-shared.ensures.len) refl) c.sheets.invariant c.shelves.invariant
    (omega arith) (omega arith)

pub invariant_of-result : goal.invariant_of-result
invariant_of-result c =
    record {
      shelves = (new c).0;
      table =
          subst IsTable (sym (new c).1)
          (new_is c.args.segments c.args.pages c.requires.segments.0 c.requires.segments.1 c.requires.pages.0
          c.requires.pages.1);
    }

pub returns : goal.returns
returns c = (new c).1
