use Rattle.std.proofs.Common.{◌/◌}
use Rattle.page_table.specs.Lists.{table_of}
use Rattle.paged_store.proofs.DeskLemmas.{opened_more, opened_pages}
use Rattle.paged_store.proofs.ready.open_pages.Goals as goal

pub pages-preserved : goal.pages-preserved
pages-preserved c = record {
  opened = opened_more c.args.k c.pages.page (table_of c.args.pages.now) (table_of c.pages.pages)
      (table_of c.open_page.new.self) c.pages.invariant.opened c.in_ok-open_page.ensures.ok;
  own = opened_pages c.args.k (c.args.place / 512) c.pages.page (table_of c.pages.pages)
      (table_of c.open_page.new.self) c.pages.invariant.own c.in_ok-open_page.ensures.ok;
}
