use Rattle.std.proofs.Common.{◌/◌, ◌∙◌, ap}
use Rattle.page_table.specs.Pages.{after_write}
use Rattle.page_table.specs.Lists.{table_of}
use Rattle.page_table.proofs.Keeping.{own_opened}
use Rattle.page_table.proofs.pages.Pages.set_word.Goals as goal

pub write_word-requires-clause-own : goal.write_word-requires-clause-own
write_word-requires-clause-own c =
    own_opened c.args.k (c.args.place / 512) (table_of c.args.self.now)
    (table_of c.open_page.new.self) c.in_ok-open_page.ensures.ok

pub returns-clause-ok : goal.returns-clause-ok
returns-clause-ok c = c.write_word.ensures
    ∙ ap (after_write c.args.k c.args.place c.args.w) c.in_ok-open_page.ensures.ok
