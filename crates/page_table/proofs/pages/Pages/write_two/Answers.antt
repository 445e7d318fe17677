use Rattle.std.proofs.Common.{◌<◌, length}
use Rattle.page_table.specs.Lists.{Lists}
use Rattle.page_table.proofs.ListsLemmas.{lists, two_put_in}
use Rattle.page_table.proofs.pages.Pages.write_two.Goals as goal

pub returns : goal.returns
returns c =
    let inside : c.args.k < length c.self.inside.sheets.items = rw (← c.self.view_is) at c.requires.segment in
    let s : Lists = lists c.self.inside.shared.items c.self.inside.sheets.items c.self.inside.shelves.items
    c.self.inside.pages in
    rw (← c.self.view_is)
    (two_put_in c.args.k c.args.place c.args.first c.args.second c.index_mut.result.now c.set_two.new.self s inside
    c.index_mut.ensures.value c.set_two.ensures.words c.set_two.ensures.own)
