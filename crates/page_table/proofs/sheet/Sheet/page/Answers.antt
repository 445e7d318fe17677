use Rattle.std.proofs.Common.{◌∙◌, sym, ap, option_copied}
use Rattle.page_table.proofs.SheetLemmas.{found_page, found_none}
use Rattle.page_table.proofs.sheet.Sheet.page.Goals as goal

pub returns-in-Some : goal.returns-in-Some
returns-in-Some c = c.as_ref.ensures.value
    ∙ sym (found_page c.args.self.now c.args.page c.in-Some.o.now
    (sym c.entry.ensures ∙ ap option_copied c.in-Some.is))

pub returns-in-None : goal.returns-in-None
returns-in-None c = sym (found_none c.args.self.now c.args.page (sym c.entry.ensures ∙ ap option_copied c.in-None.is))
