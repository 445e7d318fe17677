use Rattle.std.proofs.Common.{◌∙◌, ap, length, arith}
use Rattle.page_table.proofs.Spans.{set_in}
use Rattle.page_table.proofs.page.Page.set.Goals as goal

pub returns : goal.returns
returns c = set_in c.deref_mut.result.now c.args.self.now c.args.i c.args.w
    (c.deref_mut.ensures.value ∙ c.self.view_is)
    (omega (arith, c.requires, c.self.invariant, ap (λ x. length x) c.deref_mut.ensures.value))
