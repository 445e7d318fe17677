use Rattle.std.proofs.Common.{length, sym, ◌∙◌, ap, arith}
use Rattle.std.proofs.lemmas.List.{length-map}
use Rattle.paged_store.proofs.StoreCalls.{segment_in, part_changed}
use Rattle.paged_store.proofs.store.PagedStore.locked_count.Goals as goal

pub index-requires : goal.index-requires
index-requires c = let l = segment_in c.args.self.now c.args.k c.requires in
    omega (arith, l, c.args.self.now.drafts.ok.0)

pub returns : goal.returns
returns c = c.len.ensures ∙ sym (ap length
    (part_changed c.args.self.now c.args.k c.requires c.index.result.now c.index.ensures) ∙
    length-map c.index.result.now.changed (λ a. a.0))
