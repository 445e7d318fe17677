use Rattle.std.proofs.Common.{◌<◌, length, slice_get, ◌∙◌, ap, subst, arith}
use Rattle.std.proofs.lemmas.List.{length-map}
use Rattle.py_data.specs.Collection.{places}
use Rattle.seg_store.proofs.Stores.{changed_place}
use Rattle.paged_store.proofs.StoreCalls.{segment_in, part_changed}
use Rattle.paged_store.proofs.store.PagedStore.locked_at.Goals as goal

within : (c : goal.After-index) → c.args.i < length (places c.index.result.now.changed)
within c = subst (λ xs. c.args.i < length xs)
    (part_changed c.args.self.now c.args.k c.requires.segment c.index.result.now c.index.ensures) c.requires.within

pub index-requires : goal.index-requires
index-requires c = let l = segment_in c.args.self.now c.args.k c.requires.segment in
    omega (arith, l, c.args.self.now.drafts.ok.0)

pub at-requires : goal.at-requires
at-requires c = let l = within c in let e = length-map c.index.result.now.changed (λ a. a.0) in omega (arith, l, e)

pub returns : goal.returns
returns c =
    ap (λ xs. slice_get xs c.args.i) (part_changed c.args.self.now c.args.k c.requires.segment c.index.result.now
    c.index.ensures)
    ∙ changed_place c.index.result.now.changed c.args.i c.at.result
    (subst (λ xs. c.args.i < length xs) (part_changed c.args.self.now c.args.k c.requires.segment c.index.result.now
    c.index.ensures) c.requires.within) c.at.ensures
