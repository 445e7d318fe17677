use Rattle.std.specs.Prelude.{◌*◌}
use Rattle.std.proofs.Common.{ap}
use Rattle.page_table.specs.Pages.{Table}
use Rattle.paged_store.proofs.NewCall.{only_flags, new_stands, new_empty}
use Rattle.paged_store.proofs.store.PagedStore.new.Goals as goal

pub invariant_of-result : goal.invariant_of-result
invariant_of-result c = record {
  sound = (new_stands c.args.segments c.args.pages _ _ _ _ c.requires.segments.0
      c.requires.segments.1 c.requires.pages.0 c.in_ok-table.ensures
      (only_flags (256 * c.args.pages) _ _ _ c.in_ok-resize.ensures.items c.new-present.ensures.items
      c.new-present.ensures.len)
      c.in_ok-marks.ensures.marks c.in_ok-marks.ensures.holders c.in_ok-marks.ensures.sizes
      c.in_ok-drafts.ensures.length c.in_ok-drafts.ensures.empty).sound;
}

pub returns-clause-meaning : goal.returns-clause-meaning
returns-clause-meaning c = (new_stands c.args.segments c.args.pages _ _ _ _ c.requires.segments.0
    c.requires.segments.1 c.requires.pages.0 c.in_ok-table.ensures
    (only_flags (256 * c.args.pages) _ _ _ c.in_ok-resize.ensures.items c.new-present.ensures.items
    c.new-present.ensures.len)
    c.in_ok-marks.ensures.marks c.in_ok-marks.ensures.holders c.in_ok-marks.ensures.sizes
    c.in_ok-drafts.ensures.length c.in_ok-drafts.ensures.empty).means

pub returns-clause-empty : goal.returns-clause-empty
returns-clause-empty c = new_empty c.args.segments (512 * c.args.pages) _ _
    (new_stands c.args.segments c.args.pages _ _ _ _ c.requires.segments.0
    c.requires.segments.1 c.requires.pages.0 c.in_ok-table.ensures
    (only_flags (256 * c.args.pages) _ _ _ c.in_ok-resize.ensures.items c.new-present.ensures.items
    c.new-present.ensures.len)
    c.in_ok-marks.ensures.marks c.in_ok-marks.ensures.holders c.in_ok-marks.ensures.sizes
    c.in_ok-drafts.ensures.length c.in_ok-drafts.ensures.empty).means
    (λ n. ap (λ (t : Table). (t.shelf n).total) c.in_ok-table.ensures)
