use Rattle.std.proofs.Common.{List, reverse, sym, ap, ◌∙◌}
use Rattle.py_frames.specs.declared.state.Frame.{Frame}
use Rattle.py_states.specs.inner.Framed.{Framed}
use Rattle.py_states.proofs.SameLemmas.{alike_frames, frames_alike, piles, differ}
use Rattle.py_states.proofs.frames.Frames.same.Goals as goal

abbrev frames_in : Framed → List Frame
frames_in z = z.frames

pub returns-then-not-same_lists : goal.returns-then-not-same_lists
returns-then-not-same_lists c =
    let here = ap frames_in c.self.view_is in
    let there = ap frames_in c.other.view_is in
    differ c.same_lists.result c.same_lists.ensures c.if-not-same_lists.true
    (λ p.
    let a = frames_alike c.self.inside.heads.entries c.other.inside.heads.entries c.self.inside.values.entries
    c.other.inside.values.entries c.self.inside.blocks.entries c.other.inside.blocks.entries c.self.invariant
    c.other.invariant (here ∙ p ∙ sym there) in
    piles c.as_slice.result.now c.as_slice-2.result.now c.self.inside.heads.entries c.other.inside.heads.entries
    c.as_slice.ensures c.as_slice-2.ensures a.heads)

pub returns-then-not-same_lists-2 : goal.returns-then-not-same_lists-2
returns-then-not-same_lists-2 c =
    let here = ap frames_in c.self.view_is in
    let there = ap frames_in c.other.view_is in
    differ c.same_lists-2.result c.same_lists-2.ensures c.if-not-same_lists-2.true
    (λ p.
    let a = frames_alike c.self.inside.heads.entries c.other.inside.heads.entries c.self.inside.values.entries
    c.other.inside.values.entries c.self.inside.blocks.entries c.other.inside.blocks.entries c.self.invariant
    c.other.invariant (here ∙ p ∙ sym there) in
    c.as_slice-3.ensures ∙ a.values ∙ sym c.as_slice-4.ensures)

pub returns : goal.returns
returns c =
    let here = ap frames_in c.self.view_is in
    let there = ap frames_in c.other.view_is in (
      λ t.
          let heads = c.as_slice.ensures ∙ ap reverse (c.same_lists.ensures.0 c.if-not-same_lists.false) ∙
          sym c.as_slice-2.ensures in
          let values = sym c.as_slice-3.ensures ∙ c.same_lists-2.ensures.0 c.if-not-same_lists-2.false ∙
          c.as_slice-4.ensures in
          let blocks = c.as_slice-5.ensures ∙ ap reverse (c.same_lists-3.ensures.0 t) ∙ sym c.as_slice-6.ensures in
          sym here ∙ alike_frames (record { heads = heads; values = values; blocks = blocks }) ∙ there,
      λ p.
          let a = frames_alike c.self.inside.heads.entries c.other.inside.heads.entries c.self.inside.values.entries
          c.other.inside.values.entries c.self.inside.blocks.entries c.other.inside.blocks.entries c.self.invariant
          c.other.invariant (here ∙ p ∙ sym there) in
          c.same_lists-3.ensures.1 (piles c.as_slice-5.result.now c.as_slice-6.result.now c.self.inside.blocks.entries
          c.other.inside.blocks.entries c.as_slice-5.ensures c.as_slice-6.ensures a.blocks),
    )
