use Rattle.std.proofs.Common.{arith, ◌+◌, [], List, slice_set, ap, ◌∙◌}
use Rattle.py_data.specs.declared.value.Value.{Value}
use Rattle.py_frames.specs.State.{advanced, stored}
use Rattle.py_states.specs.inner.Framed.{Framed}
use Rattle.py_states.specs.inner.Laid.{laid}
use Rattle.py_states.specs.inner.Changes.{on_top}
use Rattle.py_states.proofs.LaidLemmas.{kept_laid, not_kept_laid}
use Rattle.py_states.proofs.frames.Frames.keep.Goals as goal

pub returns-then-i-head : goal.returns-then-i-head
returns-then-i-head c =
    let bs = c.self.inside.blocks.entries in
    let set : List Value → List Value = λ z. slice_set z (c.in-Some.head.base + c.args.i) c.args.x in
    let values = c.set.ensures ∙ ap set c.truncate.ensures.entries in
    (λ j. laid (c.move_top.ensures.entries j) (values j) bs)
    ∙ (kept_laid c.in-Some.head _ c.args.n c.args.i c.args.pc c.left_above.result c.args.x _ bs c.in-Some.ensures
    c.self.invariant
    (omega (arith, c.left_above.ensures, c.len-values.ensures)) c.if-i-head.true
    ∙ ap (λ (z : Framed). on_top (λ f. stored c.args.i c.args.x (advanced c.args.n [] c.args.pc f)) z.frames)
    c.self.view_is)

pub returns-else-i-head : goal.returns-else-i-head
returns-else-i-head c =
    let bs = c.self.inside.blocks.entries in
    (λ j. laid (c.move_top.ensures.entries j) (c.truncate.ensures.entries j) bs)
    ∙ (not_kept_laid c.in-Some.head _ c.args.n c.args.i c.args.pc c.left_above.result c.args.x _ bs c.in-Some.ensures
    c.self.invariant
    (omega (arith, c.left_above.ensures, c.len-values.ensures)) c.if-i-head.false
    ∙ ap (λ (z : Framed). on_top (λ f. stored c.args.i c.args.x (advanced c.args.n [] c.args.pc f)) z.frames)
    c.self.view_is)
