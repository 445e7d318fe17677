use Rattle.std.proofs.Common.{◌≡◌, ◌+◌, ◌-◌, ◌<◌, ℕ, [], ◌∷◌, ◌++◌, length, None, refl, sym, ap, subst, ◌∙◌}
use Rattle.py_data.specs.declared.value.Value.TheVariants.{Unset}
use Rattle.py_frames.specs.declared.state.Frame.{Frame}
use Rattle.py_frames.specs.Binding.{entered, unset_slots}
use Rattle.py_frames.specs.State.{advanced, operands}
use Rattle.py_states.specs.Innermost.{innermost}
use Rattle.py_states.specs.declared.head.Head.{Head}
use Rattle.py_states.specs.inner.Changes.{on_top}
use Rattle.py_states.specs.inner.Framed.{Framed}
use Rattle.py_states.specs.inner.Laid.{laid}
use Rattle.py_states.proofs.LaidLemmas.{entered_laid}
use Rattle.py_states.proofs.frames.Frames.enter.Goals as goal

pub returns-in-Some : goal.returns-in-Some
returns-in-Some c =
    let b : ℕ = c.len.result - c.args.m - 1 in
    let us = c.fill.new.self.entries in
    let bs = c.self.inside.blocks.entries in
    let head : ℕ → Head = λ n. record {
      code = c.args.code;
      pc = 0;
      made = Unset;
      names = None;
      base = b;
      slots = n - b;
      blocks = 0;
    } in
    let there = subst (λ (z : Framed). let f = innermost z.frames in c.args.m < length f.stack) (sym c.self.view_is)
    c.requires.there in
    let heads = c.push.ensures.entries ∙ (λ j. head (c.len-in-Some.ensures j) ∷ c.move_top.ensures.entries j) in
    ap (λ hs. laid hs us bs) heads
    ∙ (entered_laid c.in-Some.field-0 _ c.args.m c.args.k b c.args.place c.args.code _ c.remove.new.self.entries us bs
    c.in-Some.ensures c.self.invariant there (ap (λ z. z - c.args.m - 1) c.len.ensures) c.remove.ensures.entries c.fill.ensures
    ∙ ap (λ (z : Framed). entered c.args.code (operands c.args.m (innermost z.frames) ++ unset_slots c.args.k)
    ∷ on_top (advanced (c.args.m + 1) [] c.args.place) z.frames) c.self.view_is)
