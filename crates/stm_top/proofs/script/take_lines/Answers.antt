use Rattle.std.proofs.Common.{◌≡◌, ap, subst, sym, arith, length, length-append, ◌∙◌, ◌++◌}
use Rattle.stm_top.specs.Script.{TakenSoFar}
use Rattle.stm_top.proofs.Taking.{room_more, one_line_more, at_the_end, no_room, ends_so}
use Rattle.stm_top.proofs.script.take_lines.Goals as goal

pub returns-then-is_empty-clause-whole : goal.returns-then-is_empty-clause-whole
returns-then-is_empty-clause-whole g c =
    at_the_end c.lines.script.items c.in_ok-line.line.items (g.I.Source.state c.args.input.now)
    (g.I.Source.state c.lines.input) (g.I.Source.state c.take_line.new.self) _ c.lines.invariant.1
    (search (arith)) (search (arith)) (search (arith)) c.in_ok-line.ensures.line c.in_ok-line.ensures.rest
    c.in_ok-line.ensures.ends c.take_line.ensures.later

pub lines-preserved : goal.lines-preserved
lines-preserved g c =
    let e : c.extend_from_slice.new.self.items ≡ c.lines.script.items ++ c.in_ok-line.line.items =
    c.in_ok-extend_from_slice.ensures.items ∙ ap (λ z. c.lines.script.items ++ z) c.as_slice.ensures.value in (
      room_more (length c.lines.script.items) (length c.in_ok-line.line.items) _ (search (arith))
          (search (arith, c.in_ok-line.ensures.short))
          (ap length e ∙ length-append c.lines.script.items c.in_ok-line.line.items),
      subst (λ z. TakenSoFar z (g.I.Source.state c.args.input.now) (g.I.Source.state c.take_line.new.self)) (sym e)
          (one_line_more c.lines.script.items c.in_ok-line.line.items (g.I.Source.state c.args.input.now)
          (g.I.Source.state c.lines.input) (g.I.Source.state c.take_line.new.self) _ c.lines.invariant.1
          c.in_ok-line.ensures.line c.in_ok-line.ensures.rest c.in_ok-line.ensures.ends c.take_line.ensures.later
          (λ q. search (arith, q))),
    )

pub returns-in_err-extend_from_slice-clause-stopped : goal.returns-in_err-extend_from_slice-clause-stopped
returns-in_err-extend_from_slice-clause-stopped g c = ends_so _ _ _ _
    (no_room c.lines.script.items c.in_ok-line.line.items (g.I.Source.state c.args.input.now)
    (g.I.Source.state c.lines.input) (g.I.Source.state c.take_line.new.self) _ c.lines.invariant.1 (search (arith))
    (search (arith, c.in_ok-line.ensures.short)) c.in_ok-line.ensures.line c.in_ok-line.ensures.rest
    c.in_ok-line.ensures.ends c.take_line.ensures.later (λ q. search (arith, q)))
    c.from_residual-in_err-extend_from_slice.ensures.1
