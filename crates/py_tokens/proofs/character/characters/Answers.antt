use Rattle.std.proofs.Common.{◌≡◌, ◌-◌, suc, length, refl, ap, ◌∙◌, length-drop, arith}
use Rattle.py_tokens.proofs.CharacterLemmas.{characters_step, line_end_size_within, line_after_le}
use Rattle.py_tokens.proofs.character.characters.Goals as goal

pub loop-b-preserved : goal.loop-b-preserved
loop-b-preserved c =
    let within = line_end_size_within c.in-Some.b.now c.in-Some.more.now in
    let lines = line_after_le c.line_end-byte.result c.loop-b.line in
    let size = c.line_end_size-size.ensures in
    let long : length c.loop-b.rest.now ≡ suc (length c.in-Some.more.now) = ap length c.in-Some.ensures in
    let left : length c.skip-rest.result.now ≡ length c.loop-b.rest.now - c.line_end_size-size.result =
    ap length c.skip-rest.ensures ∙ length-drop c.line_end_size-size.result c.loop-b.rest.now in
    record {
      same = characters_step _ c.loop-b.found c.push.new.self c.loop-b.from c.loop-b.line _ c.line_end_size-size.result
          c.line_end-byte.result _ c.loop-b.rest.now c.in-Some.more.now _ _ c.in-Some.ensures c.line_end-byte.ensures
          size refl c.in_ok-push.ensures.ok c.skip-rest.ensures c.line_after-line.ensures c.loop-b.invariant.same;
      place = omega (arith, within.0, within.1, size, long, left, c.loop-b.invariant.place);
      lines = omega (arith, within.0, size, lines, c.line_after-line.ensures, c.loop-b.invariant.lines);
    }
