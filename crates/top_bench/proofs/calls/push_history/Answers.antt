use Rattle.std.proofs.Common.{rules, ◌≡◌, ◌++◌, Some, slice_get, take, string_bytes, append_assoc, sym, ap, ◌∙◌}
use Rattle.top_bench.specs.Told.{turn_text, steps_text}
use Rattle.top_bench.proofs.Steps.{one_more}
use Rattle.top_bench.proofs.calls.push_history.Goals as goal

pub loop-i-preserved : goal.loop-i-preserved
loop-i-preserved c =
    let turn = c.unwrap-turn.result.now in
    let turns = c.args.history.now.entries in
    let there : slice_get turns c.loop-i.i ≡ Some turn = search rules in
    let more : string_bytes c.push_steps.new.text ≡ string_bytes c.loop-i.text ++ turn_text turn = search rules in
    more ∙ ap (λ z. z ++ turn_text turn) c.loop-i.invariant ∙
    append_assoc (string_bytes c.args.text.now) (steps_text (take c.loop-i.i turns)) (turn_text turn) ∙
    ap (λ z. string_bytes c.args.text.now ++ z) (sym (one_more turns c.loop-i.i turn there))
