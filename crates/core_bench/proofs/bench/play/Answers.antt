use Rattle.std.proofs.Common.{sym, subst, ◌∙◌}
use Rattle.core_bench.specs.ScriptCore.{HasMade}
use Rattle.core_bench.proofs.bench.play.Goals as goal

pub returns-then-same_replies-clause-made : goal.returns-then-same_replies-clause-made
returns-then-same_replies-clause-made c =
    let same = sym c.as_slice.ensures.value ∙ c.same_replies.ensures.0 c.if-same_replies.true in
    subst (λ replies. HasMade c.args.list.now replies c.args.core.now c.run_events.new.self) same (λ o stands.
    let led = c.in_ok-replies.ensures.made o stands in
    (led.0, led.1, led.2.0))
