use Rattle.std.proofs.Common.{sym, ◌∙◌}
use Rattle.stm_top.proofs.TopSteps.{nothing_put, no_bytes, text_put}
use Rattle.stm_top.proofs.top.put_text.Goals as goal

pub returns-then-not-is_empty : goal.returns-then-not-is_empty
returns-then-not-is_empty g c = text_put c.args.text.now (g.E.Sink.state c.args.err.now)
    (g.E.Sink.state c.put.new.self) c.put.result (sym c.is_empty.ensures ∙ c.if-not-is_empty.true)
    c.put.ensures.written c.put.ensures.cause

pub returns-else-not-is_empty : goal.returns-else-not-is_empty
returns-else-not-is_empty g c = nothing_put c.args.text.now (g.E.Sink.state c.args.err.now)
    (no_bytes c.args.text.now (sym c.is_empty.ensures ∙ c.if-not-is_empty.false))
