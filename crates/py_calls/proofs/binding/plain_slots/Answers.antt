use Rattle.std.proofs.Common.{◌-◌, length, sym, ◌∙◌}
use Rattle.py_calls.proofs.Plain.{plain_is}
use Rattle.py_calls.proofs.binding.plain_slots.Goals as goal

pub returns-then-params-m : goal.returns-then-params-m
returns-then-params-m c g few none ds = plain_is c.args.p.now g c.args.n c.args.m c.saturating_sub.result ds
    (sym c.params_at-params.ensures ∙ c.if-params-m.true)
    (c.saturating_sub.ensures ∙ (λ i. length (c.slots_at.ensures i) - c.params_at-params.ensures i)) few none
