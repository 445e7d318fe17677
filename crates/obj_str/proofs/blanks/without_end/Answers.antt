use Rattle.std.proofs.Common.{sym, ◌∙◌}
use Rattle.obj_str.proofs.BlankLemmas.{end_kept, end_cut}
use Rattle.obj_str.proofs.blanks.without_end.Goals as goal

pub returns-then-not-is_blank : goal.returns-then-not-is_blank
returns-then-not-is_blank c = sym (c.turns.invariant ∙ end_kept c.turns.rest.now c.in-Some.front.now c.in-Some.byte.now
    c.in-Some.ensures.cases.0 (sym c.is_blank.ensures ∙ c.if-not-is_blank.true))

pub turns-preserved : goal.turns-preserved
turns-preserved c = c.turns.invariant ∙ end_cut c.turns.rest.now c.in-Some.front.now c.in-Some.byte.now
    c.in-Some.ensures.cases.0 (sym c.is_blank.ensures ∙ c.if-not-is_blank.false)
