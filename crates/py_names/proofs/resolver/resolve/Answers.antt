use Rattle.std.proofs.Common.{sym, ◌∙◌}
use Rattle.py_names.specs.Outline.{outline}
use Rattle.py_names.proofs.Tables.{found_of, found_fault, found_scopes}
use Rattle.py_names.proofs.resolver.resolve.Goals as goal

pub returns-in-Some : goal.returns-in-Some
returns-in-Some c =
    let found = found_of (c.as_slice.ensures ∙ c.in_ok-events.ensures) (c.as_slice-3.ensures ∙ c.in_ok-events.ensures)
    c.in_ok-tables.ensures c.as_slice-2.ensures.value in
    sym (found_fault (outline c.args.m.now) _ _ _ _ found c.in_ok-refusal.ensures) ∙ c.in-Some.is

pub returns : goal.returns
returns c =
    let found = found_of (c.as_slice.ensures ∙ c.in_ok-events.ensures) (c.as_slice-3.ensures ∙ c.in_ok-events.ensures)
    c.in_ok-tables.ensures c.as_slice-2.ensures.value in
    let last = found_of (c.as_slice.ensures ∙ c.in_ok-events.ensures) (c.as_slice-3.ensures ∙ c.in_ok-events.ensures)
    c.in_ok-tables.ensures c.as_slice-in-None.ensures.value in (
      sym (found_fault (outline c.args.m.now) _ _ _ _ found c.in_ok-refusal.ensures) ∙ c.in-None.is,
      found_scopes (outline c.args.m.now) _ _ _ _ last c.in_ok-found-in-None.ensures,
    )
