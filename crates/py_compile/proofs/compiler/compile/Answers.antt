use Rattle.std.specs.List.{list_any}
use Rattle.std.proofs.Common.{Err, Ok, ap, ◌∙◌, length, subst, sym}
use Rattle.std.specs.Prelude.{option_map}
use Rattle.py_base.specs.declared.refusal.Refusal.TheVariants.{TooLarge}
use Rattle.py_names.specs.Outline.{outline}
use Rattle.py_templates.specs.Compiles.{Compiles, bound_in}
use Rattle.py_templates.specs.Whole.{bodies, is_long, roots_with}
use Rattle.py_compile.proofs.Compiling.{codes_said, compiles_err, compiles_ok, large_is, long_text, many_bodies, many_roots, not_past, padded_is, past, told_is}
use Rattle.py_compile.proofs.OnceNames.{scopes_once}
use Rattle.py_compile.proofs.compiler.compile.Goals as goal

pub bound-requires : goal.bound-requires
bound-requires c = scopes_once (outline c.args.m.now) c.args.scopes.now c.requires.resolved.resolves.1

pub returns-then-len-gt-MOST : goal.returns-then-len-gt-MOST
returns-then-len-gt-MOST c =
    subst (λ e. Compiles c.args.m.now c.args.scopes.now (Err e)) (sym c.too_large.ensures)
    (ap (option_map TooLarge) (many_bodies c.args.scopes.now c.args.m.now c.in_ok-bodies.bodies
    (c.in_ok-bodies.ensures ∙ ap bodies c.as_slice.ensures)
    (past 65535 c.len.result (length c.in_ok-bodies.bodies) c.if-len-gt-MOST.true c.len.ensures)))

pub returns-then-len-gt-MOST-2 : goal.returns-then-len-gt-MOST-2
returns-then-len-gt-MOST-2 c =
    subst (λ e. Compiles c.args.m.now c.args.scopes.now (Err e)) (sym c.too_large-then-len-gt-MOST-2.ensures)
    (ap (option_map TooLarge) (many_roots c.args.scopes.now c.args.m.now c.in_ok-bodies.bodies
    (c.in_ok-bodies.ensures ∙ ap bodies c.as_slice.ensures) c.in_ok-used.used
    (told_is c.as_slice-2.result.now c.as_slice-3.result.now c.len-2.result c.in_ok-used.used
    (bound_in c.args.scopes.now) c.args.m.now.body (length c.in_ok-bodies.bodies)
    (c.as_slice-2.ensures.value ∙ c.in_ok-locals.ensures) c.as_slice-3.ensures c.len-2.ensures
    c.in_ok-used.ensures.texts c.in_ok-used.ensures.cells c.in_ok-used.ensures.keys)
    (not_past 65535 c.len.result (length c.in_ok-bodies.bodies) c.if-len-gt-MOST.false c.len.ensures)
    (past 65535 c.len-3.result (length (roots_with c.in_ok-used.used.texts c.in_ok-used.used.cells))
    c.if-len-gt-MOST-2.true (c.len-3.ensures ∙
    ap length (c.in_ok-roots.ensures ∙ ap (λ u. roots_with u.texts u.cells) c.used.view_is)))))

pub returns-then-has_long : goal.returns-then-has_long
returns-then-has_long c =
    subst (λ e. Compiles c.args.m.now c.args.scopes.now (Err e)) (sym c.too_large-then-has_long.ensures)
    (ap (option_map TooLarge) (long_text c.args.scopes.now c.args.m.now c.in_ok-bodies.bodies
    (c.in_ok-bodies.ensures ∙ ap bodies c.as_slice.ensures) c.in_ok-used.used
    (told_is c.as_slice-2.result.now c.as_slice-3.result.now c.len-2.result c.in_ok-used.used
    (bound_in c.args.scopes.now) c.args.m.now.body (length c.in_ok-bodies.bodies)
    (c.as_slice-2.ensures.value ∙ c.in_ok-locals.ensures) c.as_slice-3.ensures c.len-2.ensures
    c.in_ok-used.ensures.texts c.in_ok-used.ensures.cells c.in_ok-used.ensures.keys)
    (not_past 65535 c.len.result (length c.in_ok-bodies.bodies) c.if-len-gt-MOST.false c.len.ensures)
    (not_past 65535 c.len-3.result (length (roots_with c.in_ok-used.used.texts c.in_ok-used.used.cells))
    c.if-len-gt-MOST-2.false (c.len-3.ensures ∙
    ap length (c.in_ok-roots.ensures ∙ ap (λ u. roots_with u.texts u.cells) c.used.view_is)))
    (sym (ap (λ u. list_any is_long u.texts) c.used.view_is) ∙ sym c.has_long.ensures ∙ c.if-has_long.true)))

pub returns : goal.returns
returns c =
    compiles_err c.args.scopes.now c.args.m.now c.in_ok-bodies.bodies
    (c.in_ok-bodies.ensures ∙ ap bodies c.as_slice.ensures) c.in_ok-used.used
    (told_is c.as_slice-2.result.now c.as_slice-3.result.now c.len-2.result c.in_ok-used.used
    (bound_in c.args.scopes.now) c.args.m.now.body (length c.in_ok-bodies.bodies)
    (c.as_slice-2.ensures.value ∙ c.in_ok-locals.ensures) c.as_slice-3.ensures c.len-2.ensures
    c.in_ok-used.ensures.texts c.in_ok-used.ensures.cells c.in_ok-used.ensures.keys) c.pad.new.sets.items
    (padded_is c.len-4.result (length c.in_ok-bodies.bodies) c.in_ok-locals.locals.items
    (bound_in c.args.scopes.now) c.pad.new.sets.items c.len-4.ensures c.in_ok-locals.ensures c.in_ok-pad.ensures)
    c.in-Err.e (large_is c.args.scopes.now c.args.m.now c.in_ok-bodies.bodies
    (c.in_ok-bodies.ensures ∙ ap bodies c.as_slice.ensures) c.in_ok-used.used
    (told_is c.as_slice-2.result.now c.as_slice-3.result.now c.len-2.result c.in_ok-used.used
    (bound_in c.args.scopes.now) c.args.m.now.body (length c.in_ok-bodies.bodies)
    (c.as_slice-2.ensures.value ∙ c.in_ok-locals.ensures) c.as_slice-3.ensures c.len-2.ensures
    c.in_ok-used.ensures.texts c.in_ok-used.ensures.cells c.in_ok-used.ensures.keys) c.pad.new.sets.items
    (padded_is c.len-4.result (length c.in_ok-bodies.bodies) c.in_ok-locals.locals.items
    (bound_in c.args.scopes.now) c.pad.new.sets.items c.len-4.ensures c.in_ok-locals.ensures c.in_ok-pad.ensures)
    (not_past 65535 c.len.result (length c.in_ok-bodies.bodies) c.if-len-gt-MOST.false c.len.ensures)
    (not_past 65535 c.len-3.result (length (roots_with c.in_ok-used.used.texts c.in_ok-used.used.cells))
    c.if-len-gt-MOST-2.false (c.len-3.ensures ∙
    ap length (c.in_ok-roots.ensures ∙ ap (λ u. roots_with u.texts u.cells) c.used.view_is)))
    (sym (ap (λ u. list_any is_long u.texts) c.used.view_is) ∙ sym c.has_long.ensures ∙ c.if-has_long.false))
    (codes_said c.in_ok-used.used c.as_slice-5.result.now c.pad.new.sets.items c.as_slice-4.result.now
    c.in_ok-bodies.bodies (Err c.in-Err.e) c.as_slice-5.ensures.value c.as_slice-4.ensures c.in-Err.ensures)

pub returns-in-Ok : goal.returns-in-Ok
returns-in-Ok c =
    compiles_ok c.args.scopes.now c.args.m.now c.in_ok-bodies.bodies
    (c.in_ok-bodies.ensures ∙ ap bodies c.as_slice.ensures) c.in_ok-used.used
    (told_is c.as_slice-2.result.now c.as_slice-3.result.now c.len-2.result c.in_ok-used.used
    (bound_in c.args.scopes.now) c.args.m.now.body (length c.in_ok-bodies.bodies)
    (c.as_slice-2.ensures.value ∙ c.in_ok-locals.ensures) c.as_slice-3.ensures c.len-2.ensures
    c.in_ok-used.ensures.texts c.in_ok-used.ensures.cells c.in_ok-used.ensures.keys) c.pad.new.sets.items
    (padded_is c.len-4.result (length c.in_ok-bodies.bodies) c.in_ok-locals.locals.items
    (bound_in c.args.scopes.now) c.pad.new.sets.items c.len-4.ensures c.in_ok-locals.ensures c.in_ok-pad.ensures)
    c.in-Ok.codes c.in_ok-roots.roots
    (large_is c.args.scopes.now c.args.m.now c.in_ok-bodies.bodies
    (c.in_ok-bodies.ensures ∙ ap bodies c.as_slice.ensures) c.in_ok-used.used
    (told_is c.as_slice-2.result.now c.as_slice-3.result.now c.len-2.result c.in_ok-used.used
    (bound_in c.args.scopes.now) c.args.m.now.body (length c.in_ok-bodies.bodies)
    (c.as_slice-2.ensures.value ∙ c.in_ok-locals.ensures) c.as_slice-3.ensures c.len-2.ensures
    c.in_ok-used.ensures.texts c.in_ok-used.ensures.cells c.in_ok-used.ensures.keys) c.pad.new.sets.items
    (padded_is c.len-4.result (length c.in_ok-bodies.bodies) c.in_ok-locals.locals.items
    (bound_in c.args.scopes.now) c.pad.new.sets.items c.len-4.ensures c.in_ok-locals.ensures c.in_ok-pad.ensures)
    (not_past 65535 c.len.result (length c.in_ok-bodies.bodies) c.if-len-gt-MOST.false c.len.ensures)
    (not_past 65535 c.len-3.result (length (roots_with c.in_ok-used.used.texts c.in_ok-used.used.cells))
    c.if-len-gt-MOST-2.false (c.len-3.ensures ∙
    ap length (c.in_ok-roots.ensures ∙ ap (λ u. roots_with u.texts u.cells) c.used.view_is)))
    (sym (ap (λ u. list_any is_long u.texts) c.used.view_is) ∙ sym c.has_long.ensures ∙ c.if-has_long.false))
    (codes_said c.in_ok-used.used c.as_slice-5.result.now c.pad.new.sets.items c.as_slice-4.result.now
    c.in_ok-bodies.bodies (Ok c.in-Ok.codes) c.as_slice-5.ensures.value c.as_slice-4.ensures c.in-Ok.ensures)
    (c.in_ok-roots.ensures ∙ ap (λ u. roots_with u.texts u.cells) c.used.view_is)
