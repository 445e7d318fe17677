use Rattle.std.proofs.Common.{sym, subst, ap, ◌∙◌, arith, ◌∷◌, [], length, length-append}
use Rattle.py_frames.specs.GlobalRows.{builtin_named}
use Rattle.py_step.specs.inner.Builtins.{AreBuiltins}
use Rattle.py_step.proofs.BuiltinLists.{more_builtins}
use Rattle.py_step.proofs.prepared.builtins_of.Goals as goal

pub roots-preserved : goal.roots-preserved
roots-preserved c = record {
  all = subst (AreBuiltins c.args.p.now) (sym c.in-Ok-push.ensures.items)
      (more_builtins c.args.p.now c.roots.found.items c.roots.n c.in-Ok.o c.roots.invariant.count
      (c.in-Ok.ensures ∙ ap (builtin_named c.args.p.now) c.root_name.ensures) c.roots.invariant.all);
  count = (let longer = ap length c.in-Ok-push.ensures.items ∙ length-append c.roots.found.items (c.in-Ok.o ∷ []) in
      let before = c.roots.invariant.count in omega (arith, longer, before));
}
