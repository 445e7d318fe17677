use Rattle.std.proofs.Common.{ap, ◌∙◌}
use Rattle.py_step.proofs.FastPaths.{kind_method_is, no_kind_method_is}
use Rattle.py_step.proofs.Moving.{give_moved, moves_as, safe_as}
use Rattle.py_step.specs.inner.FastPath.{kind_method}
use Rattle.py_step.proofs.fast.method_or_attr.Goals as goal

pub attr_method-requires-clause-safe : goal.attr_method-requires-clause-safe
attr_method-requires-clause-safe g c =
    safe_as g.V.View.sense _ _ _ (ap (kind_method c.args.p.now c.args.s.now c.args.n c.args.o) c.in-None.is
    ∙ no_kind_method_is c.args.p.now c.args.s.now c.args.n c.args.o) c.requires.safe

pub returns-in-Some : goal.returns-in-Some
returns-in-Some g c =
    moves_as g.V.View.sense _ _ _ _ _ _ _ (ap (kind_method c.args.p.now c.args.s.now c.args.n c.args.o) c.in-Some.is
    ∙ kind_method_is c.args.p.now c.args.s.now c.args.n c.args.o c.in-Some.b)
    (give_moved g.V.View.sense c.args.p.now c.args.s.now 1 _ _ _ _ c.requires.some c.give_two.ensures.ok
    c.give_two.ensures.cause c.give_two.ensures.err)

pub returns-in-None : goal.returns-in-None
returns-in-None g c =
    moves_as g.V.View.sense _ _ _ _ _ _ _ (ap (kind_method c.args.p.now c.args.s.now c.args.n c.args.o) c.in-None.is
    ∙ no_kind_method_is c.args.p.now c.args.s.now c.args.n c.args.o) c.attr_method.ensures
