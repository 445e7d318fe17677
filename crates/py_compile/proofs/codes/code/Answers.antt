use Rattle.std.proofs.Common.{◌-◌, ap, rules}
use Rattle.py_compile.specs.inner.Bodies.{known_by}
use Rattle.py_uses.specs.inner.Gathered.{body_of}
use Rattle.py_compile.proofs.Compiled.{code_is}
use Rattle.py_compile.proofs.codes.code.Goals as goal

pub returns-clause-done : goal.returns-clause-done
returns-clause-done c =
    code_is c.args.number (body_of c.args.number c.args.body.now) c.new-names.result
    (known_by c.args.locals.now c.args.used.now c.args.number c.args.body.now.is_class)
    c.in_ok-named.named (c.slots.result - c.in_ok-named.named) c.new-e.result c.emit.new.e c.in_ok-instrs.instrs
    c.in_ok-instrs.lines c.in_ok-slots.slots c.in_ok-keys.keys c.lists-lists.result.now c.in_ok-name.name
    (search rules) c.new-e.ensures c.in_ok-named.ensures.count c.in_ok-emit.ensures.done c.in_ok-instrs.ensures.done
    c.in_ok-instrs.ensures.lines c.in_ok-slots.ensures
    (ap (λ z. z - c.in_ok-named.named) c.slots.ensures) c.in_ok-keys.ensures (search rules) c.in_ok-name.ensures
