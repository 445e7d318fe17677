use Rattle.std.proofs.Common.{arith}
use Rattle.py_verify.proofs.Listed.{all_formed, not_listed, too_many}
use Rattle.py_verify.proofs.roots.is_formed.Goals as goal

pub returns-then-not-are_roots : goal.returns-then-not-are_roots
returns-then-not-are_roots c = not_listed c.are_roots.result c.args.roots.now c.are_roots.ensures
    c.if-not-are_roots.true

pub returns-then-roots-gt65535 : goal.returns-then-roots-gt65535
returns-then-roots-gt65535 c = too_many c.args.roots.now (omega arith)

pub returns : goal.returns
returns c = all_formed c.are_roots.result c.any_long.result c.args.roots.now c.are_roots.ensures
    c.if-not-are_roots.false (omega arith) c.any_long.ensures
