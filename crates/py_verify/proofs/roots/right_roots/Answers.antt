use Rattle.py_code.specs.Right.{cells_of}
use Rattle.py_verify.proofs.Listed.{names_none, names_some, roots_apart, roots_main, roots_right}
use Rattle.py_verify.proofs.roots.right_roots.Goals as goal

pub returns-in_default-2 : goal.returns-in_default-2
returns-in_default-2 c = roots_apart c.args.roots.now c.in-Some.field-0-0.now c.in-Some.rest.now c.in-Some.ensures
    (names_none c.in_ok-names.field-0 (cells_of c.in-Some.rest.now) c.in_default-2.is c.in_ok-names.ensures)

pub returns-then-not-ends_in_main : goal.returns-then-not-ends_in_main
returns-then-not-ends_in_main c = roots_main c.ends_in_main.result c.args.roots.now c.in-Some.field-0-0.now
    c.in-Some.rest.now c.in-Some-2.names c.in-Some.ensures
    (names_some c.in_ok-names.field-0 (cells_of c.in-Some.rest.now) c.in-Some-2.names c.in-Some-2.is
    c.in_ok-names.ensures).0 c.ends_in_main.ensures c.if-not-ends_in_main.true

pub returns : goal.returns
returns c =
    let told = names_some c.in_ok-names.field-0 (cells_of c.in-Some.rest.now) c.in-Some-2.names c.in-Some-2.is
    c.in_ok-names.ensures in
    roots_right c.ends_in_main.result c.args.roots.now c.in-Some.field-0-0.now c.in-Some.rest.now c.in-Some-2.names
    c.in-Some.ensures (c.is_formed.ensures.0 c.if-not-is_formed.false) told.0 told.1 c.ends_in_main.ensures
    c.if-not-ends_in_main.false
