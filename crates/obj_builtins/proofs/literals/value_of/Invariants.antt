use Rattle.std.proofs.Common.{◌≡◌, ◌≤◌, length}
use Rattle.obj_builtins.specs.Literals.{value_after}
use Rattle.obj_builtins.proofs.literals.value_of.Given as goal

abbrev pub invariant-turns : goal.invariant-turns
invariant-turns l = record {
  same : value_after 0 l.digits ≡ value_after l.value l.rest;
  most : l.value ≤ 9_223_372_036_854_775_808;
}

abbrev pub decreases-turns : goal.decreases-turns
decreases-turns l = length l.rest
