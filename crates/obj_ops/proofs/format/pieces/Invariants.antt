use Rattle.std.proofs.Common.{◌≡◌, ◌++◌, ◌≤◌, drop, false}
use Rattle.obj_ops.specs.Format.{pieces}
use Rattle.obj_ops.proofs.format.pieces.Given as goal

abbrev pub invariant-turns : goal.invariant-turns
invariant-turns l = record {
  all : l.found ++ pieces l.behind l.taken (drop l.i l.template) ≡ pieces false 0 l.template;
  most : l.taken ≤ l.i;
}
