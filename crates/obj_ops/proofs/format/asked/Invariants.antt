use Rattle.std.proofs.Common.{◌≡◌, ◌+◌, ◌≤◌, drop}
use Rattle.obj_ops.specs.Format.{asked}
use Rattle.obj_ops.proofs.format.asked.Given as goal

abbrev pub invariant-turns : goal.invariant-turns
invariant-turns l = record {
  sum : l.all + asked (drop l.i l.ps) ≡ asked l.ps;
  most : l.all ≤ l.i;
}
