use Rattle.std.proofs.Common.{◌≡◌, ◌≤◌}
use Rattle.obj_seq.specs.Gather.{numbers}
use Rattle.obj_builtins.proofs.ranges.numbers.Given as goal

abbrev pub invariant-turns : goal.invariant-turns
invariant-turns l = record {
  numbers : l.numbers ≡ numbers l.b.start l.b.step l.k;
  within : l.k ≤ l.n;
}
