use Rattle.std.proofs.Common.{◌≡◌, ◌≤◌}
use Rattle.obj_seq.specs.Gather.{numbers}
use Rattle.obj_seq.proofs.gathering.numbers.Given as goal

abbrev pub invariant-turns : goal.invariant-turns
invariant-turns l = record {
  numbers : l.numbers ≡ numbers l.span.start l.span.step l.k;
  within : l.k ≤ l.n;
}
