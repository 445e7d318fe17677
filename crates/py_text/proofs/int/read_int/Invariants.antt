use Rattle.std.proofs.Common.{◌≡◌, ◌<◌, ◌^◌, take}
use Rattle.std.specs.Str.Parse.{digits_value}
use Rattle.py_text.proofs.int.read_int.Given as goal

abbrev pub invariant-loop-b : goal.invariant-loop-b
invariant-loop-b l = record { same : l.value ≡ digits_value l.base (take l.b-index l.digits); small : l.value < 2 ^ 63 }
