use Rattle.std.proofs.Common.{◌≡◌, ◌%◌, take}
use Rattle.std.specs.Str.Parse.{digits_value}
use Rattle.py_text.proofs.literal.low_byte.Given as goal

abbrev pub invariant-loop-b : goal.invariant-loop-b
invariant-loop-b l = l.value ≡ digits_value 8 (take l.b-index l.digits) % 256
