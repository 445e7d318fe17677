use Rattle.std.proofs.Common.{◌≡◌, map, take}
use Rattle.top_bench.specs.Told.{meant_byte}
use Rattle.top_bench.proofs.calls.lines_of.Given as goal

abbrev pub invariant-loop-byte : goal.invariant-loop-byte
invariant-loop-byte l = l.bytes.items ≡ map meant_byte (take l.byte-index l.text)
