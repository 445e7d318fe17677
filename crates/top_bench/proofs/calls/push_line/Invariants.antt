use Rattle.std.proofs.Common.{◌≡◌, ◌++◌, string_bytes, take}
use Rattle.top_bench.specs.Told.{line_of_bytes}
use Rattle.top_bench.proofs.calls.push_line.Given as goal

abbrev pub invariant-loop-byte : goal.invariant-loop-byte
invariant-loop-byte l = string_bytes l.text ≡ string_bytes l.initial.text ++ line_of_bytes (take l.byte-index l.bytes)
