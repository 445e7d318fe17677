use Rattle.std.proofs.Common.{◌≡◌, ◌++◌, string_bytes, take}
use Rattle.top_bench.specs.Told.{steps_text}
use Rattle.top_bench.proofs.calls.push_history.Given as goal

abbrev pub invariant-loop-i : goal.invariant-loop-i
invariant-loop-i l = string_bytes l.text ≡ string_bytes l.initial.text ++ steps_text (take l.i l.history.entries)
