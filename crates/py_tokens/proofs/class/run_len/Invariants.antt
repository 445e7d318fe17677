use Rattle.std.proofs.Common.{◌≡◌, ◌+◌, length}
use Rattle.py_tokens.specs.Classes.{run_len}
use Rattle.py_tokens.proofs.class.run_len.Given as goal

abbrev pub invariant-loop-c : goal.invariant-loop-c
invariant-loop-c l = record {
  same : run_len l.fn.class l.fn.chars ≡ l.len + run_len l.class l.rest;
  place : l.len + length l.rest ≡ length l.fn.chars;
}

abbrev pub decreases-loop-c : goal.decreases-loop-c
decreases-loop-c l = length l.rest
