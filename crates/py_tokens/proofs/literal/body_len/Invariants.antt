use Rattle.std.proofs.Common.{◌≡◌, ◌+◌, length, false}
use Rattle.py_tokens.specs.Strings.{body_len}
use Rattle.py_tokens.proofs.literal.body_len.Given as goal

abbrev pub invariant-loop-c : goal.invariant-loop-c
invariant-loop-c l = record {
  same : body_len l.fn.q false l.fn.inner ≡ l.len + body_len l.q l.kept l.rest;
  place : l.len + length l.rest ≡ length l.fn.inner;
}

abbrev pub decreases-loop-c : goal.decreases-loop-c
decreases-loop-c l = length l.rest
