use Rattle.std.proofs.Common.{◌≡◌, ◌+◌, ◌≤◌, ◌++◌, length}
use Rattle.py_tokens.specs.Characters.{characters}
use Rattle.py_tokens.proofs.character.characters.Given as goal

abbrev pub invariant-loop-b : goal.invariant-loop-b
invariant-loop-b l = record {
  same : characters l.fn.at 1 l.fn.bytes ≡ l.found ++ characters l.from l.line l.rest;
  place : l.from + length l.rest ≡ l.fn.at + length l.fn.bytes;
  lines : l.line ≤ l.from + 1;
}

abbrev pub decreases-loop-b : goal.decreases-loop-b
decreases-loop-b l = length l.rest
