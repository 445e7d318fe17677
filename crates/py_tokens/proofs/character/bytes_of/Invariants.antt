use Rattle.std.proofs.Common.{◌≡◌, map, take}
use Rattle.py_tokens.specs.Characters.{byte_of}
use Rattle.py_tokens.proofs.character.bytes_of.Given as goal

abbrev pub invariant-loop-c : goal.invariant-loop-c
invariant-loop-c l = l.bytes ≡ map byte_of (take l.c-index l.chars)
