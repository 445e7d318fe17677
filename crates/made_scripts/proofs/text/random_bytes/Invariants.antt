use Rattle.std.proofs.Common.{◌≤◌, vec_len}
use Rattle.made_scripts.specs.declared.text.TheConstants.{TEXT_LIMIT}
use Rattle.made_scripts.proofs.text.random_bytes.Given as goal

abbrev pub invariant-loop : goal.invariant-loop
invariant-loop l = vec_len l.text ≤ TEXT_LIMIT
