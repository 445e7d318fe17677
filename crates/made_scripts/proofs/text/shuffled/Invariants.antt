use Rattle.std.proofs.Common.{◌≤◌, vec_len}
use Rattle.made_scripts.specs.declared.text.TheConstants.{TEXT_LIMIT}
use Rattle.made_scripts.proofs.text.shuffled.Given as goal

abbrev pub invariant-loop-piece : goal.invariant-loop-piece
invariant-loop-piece l = vec_len l.text ≤ TEXT_LIMIT
