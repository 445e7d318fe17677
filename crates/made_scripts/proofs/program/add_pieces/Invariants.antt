use Rattle.std.proofs.Common.{◌≤◌, vec_len}
use Rattle.made_scripts.specs.declared.program.TheConstants.{PROGRAM_LIMIT}
use Rattle.made_scripts.proofs.program.add_pieces.Given as goal

abbrev pub invariant-loop : goal.invariant-loop
invariant-loop l = vec_len l.text ≤ PROGRAM_LIMIT
