use Rattle.std.proofs.Common.{length}
use Rattle.obj_str.specs.Methods.{texts_row}
use Rattle.obj_str.proofs.JoinLoop.{Joining}
use Rattle.obj_str.proofs.join.join_texts.Given as goal

abbrev pub invariant-turns : goal.invariant-turns
invariant-turns g l = Joining g.V.View.sense l.sep (texts_row l.sep l.values) l.fn.v l.rest l.text l.first l.v

abbrev pub decreases-turns : goal.decreases-turns
decreases-turns g l = length l.rest
