use Rattle.heap_bound.proofs.Explaining.{new_law, move_law, outer_law, bound_law}
use Rattle.heap_bound.proofs.laws.full_law.Goals as goal

pub returns-clause-new : goal.returns-clause-new
returns-clause-new g c = new_law

pub returns-clause-moves : goal.returns-clause-moves
returns-clause-moves g c = move_law

pub returns-clause-outer : goal.returns-clause-outer
returns-clause-outer g c = outer_law

pub returns-clause-bound : goal.returns-clause-bound
returns-clause-bound g c = bound_law
