use Rattle.obj_seq.proofs.Leaving.{item_index, set_index, del_index, pop_index, pop_empty, insert_full}
use Rattle.obj_seq.proofs.laws.fault_law.Goals as goal

pub returns-clause-item : goal.returns-clause-item
returns-clause-item g c = item_index g.met.V.View.lawful

pub returns-clause-set : goal.returns-clause-set
returns-clause-set g c = set_index g.met.V.View.lawful

pub returns-clause-del : goal.returns-clause-del
returns-clause-del g c = del_index g.met.V.View.lawful

pub returns-clause-pop : goal.returns-clause-pop
returns-clause-pop g c = pop_index g.met.V.View.lawful

pub returns-clause-pop_empty : goal.returns-clause-pop_empty
returns-clause-pop_empty g c = pop_empty g.met.V.View.lawful

pub returns-clause-insert_full : goal.returns-clause-insert_full
returns-clause-insert_full g c = insert_full g.met.V.View.lawful
