use Rattle.dict_index.proofs.Right.{right_law}
use Rattle.dict_index.proofs.Frame.{frame_law}
use Rattle.dict_index.proofs.laws.index_law.Goals as goal

pub returns-clause-right : goal.returns-clause-right
returns-clause-right c = right_law

pub returns-clause-frame : goal.returns-clause-frame
returns-clause-frame c = frame_law
