use Rattle.std.proofs.lemmas.Slice.Eq.{slice_eq-Decides}
use Rattle.lock_run.proofs.ScriptSteps.{same_lists, addresses_decide}
use Rattle.lock_run.proofs.script.are_same.Goals as goal

pub returns : goal.returns
returns c = same_lists _ _ _ _ _ c.as_slice.ensures c.as_slice-2.ensures
    (slice_eq-Decides addresses_decide _ _ _ c.eq.ensures)
