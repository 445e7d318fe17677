-- A call that leaves the job leaves what tells a core from others.
use Rattle.std.proofs.Common.{◌≡◌}
use Rattle.seg_store.specs.Meaning.{Meaning}
use Rattle.stm_core.specs.declared.transactions.Core.{Core}
use Rattle.stm_core.specs.CoreHeld.{SameJob}
use Rattle.stm_workers.specs.CoreJob.{core_job}

pub one_job : {C S I O E T : Type 0} (meaning : S → Meaning) (x y : Core C S I O E T) → SameJob meaning x y →
    core_job meaning y ≡ core_job meaning x
one_job meaning x y same = λ i. record {
  client = same.client i;
  length = (same.limits i).length;
  budget = (same.limits i).budget;
  segments = (same.limits i).segments;
  words = (same.limits i).words;
  input = (same.made_with i).value.input;
  out = (same.made_with i).value.out;
  err = (same.made_with i).value.err;
}
