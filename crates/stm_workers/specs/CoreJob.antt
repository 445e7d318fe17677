-- What tells one core from another: the job that stays the same, whoever has visited it. States `docs/HEAP.md`,
-- "Workers".
use Rattle.seg_store.specs.Meaning.{Meaning}
use Rattle.stm_core.specs.declared.transactions.Core.{Core}
use Rattle.stm_core.specs.CoreHeld.{core_client, core_limits}
use Rattle.stm_workers.specs.declared.held.CoreJob.{CoreJob}

-- the client, the limits, and the devices with which it was made
abbrev pub core_job : {C S I O E T : Type 0} → (S → Meaning) → Core C S I O E T → CoreJob C I O E
core_job meaning x = record {
  client = core_client x;
  length = (core_limits meaning x).length;
  budget = (core_limits meaning x).budget;
  segments = (core_limits meaning x).segments;
  words = (core_limits meaning x).words;
  input = x.made_with.value.input;
  out = x.made_with.value.out;
  err = x.made_with.value.err;
}
