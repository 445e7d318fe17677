use Rattle.lock_run.specs.inner.ScriptLaws.{script_sound_first}
use Rattle.worker_tests.proofs.watch_rows.core.Goals as goal

pub new-requires-2-clause-first : goal.new-requires-2-clause-first
new-requires-2-clause-first c = script_sound_first

pub new-requires-2-clause-store : goal.new-requires-2-clause-store
new-requires-2-clause-store c = c.in_ok-store.ensures.empty
