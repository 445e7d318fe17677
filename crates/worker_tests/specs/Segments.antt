-- How many segments a core of a script has, for tests: nothing public rests on it.
use Rattle.std.specs.Prelude.{ℕ}
use Rattle.seg_store.specs.Plain.{plain_meaning}
use Rattle.stm_core.specs.CoreHeld.{core_limits}
use Rattle.core_bench.specs.ScriptCore.{ScriptCore}

abbrev pub segments_of : ScriptCore → ℕ
segments_of x = (core_limits plain_meaning x).segments
