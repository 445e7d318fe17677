use Rattle.core_bench.specs.ScriptCore.{IsGoodScriptCore}
use Rattle.core_tests.proofs.core_rows.look_often.Given as goal

abbrev pub invariant-times : goal.invariant-times
invariant-times l = IsGoodScriptCore l.core
