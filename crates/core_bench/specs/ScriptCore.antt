-- A good core of a script over the store of maps, and events made on one, for tests: nothing public rests on it.
use Rattle.std.specs.Prelude.{List}
use Rattle.lock_run.specs.declared.script.Script.{Script}
use Rattle.lock_run.specs.declared.script.ScriptState.{ScriptState}
use Rattle.lock_run.specs.Script.{cells_in, lists_in, script_prog, ScriptSound}
use Rattle.stm_io.specs.Memory.{MemSourceValue, MemSinkValue, mem_source_state, mem_sink_state}
use Rattle.seg_store.specs.declared.plain.PlainStore.{PlainStore}
use Rattle.seg_store.specs.Plain.{plain_meaning}
use Rattle.stm_core.specs.declared.transactions.Core.{Core}
use Rattle.stm_core.specs.declared.events.Event.{Event}
use Rattle.stm_core.specs.declared.events.Reply.{Reply}
use Rattle.stm_core.specs.CoreHeld.{IsGoodCore, Leads, core_client, core_limits}
use Rattle.stm_core.specs.Events.{EventsMade}

abbrev pub ScriptCore : Type 0
ScriptCore = Core Script PlainStore MemSourceValue MemSinkValue MemSinkValue ScriptState

abbrev pub IsGoodScriptCore : ScriptCore → Type 0
IsGoodScriptCore x = IsGoodCore mem_source_state mem_sink_state mem_sink_state
    (λ c. script_prog (cells_in c) (lists_in c)) (λ c. ScriptSound) (λ s. 0) plain_meaning x

-- From x on these events were made, one after another, each with its reply, and y is the core after them: each state
-- for which x stands leads so to one for which y stands.
abbrev pub HasMade : List Event → List Reply → ScriptCore → ScriptCore → Type 0
HasMade events replies x y = Leads mem_source_state mem_sink_state mem_sink_state
    (λ c. script_prog (cells_in c) (lists_in c)) plain_meaning x y
    (λ o o1. EventsMade (script_prog (cells_in (core_client x)) (lists_in (core_client x)))
    (core_limits plain_meaning x) events replies o o1)
