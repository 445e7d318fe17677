-- What is known of a call from outside, before it and by its report: the script that the words name, the machine to
-- which the history leads, and that no device failed. States `docs/LANGUAGE.md`, "The top call".
use Rattle.std.specs.Prelude.{◌≡◌, ℕ, ◌+◌, ◌*◌, ◌≤◌, List, [], length, Some}
use Rattle.py_data.specs.World.{counted}
use Rattle.stm_io.specs.Outside.{Rose}
use Rattle.lock_run.specs.declared.turn.Turn.{Turn}
use Rattle.lock_run.specs.Prog.{Prog}
use Rattle.lock_run.specs.RunState.{first_world}
use Rattle.lock_run.specs.Machine.{Machine, Runs, begin_with}
use Rattle.stm_core.specs.Events.{Limits}
use Rattle.heap_bound.specs.Growth.{words_of, names_in, BoundsGrowth}
use Rattle.stm_words.specs.declared.call.Script.{Script}
use Rattle.stm_words.specs.declared.call.Script.TheVariants.{Source, File, Demo}
use Rattle.stm_words.specs.Demo.{demo_of}
use Rattle.stm_top.specs.TopCall.{Devices}

-- the whole script, where it is told: all that the source has, the file of that name, or the workload's text
abbrev pub IsScriptOf : Script → List ℕ → Devices → Type 0
IsScriptOf Source text a = a.input.told ≡ Some text
IsScriptOf (File name) text a = a.loader.told name ≡ Some text
IsScriptOf (Demo n) text a = text ≡ demo_of n

-- the input behind the script, where it is told: nothing, or all that the source has
abbrev pub IsInputOf : Script → List ℕ → Devices → Type 0
IsInputOf Source input a = input ≡ []
IsInputOf _ input a = a.input.told ≡ Some input

-- how often the source had come to its end once the script was taken: a script of the source ends there
abbrev pub ends_behind : Script → Devices → ℕ
ends_behind Source a = counted a.input.ends
ends_behind _ a = a.input.ends

-- no longer than a script may be, as each workload is
abbrev pub IsShort : Script → List ℕ → Type 0
IsShort (Demo n) text = Unit {0}
IsShort _ text = length text ≤ 4194304

-- longer than a script may be
abbrev pub IsLong : Script → List ℕ → Type 0
IsLong (Demo n) text = ⊥
IsLong _ text = 4194305 ≤ length text

-- The script has this program, and the history, as turns of its threads over the input behind the script, leads to this
-- machine.
pub record Leads {P S : Type 0} (is_code : List ℕ → P → Type 0) (rows : P → Prog S) (script : Script) (a : Devices)
    (history : List Turn) (program : P) (machine : Machine S) : Type 0 where
  pub text : List ℕ
  pub whole : IsScriptOf script text a
  pub is : is_code text program
  pub rest : List ℕ
  pub input : IsInputOf script rest a
  pub run : Runs (rows program) (begin_with (rows program) (first_world (Some rest) (ends_behind script a)))
      history machine

-- the machine with which its threads begin, over that input
abbrev pub start_of : {P S : Type 0} {is_code : List ℕ → P → Type 0} {rows : P → Prog S} {script : Script} {a : Devices}
    {history : List Turn} {program : P} {machine : Machine S} → Leads is_code rows script a history program machine →
    Machine S
start_of {rows = rows} {script = script} {a = a} {program = program} l = begin_with (rows program)
    (first_world (Some l.rest) (ends_behind script a))

-- The heap has room for all that the history asked for, whatever the order in which workers came to it: a number bounds
-- each growth of the history, and the words are at least the first two, those of the history, and 21 times that number
-- for each segment and once more.
pub record HasRoom {S : Type 0} (p : Prog S) (l : Limits) (first : Machine S) (history : List Turn)
    (m : Machine S) : Type 0 where
  pub bound : ℕ
  pub bounds : BoundsGrowth p first l.length history bound
  pub room : 2 + words_of m.heap (names_in history) + (21 * l.segments + 1) * bound ≤ l.words

-- no device failed: no count of failures rose, or stands at its last number
pub record NoneRose (a b : Devices) : Type 0 where
  pub loader : Rose a.loader.faults b.loader.faults → ⊥
  pub input : Rose a.input.faults b.input.faults → ⊥
  pub out : Rose a.out.faults b.out.faults → ⊥
  pub err : Rose a.err.faults b.err.faults → ⊥
