-- Devices in memory: what contracts see of them, and what they tell. States `docs/LANGUAGE.md`, "Devices".
use Rattle.std.specs.Prelude.{◌≡◌, ◌≢◌, ◌⊎◌, ℕ, List, ◌++◌, Option, Some, None, Result, Ok, Err, IsSome, IsSomeAnd, take, drop, find, option_map, bytes_eq, ◌==◌, if◌then◌else◌}
use Rattle.py_data.specs.World.{counted}
use Rattle.stm_io.specs.Outside.{LoaderState, SourceState, SinkState}
use Rattle.stm_io.specs.declared.error.LoadError.{LoadError}
use Rattle.stm_io.specs.declared.error.LoadError.TheVariants.{Failed as LoadFailed, OutOfMemory as LoadMemory}
use Rattle.stm_io.specs.declared.error.TakeError.{TakeError}
use Rattle.stm_io.specs.declared.error.TakeError.TheVariants.{Failed as TakeFailed, OutOfMemory as TakeMemory}
use Rattle.stm_io.specs.declared.error.PutError.{PutError}
use Rattle.stm_io.specs.declared.error.PutError.TheVariants.{Failed as PutFailed, OutOfMemory as PutMemory}
use Rattle.stm_io.specs.declared.fail.Fail.{Fail}

-- The failures that are planned, and how many calls were made.
pub record Plan : Type 0 where
  pub fails : List Fail
  pub calls : ℕ

-- before the first call
abbrev pub planned : List Fail → Plan
planned fails = record { fails = fails; calls = 0 }

-- one call later
abbrev pub called : Plan → Plan
called p = record { fails = p.fails; calls = counted p.calls }

-- after how many bytes the next call fails, if it is to fail: the first failure with its number counts
abbrev pub due : Plan → Option ℕ
due p = option_map (λ f. f.bytes) (find (λ f. f.call == counted p.calls) p.fails)

-- A loader that knows one file: its name and its text, the names that it was asked for, and how often it failed.
pub record MemLoaderValue : Type 0 where
  pub name : List ℕ
  pub text : List ℕ
  pub asked : List (List ℕ)
  pub plan : Plan
  pub faults : ℕ

-- it tells its text for its own name
abbrev pub mem_loader_state : MemLoaderValue → LoaderState
mem_loader_state l = record {
  told = λ name. if bytes_eq name l.name then Some l.text else None;
  asked = l.asked;
  faults = l.faults;
}

-- why a load had this answer: at a failure the name is another one or this call is to fail, else neither
abbrev pub MemLoads : {T : Type 0} → List ℕ → Result T LoadError → MemLoaderValue → MemLoaderValue → Type 0
MemLoads name (Ok v) old new = (name ≡ old.name) × (due old.plan ≡ None) × (new.faults ≡ old.faults)
MemLoads name (Err LoadFailed) old new = ((name ≢ old.name) ⊎ IsSome (due old.plan)) × (new.faults ≡ counted old.faults)
MemLoads name (Err LoadMemory) old new = new.faults ≡ old.faults

-- A source: the bytes that are left, how often it failed, and how often it came to its end.
pub record MemSourceValue : Type 0 where
  pub rest : List ℕ
  pub plan : Plan
  pub faults : ℕ
  pub ends : ℕ

abbrev pub mem_source_state : MemSourceValue → SourceState
mem_source_state s = record { told = Some s.rest; faults = s.faults; ends = s.ends }

-- why no line was taken, and what is left then: a failure takes as many bytes as the plan says
abbrev pub MemTakes : {T : Type 0} → Result T TakeError → MemSourceValue → MemSourceValue → Type 0
MemTakes (Ok l) old new = (due old.plan ≡ None) × (new.faults ≡ old.faults)
MemTakes (Err TakeFailed) old new = IsSomeAnd (due old.plan) (λ n. new.rest ≡ drop n old.rest) × (new.ends ≡ old.ends)
    × (new.faults ≡ counted old.faults)
MemTakes (Err TakeMemory) old new = (new.rest ≡ old.rest) × (new.ends ≡ old.ends) × (new.faults ≡ old.faults)

-- A sink: the bytes that were written, and how often it failed.
pub record MemSinkValue : Type 0 where
  pub written : List ℕ
  pub plan : Plan
  pub faults : ℕ

abbrev pub mem_sink_state : MemSinkValue → SinkState
mem_sink_state s = record { told = Some s.written; faults = s.faults }

-- what was written: all, or at a failure as many bytes as the plan says
abbrev pub MemPuts : {T : Type 0} → List ℕ → Result T PutError → MemSinkValue → MemSinkValue → Type 0
MemPuts bytes (Ok u) old new = (due old.plan ≡ None) × (new.written ≡ old.written ++ bytes) × (new.faults ≡ old.faults)
MemPuts bytes (Err PutFailed) old new = IsSomeAnd (due old.plan) (λ n. new.written ≡ old.written ++ take n bytes) ×
    (new.faults ≡ counted old.faults)
MemPuts bytes (Err PutMemory) old new = (new.written ≡ old.written) × (new.faults ≡ old.faults)

-- A loader that never fails: its text, whatever the name, and the names that it was asked for.
pub record SureLoaderValue : Type 0 where
  pub text : List ℕ
  pub asked : List (List ℕ)

abbrev pub sure_loader_state : SureLoaderValue → LoaderState
sure_loader_state l = record { told = λ name. Some l.text; asked = l.asked; faults = 0 }

-- A source that never fails: the bytes that are left, and how often it came to its end.
pub record SureSourceValue : Type 0 where
  pub rest : List ℕ
  pub ends : ℕ

abbrev pub sure_source_state : SureSourceValue → SourceState
sure_source_state s = record { told = Some s.rest; faults = 0; ends = s.ends }

-- a sink that never fails, by the bytes that were written
abbrev pub sure_sink_state : List ℕ → SinkState
sure_sink_state written = record { told = Some written; faults = 0 }
