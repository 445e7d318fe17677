-- What devices tell of themselves, and what each call does to it. States `docs/LANGUAGE.md`, "Devices".
use Rattle.std.specs.Prelude.{◌≡◌, ◌⊎◌, ℕ, ◌≤◌, List, [], ◌∷◌, ◌++◌, Option, Result, Ok, Err, take}
use Rattle.py_data.specs.World.{counted, grown, shrunk}
use Rattle.stm_io.specs.declared.error.LoadError.{LoadError}
use Rattle.stm_io.specs.declared.error.LoadError.TheVariants.{Failed as LoadFailed, OutOfMemory as LoadMemory}
use Rattle.stm_io.specs.declared.error.TakeError.{TakeError}
use Rattle.stm_io.specs.declared.error.TakeError.TheVariants.{Failed as TakeFailed, OutOfMemory as TakeMemory}
use Rattle.stm_io.specs.declared.error.PutError.{PutError}
use Rattle.stm_io.specs.declared.error.PutError.TheVariants.{Failed as PutFailed, OutOfMemory as PutMemory}

-- A loader: what it tells of the file of each name, the names that it was asked for, and how often it failed.
pub record LoaderState : Type 0 where
  pub told : List ℕ → Option (List ℕ)
  pub asked : List (List ℕ)
  pub faults : ℕ

-- A source: the bytes that are left, where it tells them, how often it failed, and how often it came to its end.
pub record SourceState : Type 0 where
  pub told : Option (List ℕ)
  pub faults : ℕ
  pub ends : ℕ

-- A sink: the bytes that were written, where it tells them, and how often it failed.
pub record SinkState : Type 0 where
  pub told : Option (List ℕ)
  pub faults : ℕ

-- a count that rose, or stands at its last number
abbrev pub Rose : ℕ → ℕ → Type 0
Rose before now = counted before ≤ now

-- a load without an answer: a failure is counted, and the name is among those asked for; at want of memory it may be
-- missing
abbrev pub LoadStops : List ℕ → LoadError → LoaderState → LoaderState → Type 0
LoadStops name LoadFailed old new = (new.asked ≡ old.asked ++ name ∷ []) × Rose old.faults new.faults
LoadStops name LoadMemory old new = (new.asked ≡ old.asked) ⊎ (new.asked ≡ old.asked ++ name ∷ [])

-- a line that wasn't taken: a failure is counted, and some bytes may be gone; at want of memory none are
abbrev pub TakeStops : TakeError → SourceState → SourceState → Type 0
TakeStops TakeFailed old new = ((k : ℕ) × (new.told ≡ shrunk old.told k)) × (new.ends ≡ old.ends) × Rose old.faults
    new.faults
TakeStops TakeMemory old new = (new.told ≡ old.told) × (new.ends ≡ old.ends)

-- bytes were put: all of them at Ok, a front of them at a failure, none at want of memory
abbrev pub Puts : Option (List ℕ) → List ℕ → Result (Unit {0}) PutError → Option (List ℕ) → Type 0
Puts old bytes (Ok u) new = new ≡ grown old bytes
Puts old bytes (Err PutFailed) new = (k : ℕ) × (new ≡ grown old (take k bytes))
Puts old bytes (Err PutMemory) new = new ≡ old

-- the count of failures never falls, and rises at each
abbrev pub PutCause : ℕ → ℕ → Result (Unit {0}) PutError → Type 0
PutCause before now (Ok u) = before ≤ now
PutCause before now (Err PutFailed) = (before ≤ now) × Rose before now
PutCause before now (Err PutMemory) = before ≤ now
