-- What contracts see of devices over files and readers. States `docs/LANGUAGE.md`, "Devices".
use Rattle.std.specs.Prelude.{ℕ, List, None, Result, Ok, Err}
use Rattle.py_data.specs.World.{counted}
use Rattle.stm_io.specs.Outside.{LoaderState}
use Rattle.stm_io.specs.declared.error.LoadError.{LoadError}
use Rattle.stm_io.specs.declared.error.LoadError.TheVariants.{Failed as LoadFailed, OutOfMemory as LoadMemory}
use Rattle.stm_io.specs.declared.error.TakeError.{TakeError}
use Rattle.stm_io.specs.declared.error.TakeError.TheVariants.{Failed as TakeFailed, OutOfMemory as TakeMemory}

-- The names that a loader was asked for, and how often it failed.
pub record FileLoaderValue : Type 0 where
  pub asked : List (List ℕ)
  pub faults : ℕ

-- it tells nothing of any file
abbrev pub file_loader_state : FileLoaderValue → LoaderState
file_loader_state l = record { told = λ name. None; asked = l.asked; faults = l.faults }

-- how often a loader failed, once a load had this answer
abbrev pub faults_after_load : {T : Type 0} → Result T LoadError → ℕ → ℕ
faults_after_load (Ok v) n = n
faults_after_load (Err LoadFailed) n = counted n
faults_after_load (Err LoadMemory) n = n

-- how often a source failed, once it gave this answer
abbrev pub faults_after_take : {T : Type 0} → Result T TakeError → ℕ → ℕ
faults_after_take (Ok l) n = n
faults_after_take (Err TakeFailed) n = counted n
faults_after_take (Err TakeMemory) n = n
