mod Told
mod Tallying
mod UsedStatements
pub mod ModuleUses
pub mod Gathers
