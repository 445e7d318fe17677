mod PileLemmas
mod LaidLemmas
mod TopLemmas
mod SettleLemmas
mod SameLemmas
pub mod Running
