pub mod Spans
mod SheetLemmas
mod Keeping
mod ListsLemmas
pub mod CountingLemmas
mod LayingLemmas
mod CountedLemmas
