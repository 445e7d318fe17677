mod Copied
mod PiecesLemmas
pub mod BlankLemmas
mod Fitting
mod JoinLoop
mod PiecesLaws
pub mod StrHolds
