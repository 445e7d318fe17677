pub mod LevelSteps
mod EqualSteps
pub mod Filled
pub mod Dropped
mod KindLooks
mod EqualLooks
mod OrderLooks
mod TruthLooks
pub mod TextLooks
pub mod NestLooks
pub mod NumberOrder
mod OrderTotal
mod KeyLemmas
mod PairSearch
mod PairMatches
mod EqualSame
pub mod CalmRows
