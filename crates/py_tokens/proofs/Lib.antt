mod CharacterLemmas
mod Digits
pub mod Stacks
pub mod Laying
mod Loop
pub mod InOrder
pub mod Streams
mod Whole
mod LayoutRows
