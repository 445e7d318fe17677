mod InOrder
mod SortedBy
mod Loops
mod OrderedValues
mod SortLooks
mod SearchLooks
mod ListLeaves
mod KeyLeaves
pub mod MethodsHold
mod OnlyEqual
pub mod SteadyMethods
