pub mod Seq
pub mod Worked
pub mod Iter
pub mod Gather
pub mod Laws
pub mod HoldsLaws
pub mod inner
