pub mod Arguments
pub mod Sorting
pub mod Lists
pub mod Dicts
pub mod HoldsLaws
pub mod Laws
pub mod KeyLaws
pub mod Worked
