pub mod Dict
pub mod HoldsLaws
pub mod Laws
pub mod Listing
pub mod PairLaws
