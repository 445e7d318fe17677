pub mod Strings
pub mod Pieces
pub mod PiecesWorked
pub mod Cutting
pub mod Methods
pub mod Adding
pub mod Laws
pub mod HoldsLaws
