pub mod Fronts
pub mod Pieces
pub mod Spells
pub mod Targets
pub mod Trees
