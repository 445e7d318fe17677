mod Labels
pub mod RightRows
