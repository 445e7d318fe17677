pub mod Outline
pub mod Scopes
pub mod ScopeLaws
pub mod Resolves
pub mod inner
