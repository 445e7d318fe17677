-- The reading of a number: spelled by the front that it takes, as long as any number at the front, and refused for a
-- reason. Declares nothing.
pub use Rattle.front_laws.proofs.NumberSpelled.{number_spelled}
pub use Rattle.front_laws.proofs.NumberCaused.{number_caused}
pub use Rattle.front_laws.proofs.NumberFound.{whole_within, long_within, float_found, imaginary_found, imaginary_whole_found, whole_starts, float_starts}
