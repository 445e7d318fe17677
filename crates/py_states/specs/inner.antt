-- What code and proofs say to each other of frames that lie in memory as three lists. Nothing here is to be believed.
pub mod Changes
pub mod Framed
pub mod Laid
mod Worked
