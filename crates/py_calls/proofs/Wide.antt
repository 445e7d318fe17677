-- A number of 32 bits among the numbers of 64.
use Rattle.std.proofs.Common.{arith, ◌≡◌, ℕ, ◌<◌, w64, pos, to_z}
use Rattle.std.proofs.lemmas.Int.{to_z_pos}

pub wide : (n : ℕ) → n < 4294967296 → to_z w64 n ≡ pos n
wide n f = to_z_pos w64 n (omega (arith, f))
