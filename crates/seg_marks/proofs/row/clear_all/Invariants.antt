use Rattle.std.proofs.Common.{◌≡◌, ℕ, ◌<◌, length, get_or}
use Rattle.seg_marks.proofs.row.clear_all.Given as goal

abbrev pub invariant-granules : goal.invariant-granules
invariant-granules l = (length l.bytes.items ≡ length l.initial.bytes.items)
    × ((g : ℕ) → g < l.g → get_or l.bytes.items g 0 ≡ 0)
