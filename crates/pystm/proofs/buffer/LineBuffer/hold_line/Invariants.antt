-- Nothing is lost, and no newline stands before `seen`.
use Rattle.std.proofs.Common.{◌≢◌, ◌≤◌, ◌+◌, ◌-◌, All, length, take}
use Rattle.std.specs.Io.KnownBytes.{Keeps, prepend_known}
use Rattle.pystm.proofs.buffer.LineBuffer.hold_line.Given as goal

abbrev pub invariant-loop-seen : goal.invariant-loop-seen
invariant-loop-seen g l =
    (l.seen ≤ l.most) × (l.seen ≤ length l.self)
    × All (λ b. b ≢ 10) (take l.seen l.self)
    × Keeps (prepend_known l.initial.self (g.R.Read.remaining l.initial.reader))
    (prepend_known l.self (g.R.Read.remaining l.reader))

abbrev pub decreases-loop-seen : goal.decreases-loop-seen
decreases-loop-seen g l = (l.most - l.seen) + (l.most - length l.self)
