-- The text and what the reader has left are what the reader had.
use Rattle.std.proofs.Common.{◌≤◌, ◌-◌, length}
use Rattle.std.specs.Io.KnownBytes.{Consumes}
use Rattle.pystm.proofs.loader.read_front.Given as goal

abbrev pub invariant-loop-piece : goal.invariant-loop-piece
invariant-loop-piece g l = (length l.text.items ≤ l.most) × Consumes (g.R.Read.remaining l.initial.reader)
    (g.R.Read.remaining l.reader) l.text.items

abbrev pub decreases-loop-piece : goal.decreases-loop-piece
decreases-loop-piece g l = l.most - length l.text.items
