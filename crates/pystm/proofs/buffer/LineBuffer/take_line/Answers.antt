use Rattle.std.proofs.Common.{take, ap, ◌∙◌}
use Rattle.pystm.proofs.Known.{Keeps_taken}
use Rattle.pystm.proofs.buffer.LineBuffer.take_line.Goals as goal

pub returns-clause-rest : goal.returns-clause-rest
returns-clause-rest g c =
    let n = c.in_ok-length.length in
    let line = c.in_ok-line.ensures.items ∙ ap (take n) c.held.ensures in
    Keeps_taken _ _ _ _ _ n c.hold_line.ensures.kept line c.skip.ensures
