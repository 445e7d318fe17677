use Rattle.std.proofs.Common.{rules}
use Rattle.pystm.proofs.Known.{Appends_front}
use Rattle.pystm.proofs.sink.write_whole.Goals as goal

pub loop-done-preserved : goal.loop-done-preserved
loop-done-preserved g c =
    let (within, written) = c.loop-done.invariant in
    (search rules, Appends_front _ _ _ _ _ _ written c.in_ok-done.ensures.bytes)
