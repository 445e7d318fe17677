use Rattle.py_data.proofs.Steps.{live_after, safe_then}
use Rattle.obj_seq.specs.Gather.{gather_row}
use Rattle.py_frames.specs.BuildRows.{spread, spread_row}
use Rattle.py_instrs.proofs.builds.spread_row.Goals as goal

pub spread-requires-clause-live : goal.spread-requires-clause-live
spread-requires-clause-live g c = live_after g.V.View.sense g.met.V.View.lawful (gather_row c.args.x) c.args.v.now
    c.gather.new.v c.in_ok-got.got c.in_ok-got.ensures c.requires.live

pub spread-requires-clause-safe : goal.spread-requires-clause-safe
unfolding spread_row
spread-requires-clause-safe g c = safe_then g.V.View.sense g.met.V.View.lawful (gather_row c.args.x)
    (λ got. spread c.args.roots.0 c.args.n got) c.args.v.now c.gather.new.v c.in_ok-got.got c.requires.safe
    c.in_ok-got.ensures
