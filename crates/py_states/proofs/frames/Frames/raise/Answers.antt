use Rattle.std.proofs.Common.{ap, drop, ◌∙◌}
use Rattle.py_states.specs.inner.Changes.{on_top, caught}
use Rattle.py_states.proofs.TopLemmas.{thrown_some}
use Rattle.py_states.proofs.frames.Frames.raise.Goals as goal

pub returns-clause-ok : goal.returns-clause-ok
returns-clause-ok c =
    let cut = c.drop_frames.ensures.frames ∙ ap (drop c.in-Some.place) c.make_room.ensures.same in
    thrown_some c.args.x c.args.first c.in-Some.place c.args.self.now.frames c.catch.new.self.frames c.in-Some.ensures
    (c.catch.ensures ∙ ap (on_top (caught c.args.x)) cut)
