use Rattle.std.proofs.Common.{ap, ◌∙◌}
use Rattle.stm_segment.specs.CoreState.{with_conflict}
use Rattle.stm_core.proofs.Wholes.{noted, core_noted, still_room, some_room}
use Rattle.stm_core.proofs.transactions.Core.lose_out.Goals as goal

pub note-requires : goal.note-requires
note-requires g c = some_room c.args.k (g.S.SegStore.meaning c.args.self.now.store) c.args.self.now.books
    c.drop_out.new.self.books c.args.work.progress c.requires.fit c.drop_out.ensures.room

pub returns-clause-whole : goal.returns-clause-whole
returns-clause-whole g c = noted (g.S.SegStore.meaning c.drop_out.new.self.store) c.drop_out.new.self.books
    c.note.new.self c.drop_out.ensures.whole
    (still_room c.args.k (g.S.SegStore.meaning c.args.self.now.store) c.args.self.now.books c.drop_out.new.self.books
    c.args.work.progress c.requires.fit c.drop_out.ensures.room) c.note.ensures.rest c.note.ensures.room

pub returns-clause-core : goal.returns-clause-core
returns-clause-core g c = λ w. core_noted w (g.S.SegStore.meaning c.drop_out.new.self.store) c.drop_out.new.self.books
    c.note.new.self c.args.f c.note.ensures.rest c.note.ensures.conflicts ∙
    ap (with_conflict c.args.f) (c.drop_out.ensures.core w)
