use Rattle.std.proofs.Common.{ap, ◌∙◌}
use Rattle.stm_core.specs.Advanced.{with_cause}
use Rattle.stm_core.proofs.Settling.{caused, core_caused}
use Rattle.stm_core.proofs.transactions.Core.give_up.Goals as goal

pub returns-clause-whole : goal.returns-clause-whole
returns-clause-whole g c = caused (g.S.SegStore.meaning c.drop_out.new.self.store) c.drop_out.new.self.books
    c.keep.new.self c.drop_out.ensures.whole c.keep.ensures.rest

pub returns-clause-core : goal.returns-clause-core
returns-clause-core g c = λ w. core_caused w (g.S.SegStore.meaning c.drop_out.new.self.store) c.drop_out.new.self.books
    c.keep.new.self c.args.cause c.keep.ensures.rest c.keep.ensures.cause ∙
    ap (with_cause c.args.cause) (c.drop_out.ensures.core w)
