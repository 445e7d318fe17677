use Rattle.std.proofs.Common.{sym, ◌∙◌}
use Rattle.stm_core.proofs.Committing.{beats_some}
use Rattle.stm_core.proofs.transactions.Core.beaten_by.Goals as goal

pub returns-then-wins : goal.returns-then-wins
returns-then-wins g c =
    beats_some c.args.self.now.books.hands.items (g.S.SegStore.meaning c.args.self.now.store) c.args.k c.args.j
    c.args.me c.side-other.result c.in-Some.at c.in-Some.ensures c.side-other.ensures
    (sym c.wins.ensures ∙ c.if-wins.true)
