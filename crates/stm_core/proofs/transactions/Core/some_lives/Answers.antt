use Rattle.std.proofs.Common.{arith}
use Rattle.std.proofs.lemmas.Option.{slice_get_within}
use Rattle.stm_core.proofs.transactions.Core.some_lives.Goals as goal

pub returns-clause-not : goal.returns-clause-not
returns-clause-not g c = λ e w t q is lives.
    c.loop-t.invariant t q (let lt = slice_get_within c.args.self.now.books.threads.entries t q is in let n =
    c.len-t-end.ensures in let f = c.loop-t-test.false in omega (arith, lt, n, f)) is lives
