use Rattle.std.proofs.Common.{◌≤◌, arith, below_more}
use Rattle.stm_segment.specs.Books.{core_of}
use Rattle.stm_core.specs.Begun.{IsUnready}
use Rattle.stm_core.proofs.transactions.Core.first_ready.Goals as goal

pub returns-then-is_ready : goal.returns-then-is_ready
returns-then-is_ready g c = λ w. (
  omega arith,
  omega arith,
  c.is_ready.ensures.yes c.if-is_ready.true w,
  c.loop-t.invariant w,
)

pub loop-t-preserved : goal.loop-t-preserved
loop-t-preserved g c = λ w s a lt.
    below_more (λ k. c.args.from ≤ k → IsUnready (g.C.Client.prog c.args.self.now.client.now)
    (core_of w (g.S.SegStore.meaning c.args.self.now.store) c.args.self.now.books) k) c.loop-t.t
    (λ k l b. c.loop-t.invariant w k b l) (λ b. c.is_ready.ensures.not c.if-is_ready.false w) s lt a

pub returns : goal.returns
returns g c = λ w s a lt. c.loop-t.invariant w s a (omega (arith, lt))
