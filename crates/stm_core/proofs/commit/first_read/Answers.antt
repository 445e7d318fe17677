use Rattle.std.proofs.Common.{sym, ◌∙◌, arith}
use Rattle.stm_core.proofs.Committing.{met_here, met_next, met_end}
use Rattle.stm_core.proofs.commit.first_read.Goals as goal

pub returns-then-has_looked : goal.returns-then-has_looked
returns-then-has_looked g c =
    let m = g.S.SegStore.meaning c.args.store.now in
    sym c.loop-i.invariant ∙ met_here (m.part c.args.k).changed c.loop-i.i c.changed_at-a.result.0
    (m.part c.args.j).looked c.changed_at-a.ensures (sym c.has_looked.ensures ∙ c.if-has_looked.true)

pub loop-i-preserved : goal.loop-i-preserved
loop-i-preserved g c =
    let m = g.S.SegStore.meaning c.args.store.now in
    met_next (m.part c.args.k).changed c.loop-i.i c.changed_at-a.result.0 (m.part c.args.j).looked
    c.changed_at-a.ensures (sym c.has_looked.ensures ∙ c.if-has_looked.false) ∙ c.loop-i.invariant

pub returns : goal.returns
returns g c =
    let m = g.S.SegStore.meaning c.args.store.now in
    let n = c.changed_len-count.ensures in
    let t = c.loop-i-test.false in
    sym c.loop-i.invariant ∙ met_end (m.part c.args.k).changed c.loop-i.i (m.part c.args.j).looked (omega (arith, n, t))
