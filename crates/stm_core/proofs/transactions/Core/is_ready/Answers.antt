use Rattle.std.proofs.Common.{sym, subst, ◌∙◌, arith}
use Rattle.lock_run.specs.Client.{Waiting, Going}
use Rattle.stm_segment.proofs.Hands.{not_true, not_false}
use Rattle.stm_core.proofs.Beginning.{ready, unready_none, unready_runs, unready_waits}
use Rattle.stm_core.proofs.transactions.Core.is_ready.Goals.{then-t-len-via-then-t-len, then-t-len-via-else-t-len+then-runs_thread}
use Rattle.stm_core.proofs.transactions.Core.is_ready.Goals as goal

pub returns-then-t-len-clause-not : goal.returns-then-t-len-clause-not
returns-then-t-len-clause-not g c = λ e w.
    let p = g.C.Client.prog c.args.self.now.client.now in
    let m = g.S.SegStore.meaning c.args.self.now.store in
    let b = c.args.self.now.books in
    let n = c.len.ensures in
    elim c.then-t-len.branch [
      | then-t-len-via-then-t-len v ↦ let h = v.if-t-len.true in unready_none p w m b c.args.t (omega (arith, n, h))
      | then-t-len-via-else-t-len+then-runs_thread v ↦ let h = v.if-t-len.false in let r =
          v.runs_thread.ensures.yes v.if-runs_thread.true in unready_runs p w m b c.args.t (omega (arith, n, h)) r.0
          r.1 r.2 r.3
    ]

pub blocked-requires-clause-stands : goal.blocked-requires-clause-stands
blocked-requires-clause-stands g c =
    let b = c.args.self.now.books in (
      b.threads.entries,
      c.args.t,
      c.at-state.ensures,
      subst (λ i. g.C.Client.sound c.args.self.now.client.now i b.threads.entries)
          (sym (g.met.S.SegStore.same_image c.args.self.now.store)) c.requires,
    )

pub returns-in-Lives-clause-yes : goal.returns-in-Lives-clause-yes
returns-in-Lives-clause-yes g c = λ e w.
    let p = g.C.Client.prog c.args.self.now.client.now in
    ready p w (g.S.SegStore.meaning c.args.self.now.store) c.args.self.now.books c.args.t c.at-state.result.now
    c.at-state.ensures (sym c.life.ensures ∙ c.in-Lives.is) (c.runs_thread.ensures.not c.if-runs_thread.false)
    (subst (Going (p.row c.at-state.result.now)) (g.met.S.SegStore.same_image c.args.self.now.store)
    (c.blocked.ensures.not (not_true c.blocked.result e)))

pub returns-in-Lives-clause-not : goal.returns-in-Lives-clause-not
returns-in-Lives-clause-not g c = λ e w.
    let p = g.C.Client.prog c.args.self.now.client.now in
    unready_waits p w (g.S.SegStore.meaning c.args.self.now.store) c.args.self.now.books c.args.t c.at-state.result.now
    c.at-state.ensures
    (subst (Waiting (p.row c.at-state.result.now)) (g.met.S.SegStore.same_image c.args.self.now.store)
    (c.blocked.ensures.yes (not_false c.blocked.result e)))
