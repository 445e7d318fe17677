use Rattle.std.proofs.Common.{ap}
use Rattle.stm_core.specs.CoreHeld.{core_client, core_limits}
use Rattle.stm_core.specs.Events.{Limits}
use Rattle.stm_core.proofs.PieceEvents.{asked_now, asked_still, skip_led, unloaned_led, ran_fits, fit_led, ran_few, install_led}
use Rattle.stm_core.proofs.transactions.Core.make_piece.Goals as goal

pub may_loan-requires-clause-segment : goal.may_loan-requires-clause-segment
may_loan-requires-clause-segment g c = (asked_now c.requires.good.sane (core_limits g.S.SegStore.meaning
    c.args.self.now) c.args.k c.args.most c.requires.may).0

pub loan-requires-clause-segment : goal.loan-requires-clause-segment
loan-requires-clause-segment g c = (asked_now c.requires.good.sane (core_limits g.S.SegStore.meaning c.args.self.now)
    c.args.k c.args.most c.requires.may).0

pub at_most-requires : goal.at_most-requires
at_most-requires g c = (asked_now c.requires.good.sane (core_limits g.S.SegStore.meaning c.args.self.now) c.args.k
    c.args.most c.requires.may).1

pub fits-requires-clause-segment : goal.fits-requires-clause-segment
fits-requires-clause-segment g c =
    let l = core_limits g.S.SegStore.meaning c.args.self.now in
    asked_still c.args.k c.args.most l (core_limits g.S.SegStore.meaning c.loan.new.self) c.loan.ensures.job.limits
    (asked_now c.requires.good.sane l c.args.k c.args.most c.requires.may)

pub install-requires-clause-segment : goal.install-requires-clause-segment
install-requires-clause-segment g c =
    let l = core_limits g.S.SegStore.meaning c.args.self.now in
    asked_still c.args.k c.args.most l (core_limits g.S.SegStore.meaning c.loan.new.self) c.loan.ensures.job.limits
    (asked_now c.requires.good.sane l c.args.k c.args.most c.requires.may)

pub returns-then-not-may_loan-clause-made : goal.returns-then-not-may_loan-clause-made
returns-then-not-may_loan-clause-made g c = skip_led (g.C.Client.prog (core_client c.args.self.now))
    (core_limits g.S.SegStore.meaning c.args.self.now) c.args.k c.args.most _ c.may_loan.result
    c.if-not-may_loan.true c.requires.may c.may_loan.ensures

pub returns-in-Err-clause-made : goal.returns-in-Err-clause-made
returns-in-Err-clause-made g c = unloaned_led (g.C.Client.prog (core_client c.args.self.now))
    (core_limits g.S.SegStore.meaning c.args.self.now) c.args.k c.args.most _ _ c.may_loan.result c.in-Err.reason
    c.loan_reply.result c.if-not-may_loan.false c.loan_reply.ensures c.may_loan.ensures c.in-Err.ensures.loaned

pub returns-then-not-fits-clause-made : goal.returns-then-not-fits-clause-made
returns-then-not-fits-clause-made g c = fit_led (g.C.Client.prog (core_client c.args.self.now))
    (core_limits g.S.SegStore.meaning c.args.self.now) c.args.k c.args.most _ _ c.fits.result _ c.in-Ok.loan _
    c.if-not-fits.true c.in-Ok.ensures.loaned
    (λ o u h. ran_fits (g.C.Client.prog (core_client c.args.self.now)) (core_limits g.S.SegStore.meaning
    c.args.self.now).length (core_limits g.S.SegStore.meaning c.loan.new.self).length c.args.k c.args.most c.in-Ok.loan
    c.at_most.result c.run_piece-piece.result o u (ap (λ (z : Limits). z.length) c.loan.ensures.job.limits) h
    c.at_most.ensures.state c.at_most.ensures.most c.at_most.ensures.view c.run_piece-piece.ensures.start
    c.run_piece-piece.ensures.few c.run_piece-piece.ensures.loaned c.run_piece-piece.ensures.terms)
    c.fits.ensures

pub returns-else-not-fits-clause-made : goal.returns-else-not-fits-clause-made
returns-else-not-fits-clause-made g c = install_led (g.C.Client.prog (core_client c.args.self.now))
    (core_limits g.S.SegStore.meaning c.args.self.now) c.args.k c.args.most _ _ _ c.in-Ok.loan
    (g.C.Client.prog (core_client c.loan.new.self)) (core_limits g.S.SegStore.meaning c.loan.new.self) _ _ _ _ _
    c.install.result c.piece_reply.result (ap g.C.Client.prog c.loan.ensures.job.client) c.loan.ensures.job.limits
    c.piece_reply.ensures c.in-Ok.ensures.lives
    (ran_few c.in-Ok.loan.most c.args.most c.at_most.result.most c.run_piece-piece.result.steps
    c.at_most.ensures.most c.run_piece-piece.ensures.few) c.in-Ok.ensures.loaned c.install.ensures.installed
