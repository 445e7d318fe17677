use Rattle.stm_core.specs.declared.events.Event.TheVariants.{Begin, Advance, Solo, Commit, Piece}
use Rattle.stm_core.specs.CoreHeld.{core_client, core_limits}
use Rattle.stm_core.proofs.Calling.{below}
use Rattle.stm_core.proofs.EventSteps.{may_now, made_now}
use Rattle.stm_core.proofs.transactions.Core.make.Goals as goal

pub begin-requires-clause-segment : goal.begin-requires-clause-segment
begin-requires-clause-segment g c =
    let s = c.requires.good.sane in
    below _ _ (may_now (core_limits g.S.SegStore.meaning c.args.self.now) s.state.core c.can_make.result c.args.event
    (Begin c.in-Begin.k c.in-Begin.t) c.if-not-can_make.false (c.can_make.ensures s.state s.stands) c.in-Begin.is)

pub advance-requires-clause-may : goal.advance-requires-clause-may
advance-requires-clause-may g c = λ o s. may_now (core_limits g.S.SegStore.meaning c.args.self.now) o.core
    c.can_make.result c.args.event (Advance c.in-Advance.k c.in-Advance.most) c.if-not-can_make.false
    (c.can_make.ensures o s) c.in-Advance.is

pub solo-requires-clause-may : goal.solo-requires-clause-may
solo-requires-clause-may g c = λ o s. may_now (core_limits g.S.SegStore.meaning c.args.self.now) o.core
    c.can_make.result c.args.event (Solo c.in-Solo.k) c.if-not-can_make.false (c.can_make.ensures o s) c.in-Solo.is

pub commit-requires-clause-may : goal.commit-requires-clause-may
commit-requires-clause-may g c = λ o s. may_now (core_limits g.S.SegStore.meaning c.args.self.now) o.core
    c.can_make.result c.args.event (Commit c.in-Commit.k) c.if-not-can_make.false (c.can_make.ensures o s)
    c.in-Commit.is

pub make_piece-requires-clause-may : goal.make_piece-requires-clause-may
make_piece-requires-clause-may g c = λ o s. may_now (core_limits g.S.SegStore.meaning c.args.self.now) o.core
    c.can_make.result c.args.event (Piece c.in-Piece.k c.in-Piece.most) c.if-not-can_make.false (c.can_make.ensures o s)
    c.in-Piece.is

pub returns-in-Begin-clause-made : goal.returns-in-Begin-clause-made
returns-in-Begin-clause-made g c = made_now (g.C.Client.prog (core_client c.args.self.now))
    (core_limits g.S.SegStore.meaning c.args.self.now) _ _ c.can_make.result c.args.event
    (Begin c.in-Begin.k c.in-Begin.t) c.begin_reply.result _ c.if-not-can_make.false c.can_make.ensures c.in-Begin.is
    c.begin.ensures.begun
    (λ o o1 m. (c.begin.result, c.begin_reply.ensures, m))

pub returns-in-Advance-clause-made : goal.returns-in-Advance-clause-made
returns-in-Advance-clause-made g c = made_now (g.C.Client.prog (core_client c.args.self.now))
    (core_limits g.S.SegStore.meaning c.args.self.now) _ _ c.can_make.result c.args.event
    (Advance c.in-Advance.k c.in-Advance.most) c.advance_reply.result _ c.if-not-can_make.false c.can_make.ensures
    c.in-Advance.is c.advance.ensures.advanced
    (λ o o1 m. (c.advance.result, g.S.SegStore.reserved c.advance.new.self.store, c.advance_reply.ensures, m))

pub returns-in-Solo-clause-made : goal.returns-in-Solo-clause-made
returns-in-Solo-clause-made g c = made_now (g.C.Client.prog (core_client c.args.self.now))
    (core_limits g.S.SegStore.meaning c.args.self.now) _ _ c.can_make.result c.args.event (Solo c.in-Solo.k)
    c.solo_reply.result _ c.if-not-can_make.false c.can_make.ensures c.in-Solo.is c.solo.ensures.soloed
    (λ o o1 m. (c.solo.result, c.solo_reply.ensures, m))

pub returns-in-Commit-clause-made : goal.returns-in-Commit-clause-made
returns-in-Commit-clause-made g c = made_now (g.C.Client.prog (core_client c.args.self.now))
    (core_limits g.S.SegStore.meaning c.args.self.now) _ _ c.can_make.result c.args.event (Commit c.in-Commit.k)
    c.commit_reply.result _ c.if-not-can_make.false c.can_make.ensures c.in-Commit.is c.commit.ensures.committed
    (λ o o1 m. (c.commit.result, c.commit_reply.ensures, m))

pub returns-in-Piece-clause-made : goal.returns-in-Piece-clause-made
returns-in-Piece-clause-made g c = made_now (g.C.Client.prog (core_client c.args.self.now))
    (core_limits g.S.SegStore.meaning c.args.self.now) _ _ c.can_make.result c.args.event
    (Piece c.in-Piece.k c.in-Piece.most) c.make_piece.result _ c.if-not-can_make.false c.can_make.ensures c.in-Piece.is
    c.make_piece.ensures.made (λ o o1 m. m)
