use Rattle.std.proofs.Common.{arith}
use Rattle.std.proofs.lemmas.Option.{slice_get_within}
use Rattle.stm_segment.specs.declared.books.Hand.TheVariants.{Runs}
use Rattle.stm_core.specs.CoreHeld.{core_limits}
use Rattle.stm_core.proofs.FinishingLemmas.{may_commit, solo_settles, none_after, none_settles}
use Rattle.stm_core.proofs.transactions.Core.settle_solo.Goals as goal

pub solo_segment-requires : goal.solo_segment-requires
solo_segment-requires g c = let n = c.requires.good.whole.hands in let f = c.known.ensures.store.few in
    omega (arith, n, f)

pub commit-requires-clause-may : goal.commit-requires-clause-may
commit-requires-clause-may g c = λ o s.
    let w = c.in-Some.ensures in
    let n = c.requires.good.whole.hands in
    let lt = slice_get_within c.args.self.now.books.hands.items c.in-Some.k (Runs w.0) w.1 in
    may_commit (g.C.Client.prog c.args.self.now.client.now) c.args.self.now.length _ _
    (g.S.SegStore.meaning c.args.self.now.store) c.args.self.now.books o s
    (core_limits g.S.SegStore.meaning c.args.self.now) c.in-Some.k w.0 w.1 (omega (arith, lt, n))

pub returns-in-Some-clause-settles : goal.returns-in-Some-clause-settles
returns-in-Some-clause-settles g c = λ o s.
    let w = c.in-Some.ensures in
    let z = c.commit.ensures.committed o s in (
      z.0,
      z.1,
      solo_settles (g.C.Client.prog c.args.self.now.client.now) c.args.self.now.length _ _
          (g.S.SegStore.meaning c.args.self.now.store) c.args.self.now.books o s c.in-Some.k w.0 w.1 w.2 c.commit.result
          z.0 z.2,
    )

pub returns-in-None-clause-settles : goal.returns-in-None-clause-settles
returns-in-None-clause-settles g c = λ o s. (
  o,
  s,
  none_settles (g.C.Client.prog c.args.self.now.client.now) c.args.self.now.length _ _
      (g.S.SegStore.meaning c.args.self.now.store) c.args.self.now.books o s
      (g.S.SegStore.meaning c.args.self.now.store).segments c.in-None.ensures,
)

pub returns-in-Some-clause-none : goal.returns-in-Some-clause-none
returns-in-Some-clause-none g c =
    let w = c.in-Some.ensures in
    let v = c.requires.good.sane in
    let z = c.commit.ensures.committed v.state v.stands in
    none_after (g.C.Client.prog c.args.self.now.client.now) c.args.self.now.length _ _
    (g.S.SegStore.meaning c.args.self.now.store) c.args.self.now.books v.state v.stands c.in-Some.k w.0 w.1 w.2
    c.commit.result z.0 z.2 z.1.worlds (g.S.SegStore.meaning c.commit.new.self.store) c.commit.new.self.books
    z.1.core
