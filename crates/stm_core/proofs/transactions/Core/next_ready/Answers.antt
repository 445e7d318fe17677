use Rattle.std.proofs.Common.{sym, subst, Some}
use Rattle.stm_segment.specs.Books.{core_of}
use Rattle.stm_core.specs.Standing.{IsNext}
use Rattle.stm_core.proofs.Beginning.{sound_core}
use Rattle.stm_core.proofs.Standings.{next_none, next_far, next_above, next_below}
use Rattle.stm_core.proofs.transactions.Core.next_ready.Goals as goal

pub returns-in_default : goal.returns-in_default
returns-in_default g c = λ o s.
    let w = s.worlds in
    subst (λ k. IsNext (g.C.Client.prog c.args.self.now.client.now) k c.first_ready.result) (sym s.core)
    (next_none (g.C.Client.prog c.args.self.now.client.now)
    (core_of w (g.S.SegStore.meaning c.args.self.now.store) c.args.self.now.books) c.len-count.result
    c.len-count.ensures c.in_default.is c.first_ready.result (c.first_ready.ensures w))

pub returns-then-last-count : goal.returns-then-last-count
returns-then-last-count g c = λ o s.
    let w = s.worlds in
    subst (λ k. IsNext (g.C.Client.prog c.args.self.now.client.now) k c.first_ready-then-last-count.result)
    (sym s.core) (next_far (g.C.Client.prog c.args.self.now.client.now)
    (core_of w (g.S.SegStore.meaning c.args.self.now.store) c.args.self.now.books) c.len-count.result
    c.in-Some.last c.len-count.ensures c.in-Some.is c.if-last-count.true c.first_ready-then-last-count.result
    (c.first_ready-then-last-count.ensures w))

pub returns-in-Some-first_ready : goal.returns-in-Some-first_ready
returns-in-Some-first_ready g c = λ o s.
    let w = s.worlds in
    subst (λ k. IsNext (g.C.Client.prog c.args.self.now.client.now) k (Some c.in-Some-first_ready.t)) (sym s.core)
    (next_above (g.C.Client.prog c.args.self.now.client.now)
    (core_of w (g.S.SegStore.meaning c.args.self.now.store) c.args.self.now.books) c.len-count.result
    c.in-Some.last c.in-Some-first_ready.t c.in-Some.is (c.in-Some-first_ready.ensures w))

pub returns-in-None : goal.returns-in-None
returns-in-None g c = λ o s.
    let w = s.worlds in
    subst (λ k. IsNext (g.C.Client.prog c.args.self.now.client.now) k c.first_ready-in-None.result) (sym s.core)
    (next_below (g.C.Client.prog c.args.self.now.client.now)
    (core_of w (g.S.SegStore.meaning c.args.self.now.store) c.args.self.now.books) c.len-count.result
    c.in-Some.last c.len-count.ensures c.in-Some.is (c.in-None.ensures w) c.first_ready-in-None.result
    (c.first_ready-in-None.ensures w))

pub first_ready-requires : goal.first_ready-requires
first_ready-requires g c = sound_core (g.C.Client.prog c.args.self.now.client.now)
    (g.C.Client.sound c.args.self.now.client.now) (g.met.C.Client.sound_step c.args.self.now.client.now) _ _ _ _ _
    c.requires.good.sane

pub first_ready-requires-then-last-count : goal.first_ready-requires-then-last-count
first_ready-requires-then-last-count g c = sound_core (g.C.Client.prog c.args.self.now.client.now)
    (g.C.Client.sound c.args.self.now.client.now) (g.met.C.Client.sound_step c.args.self.now.client.now) _ _ _ _ _
    c.requires.good.sane

pub first_ready-requires-2 : goal.first_ready-requires-2
first_ready-requires-2 g c = sound_core (g.C.Client.prog c.args.self.now.client.now)
    (g.C.Client.sound c.args.self.now.client.now) (g.met.C.Client.sound_step c.args.self.now.client.now) _ _ _ _ _
    c.requires.good.sane

pub first_ready-requires-in-None : goal.first_ready-requires-in-None
first_ready-requires-in-None g c = sound_core (g.C.Client.prog c.args.self.now.client.now)
    (g.C.Client.sound c.args.self.now.client.now) (g.met.C.Client.sound_step c.args.self.now.client.now) _ _ _ _ _
    c.requires.good.sane
