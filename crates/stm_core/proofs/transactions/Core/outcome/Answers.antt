use Rattle.std.proofs.Common.{Some, None, ◌∙◌, ap, inl, inr, sym, subst, ◌<◌}
use Rattle.stm_segment.specs.Books.{transaction, segment_of, core_of}
use Rattle.stm_core.specs.Standing.{IsAtRest, IsNext, IsOutcome}
use Rattle.stm_core.specs.declared.standing.RunState.TheVariants.{Running, Done, Stuck, Spent}
use Rattle.stm_core.proofs.Standings.{some_running, at_rest, all_wait, some_ready}
use Rattle.stm_core.proofs.transactions.Core.outcome.Goals as goal

pub returns-in-Some : goal.returns-in-Some
returns-in-Some g c = λ o s. ap (λ k. k.cause) s.core ∙ c.in-Some.is

pub returns-then-not-some_lives : goal.returns-then-not-some_lives
returns-then-not-some_lives g c = λ o s.
    let p = g.C.Client.prog c.args.self.now.client.now in
    subst (λ k. IsOutcome p c.args.self.now.budget k Done) (sym s.core)
    (c.in_default.is, c.some_lives.ensures.not c.if-not-some_lives.true s.worlds)

pub returns-then-running-gt0 : goal.returns-then-running-gt0
returns-then-running-gt0 g c = λ o s.
    let r = some_running c.args.self.now.books.hands.items
    (subst (λ n. 0 < n) c.running.ensures.count c.if-running-gt0.true) in
    let q = (g.S.SegStore.meaning c.args.self.now.store).part r.0 in
    let w = s.worlds in
    subst (λ k. IsOutcome (g.C.Client.prog c.args.self.now.client.now) c.args.self.now.budget k Running) (sym s.core)
    (inl (
      c.in_default.is,
      c.some_lives.ensures.yes c.if-not-some_lives.false w,
      (r.0, transaction w.own q r.1, ap (segment_of w.own q) r.2),
    ))

pub returns-in-None : goal.returns-in-None
returns-in-None g c = λ o s.
    let p = g.C.Client.prog c.args.self.now.client.now in
    let m = g.S.SegStore.meaning c.args.self.now.store in
    let b = c.args.self.now.books in
    let w = s.worlds in
    let rests : IsAtRest (core_of w m b) = at_rest w m b c.in_default.is c.running.ensures.count c.if-running-gt0.false
    in
    subst (λ k. IsOutcome p c.args.self.now.budget k Stuck) (sym s.core) (
      rests,
      (
        c.some_lives.ensures.yes c.if-not-some_lives.false w,
        all_wait p (core_of w m b) rests.1 (subst (λ k. IsNext p k None) s.core (c.in-None.ensures o s)),
      ),
    )

pub returns-then-is_spent : goal.returns-then-is_spent
returns-then-is_spent g c = λ o s.
    let p = g.C.Client.prog c.args.self.now.client.now in
    let m = g.S.SegStore.meaning c.args.self.now.store in
    let b = c.args.self.now.books in
    let w = s.worlds in
    let rests : IsAtRest (core_of w m b) = at_rest w m b c.in_default.is c.running.ensures.count c.if-running-gt0.false
    in
    subst (λ k. IsOutcome p c.args.self.now.budget k Spent) (sym s.core) (
      rests,
      (
        some_ready p (core_of w m b) _
            (subst (λ k. IsNext p k (Some c.in-Some-next_ready.field-0)) s.core (c.in-Some-next_ready.ensures o s)).0,
        c.is_spent.ensures.yes c.if-is_spent.true,
      ),
    )

pub returns-else-is_spent : goal.returns-else-is_spent
returns-else-is_spent g c = λ o s.
    let p = g.C.Client.prog c.args.self.now.client.now in
    let m = g.S.SegStore.meaning c.args.self.now.store in
    let b = c.args.self.now.books in
    let w = s.worlds in
    let rests : IsAtRest (core_of w m b) = at_rest w m b c.in_default.is c.running.ensures.count c.if-running-gt0.false
    in
    subst (λ k. IsOutcome p c.args.self.now.budget k Running) (sym s.core)
    (inr (
      rests,
      (
        some_ready p (core_of w m b) _
            (subst (λ k. IsNext p k (Some c.in-Some-next_ready.field-0)) s.core (c.in-Some-next_ready.ensures o s)).0,
        c.is_spent.ensures.not c.if-is_spent.false,
      ),
    ))
