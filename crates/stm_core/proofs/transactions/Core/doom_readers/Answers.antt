use Rattle.std.proofs.Common.{ap, ◌∙◌, ◌-◌, ◌+◌, cond, eqb, arith}
use Rattle.std.specs.List.{range_with_len}
use Rattle.stm_core.specs.Passes.{doom_one, doom_readers}
use Rattle.stm_segment.specs.Books.{transaction}
use Rattle.stm_core.specs.inner.Trying.{core_with}
use Rattle.stm_core.proofs.Committing.{dooms_on}
use Rattle.stm_core.proofs.transactions.Core.doom_readers.Goals as goal

pub segments-preserved : goal.segments-preserved
segments-preserved g c =
    let v = c.segments.invariant in
    let e = c.doom_reader.ensures in
    let m0 = g.S.SegStore.meaning c.args.self.now.store in
    let m = g.S.SegStore.meaning c.segments.self.store in
    record {
      fit = e.fit;
      client = ap (λ s. s.client) e.rest ∙ v.client;
      alloc = ap (λ s. s.alloc) e.rest ∙ v.alloc;
      spent = ap (λ s. s.spent) e.rest ∙ v.spent;
      length = ap (λ s. s.length) e.rest ∙ v.length;
      budget = ap (λ s. s.budget) e.rest ∙ v.budget;
      devices = ap (λ s. s.devices) e.rest ∙ v.devices;
      made_with = ap (λ s. s.made_with) e.rest ∙ v.made_with;
      broken = e.broken ∙ v.broken;
      cause = e.cause ∙ v.cause;
      idle = e.idle ∙ v.idle;
      part = e.part ∙ v.part;
      shape = (e.shape.0 ∙ v.shape.0, e.shape.1 ∙ v.shape.1);
      reserved = e.reserved ∙ v.reserved;
      peaks = e.peaks ∙ v.peaks;
      core = λ w.
          let tx = transaction w.own (m0.part c.args.k) c.args.work.now in
          let u = core_with w c.args.k m c.segments.self.books c.args.work.now in
          let n = c.segments-count.ensures in
          let lt = c.segments-test.true in
          ap (doom_readers c.args.k tx (range_with_len (c.segments.j + 1) (m0.segments - (c.segments.j + 1))))
          (e.core w ∙ ap (λ p. cond (eqb c.segments.j c.args.k) u
          (doom_one c.args.k (transaction w.own p c.args.work.now) c.segments.j u (u.segments c.segments.j)))
          v.part)
          ∙ dooms_on c.args.k tx c.segments.j m0.segments u (omega (arith, n, lt)) ∙ v.core w;
    }
