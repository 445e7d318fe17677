use Rattle.std.proofs.Common.{ap, ◌∙◌, arith}
use Rattle.stm_segment.specs.Books.{core_of}
use Rattle.stm_core.specs.Finishing.{idle_core}
use Rattle.stm_core.proofs.Ends.{still_idle, core_idle, unused}
use Rattle.stm_core.proofs.Calling.{blank}
use Rattle.stm_core.proofs.transactions.Core.drop_all.Goals as goal

pub slots-preserved : goal.slots-preserved
slots-preserved g c =
    let v = c.slots.invariant in
    let e = c.drop_slot.ensures in
    record {
      whole = e.whole;
      client = ap (λ s. s.client) e.rest ∙ v.client;
      alloc = ap (λ s. s.alloc) e.rest ∙ v.alloc;
      spent = ap (λ s. s.spent) e.rest ∙ v.spent;
      length = ap (λ s. s.length) e.rest ∙ v.length;
      budget = ap (λ s. s.budget) e.rest ∙ v.budget;
      devices = ap (λ s. s.devices) e.rest ∙ v.devices;
      made_with = ap (λ s. s.made_with) e.rest ∙ v.made_with;
      broken = e.broken ∙ v.broken;
      cause = e.cause ∙ v.cause;
      shape = (e.shape.0 ∙ v.shape.0, e.shape.1 ∙ v.shape.1);
      reserved = e.reserved ∙ v.reserved;
      peaks = e.peaks ∙ v.peaks;
      idle = λ w i lt. ap (λ z. z.segments i) (e.core w) ∙
          still_idle c.slots.k i (core_of w (g.S.SegStore.meaning c.slots.self.store) c.slots.self.books)
          (λ h. v.idle w i h) lt;
      core = λ w. ap idle_core (e.core w) ∙ v.core w;
    }

pub returns-clause-unused : goal.returns-clause-unused
returns-clause-unused g c =
    let v = c.slots.invariant in
    unused (g.S.SegStore.meaning c.slots.self.store) c.slots.self.books v.whole
    (λ w i lt. v.idle w i (let n = c.segments-count.ensures in let t = c.slots-test.false in let s = v.shape.0 in
    omega (arith, lt, n, t, s))) blank

pub returns-clause-core : goal.returns-clause-core
returns-clause-core g c = λ w.
    let v = c.slots.invariant in
    core_idle (g.S.SegStore.meaning c.slots.self.store) c.slots.self.books v.whole
    (λ u i lt. v.idle u i (let n = c.segments-count.ensures in let t = c.slots-test.false in let s = v.shape.0 in
    omega (arith, lt, n, t, s))) w ∙ v.core w
