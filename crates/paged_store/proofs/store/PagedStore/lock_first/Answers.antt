use Rattle.std.proofs.Common.{ℕ, Option, inl, ◌∙◌, ap, arith}
use Rattle.seg_store.proofs.Stores.{told}
use Rattle.seg_marks.specs.Runs.{Lock, held_by}
use Rattle.paged_store.proofs.BookSteps.{same_sizes}
use Rattle.paged_store.proofs.StoreCalls.{segment_in, segment_marks, image_granule, free_granule, same_stands, lock_stands}
use Rattle.paged_store.proofs.store.PagedStore.lock_first.Goals as goal

pub index_mut-requires : goal.index_mut-requires
index_mut-requires c = let l = segment_in c.args.self.now c.args.k c.requires.segment in
    omega (arith, l, c.args.self.now.drafts.ok.0)

pub invariant_of-self : goal.invariant_of-self
invariant_of-self c = record {
  sound = (same_stands c.args.self.now c.args.k c.requires.segment c.index_mut.result.now
      c.lock.new.self c.index_mut.ensures.value c.in_err-lock.ensures.err).sound;
}

pub returns-in_err-lock-clause-err : goal.returns-in_err-lock-clause-err
returns-in_err-lock-clause-err c = told c.from_residual.result
    (same_stands c.args.self.now c.args.k c.requires.segment c.index_mut.result.now c.lock.new.self
    c.index_mut.ensures.value c.in_err-lock.ensures.err).means

pub mark-requires-clause-segment : goal.mark-requires-clause-segment
mark-requires-clause-segment c = segment_marks c.args.self.now c.args.k c.requires.segment

pub mark-requires-clause-granule : goal.mark-requires-clause-granule
mark-requires-clause-granule c = image_granule c.args.self.now c.args.a.0 c.requires.there

pub lock-requires-2-clause-segment : goal.lock-requires-2-clause-segment
lock-requires-2-clause-segment c = (let l = segment_marks c.args.self.now c.args.k c.requires.segment in
    let e = c.mark.ensures.sizes.segments in omega (arith, l, e))

pub lock-requires-2-clause-granule : goal.lock-requires-2-clause-granule
lock-requires-2-clause-granule c = (let l = image_granule c.args.self.now c.args.a.0 c.requires.there in
    let e = c.mark.ensures.sizes.granules in omega (arith, l, e))

pub lock-requires-2-clause-free : goal.lock-requires-2-clause-free
lock-requires-2-clause-free c = inl (ap (λ (h : ℕ → Option ℕ). h c.args.a.0) c.mark.ensures.holders ∙
    free_granule c.args.self.now c.args.a.0 c.requires.free)

pub invariant_of-self-2 : goal.invariant_of-self-2
invariant_of-self-2 c = let v = lock_stands c.args.self.now c.args.k c.requires.segment c.index_mut.result.now
    c.lock.new.self c.index_mut.ensures.value c.args.a.0 c.requires.there c.requires.free c.in_ok-lock.ensures.ok
    c.lock-2.new.self (same_sizes c.mark.ensures.sizes c.lock-2.ensures.sizes)
    (c.lock-2.ensures.marks ∙ c.mark.ensures.marks)
    (c.lock-2.ensures.holders ∙ ap (held_by (Lock c.args.k c.args.a.0)) c.mark.ensures.holders) in
    record { sound = v.sound }

pub returns-clause-ok : goal.returns-clause-ok
returns-clause-ok c = (lock_stands c.args.self.now c.args.k c.requires.segment c.index_mut.result.now
    c.lock.new.self c.index_mut.ensures.value c.args.a.0 c.requires.there c.requires.free c.in_ok-lock.ensures.ok
    c.lock-2.new.self (same_sizes c.mark.ensures.sizes c.lock-2.ensures.sizes)
    (c.lock-2.ensures.marks ∙ c.mark.ensures.marks)
    (c.lock-2.ensures.holders ∙ ap (held_by (Lock c.args.k c.args.a.0)) c.mark.ensures.holders)).means
