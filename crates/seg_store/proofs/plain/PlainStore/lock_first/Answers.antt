use Rattle.std.proofs.Common.{rules, sym, ◌∙◌, ap, option_copied}
use Rattle.seg_store.proofs.Stores.{either, same_leaves, lock_leaves}
use Rattle.seg_store.proofs.plain.PlainStore.lock_first.Goals as goal

pub invariant_of-self : goal.invariant_of-self
invariant_of-self c = record {
  sound = either _ c.lock.result c.lock.ensures.ok c.lock.ensures.err
      (λ e. (lock_leaves _ _ _ c.args.self.now.sound c.requires.segment c.index_mut.result.now c.lock.new.self
      c.index_mut.ensures.value c.args.a.0 c.in_ok-now-in-Some.now
      (sym c.committed.ensures.entry ∙ ap option_copied c.in-Some.is ∙ sym (search rules)) c.requires.free e).sound)
      (λ e. (same_leaves _ _ _ c.args.self.now.sound c.requires.segment c.index_mut.result.now c.lock.new.self
      c.index_mut.ensures.value e).sound);
}

pub returns-clause-ok : goal.returns-clause-ok
returns-clause-ok c = (lock_leaves _ _ _ c.args.self.now.sound c.requires.segment c.index_mut.result.now
    c.lock.new.self c.index_mut.ensures.value c.args.a.0 c.in_ok-now-in-Some.now
    (sym c.committed.ensures.entry ∙ ap option_copied c.in-Some.is ∙ sym (search rules)) c.requires.free
    (search rules)).means
