use Rattle.paged_store.specs.Stores.{paged_of}
use Rattle.paged_store.proofs.FineLemmas.{known_of}
use Rattle.paged_store.proofs.PeakLemmas.{used_within}
use Rattle.paged_store.proofs.store.PagedStore.is_known.Goals as goal

pub returns-clause-store : goal.returns-clause-store
returns-clause-store c = known_of (paged_of c.args.self.now) c.args.self.now.sound.fine

pub returns-clause-told : goal.returns-clause-told
returns-clause-told c = record {
  within = used_within (paged_of c.args.self.now) c.args.self.now.sound.fine;
  words = c.known.ensures.filled;
}
