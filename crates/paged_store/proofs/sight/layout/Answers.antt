use Rattle.std.proofs.Common.{sym, ap, ◌∙◌, arith}
use Rattle.paged_store.specs.Words.{kind_in}
use Rattle.paged_store.proofs.HeadWords.{formed_small}
use Rattle.paged_store.proofs.RecordWords.{kind_is}
use Rattle.paged_store.proofs.ReadLemmas.{length_read}
use Rattle.paged_store.proofs.sight.layout.Goals as goal

pub of-requires : goal.of-requires
of-requires c = omega (
  arith,
  c.head_words-first.ensures.first,
  formed_small _ c.args.a c.requires.stands.formed,
)

pub returns-clause-kind : goal.returns-clause-kind
returns-clause-kind c = c.of.ensures.kind ∙ ap kind_in c.head_words-first.ensures.first ∙ sym (kind_is _ c.args.a)

pub returns-clause-count : goal.returns-clause-count
returns-clause-count c = c.head_words-first.ensures.count ∙ sym (length_read _ c.args.a)
