use Rattle.std.proofs.Common.{ap, ◌∙◌, arith}
use Rattle.paged_store.specs.Words.{size_of, index_class_in}
use Rattle.paged_store.proofs.HeadWords.{formed_small}
use Rattle.paged_store.proofs.IndexLemmas.{index_most, index_room}
use Rattle.paged_store.proofs.index.slots.Goals as goal

pub of-requires : goal.of-requires
of-requires c = omega (arith, c.requires.first, formed_small _ c.args.d c.requires.there.stands.formed)

pub returns-clause-room : goal.returns-clause-room
returns-clause-room c = omega (
  arith,
  index_room _ c.args.d c.requires.kind c.requires.there.stands.formed,
  c.size_of-size.ensures ∙ ap size_of (c.of.ensures.index ∙ ap index_class_in c.requires.first),
)

pub returns-clause-most : goal.returns-clause-most
returns-clause-most c = omega (
  arith,
  index_most _ c.args.d c.requires.kind c.requires.there.stands.formed,
  c.size_of-size.ensures ∙ ap size_of (c.of.ensures.index ∙ ap index_class_in c.requires.first),
)
