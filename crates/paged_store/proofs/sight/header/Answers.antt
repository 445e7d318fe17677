use Rattle.std.proofs.Common.{arith}
use Rattle.paged_store.proofs.HeadWords.{formed_small}
use Rattle.paged_store.proofs.sight.header.Goals as goal

pub of-requires : goal.of-requires
of-requires c = omega (arith, c.word.ensures, formed_small _ c.args.a c.requires.stands.formed)
