use Rattle.std.proofs.Common.{sym, ◌∙◌}
use Rattle.paged_store.proofs.RecordWords.{kind_is}
use Rattle.paged_store.proofs.sight.kind.Goals as goal

pub returns : goal.returns
returns c = c.header.ensures.kind ∙ sym (kind_is _ c.args.a)
