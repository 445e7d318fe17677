use Rattle.std.proofs.Common.{sym, ◌∙◌}
use Rattle.paged_store.proofs.ReadLemmas.{length_read}
use Rattle.paged_store.proofs.sight.len.Goals as goal

pub returns : goal.returns
returns c = c.word.ensures ∙ sym (length_read _ c.args.a)
