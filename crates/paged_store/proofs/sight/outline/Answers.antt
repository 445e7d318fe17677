use Rattle.std.proofs.Common.{◌∙◌}
use Rattle.paged_store.proofs.RecordWords.{kind_is}
use Rattle.paged_store.proofs.ReadLemmas.{length_read, no_values_counted, values_counted}
use Rattle.paged_store.proofs.sight.outline.Goals as goal

pub returns-in-Str-clause-count : goal.returns-in-Str-clause-count
returns-in-Str-clause-count c =
    no_values_counted _ c.args.a c.layout-kind.result.0 (c.layout-kind.ensures.kind ∙ kind_is _ c.args.a) c.in-Str.is

pub returns-in_default-clause-count : goal.returns-in_default-clause-count
returns-in_default-clause-count c =
    values_counted _ c.args.a _ c.layout-kind.result.0 (c.layout-kind.ensures.kind ∙ kind_is _ c.args.a)
    c.in_default.not-Str (c.layout-kind.ensures.count ∙ length_read _ c.args.a)
