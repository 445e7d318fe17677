use Rattle.paged_store.proofs.TextLemmas.{is_text}
use Rattle.paged_store.proofs.find.same_address.Goals as goal

pub same_bytes-requires-clause-first : goal.same_bytes-requires-clause-first
same_bytes-requires-clause-first c =
    is_text _ _ c.args.a _ _ _ c.requires.first c.layout-kind.ensures.kind c.in-Str-Str.is-0
    c.layout-kind.ensures.count c.layout-kind.ensures.body

pub same_bytes-requires-clause-second : goal.same_bytes-requires-clause-second
same_bytes-requires-clause-second c =
    is_text _ _ c.args.b _ _ _ c.requires.second c.layout-other.ensures.kind c.in-Str-Str.is-1
    c.layout-other.ensures.count c.layout-other.ensures.body
