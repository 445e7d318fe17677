use Rattle.paged_store.proofs.TextLemmas.{is_text}
use Rattle.paged_store.proofs.hash.address_hash.Goals as goal

pub text_hash-requires : goal.text_hash-requires
text_hash-requires c =
    is_text _ _ c.args.a _ _ _ c.requires c.layout-kind.ensures.kind c.in-Str.is c.layout-kind.ensures.count
    c.layout-kind.ensures.body
