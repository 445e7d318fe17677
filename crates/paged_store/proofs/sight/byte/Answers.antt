use Rattle.std.proofs.Common.{◌+◌, ◌/◌, ◌%◌, ◌<◌, ◌∙◌, ap, get_or, arith}
use Rattle.page_table.specs.Lists.{table_of}
use Rattle.paged_store.proofs.ReadLemmas.{byte_within, byte_there}
use Rattle.paged_store.proofs.sight.byte.Goals as goal

within : (c : goal.After-body) → c.body.result + c.args.i / 8 < (table_of c.args.pages.now).reserved
within c = omega (arith, c.body.ensures, byte_within _ _ c.args.a c.args.i c.requires.there.stands c.requires.place)

pub overflow_cast-body : goal.overflow_cast-body
overflow_cast-body c = omega (arith, within c)

pub overflow_add-body : goal.overflow_add-body
overflow_add-body c = omega (arith, within c)

pub word-requires-clause-place : goal.word-requires-clause-place
word-requires-clause-place c = within c

pub returns : goal.returns
returns c = ap (λ z. get_or z (c.args.i % 8) 0) c.to_le_bytes-bytes.ensures ∙
    byte_there _ _ c.args.a c.body.result c.args.i c.word.result c.requires.there.stands c.requires.place
    c.body.ensures
    c.word.ensures
