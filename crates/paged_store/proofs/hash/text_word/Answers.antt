use Rattle.std.proofs.Common.{◌+◌, ◌/◌, ◌<◌, arith}
use Rattle.page_table.specs.Lists.{table_of}
use Rattle.std.proofs.lemmas.Nat.{one_shl}
use Rattle.paged_store.proofs.ReadLemmas.{run_word}
use Rattle.paged_store.proofs.HashLemmas.{text_word_within, whole_word, last_word}
use Rattle.paged_store.proofs.hash.text_word.Goals as goal

within : (c : goal.After-known) → c.args.x + c.args.j < (table_of c.args.pages.now).reserved
within c = text_word_within _ _ c.args.a c.args.x c.args.n c.args.j c.requires.text.there.stands
    c.requires.text.kind c.requires.text.body c.requires.text.count c.requires.within

pub word_in-word-requires-clause-place : goal.word_in-word-requires-clause-place
word_in-word-requires-clause-place c = within c

pub word_in-word-requires-clause-words : goal.word_in-word-requires-clause-words
word_in-word-requires-clause-words c =
    run_word _ c.args.x ((c.args.n + 7) / 8) c.args.j c.args.words c.requires.words (omega (arith, c.requires.within))

pub returns-then-left-lt8 : goal.returns-then-left-lt8
returns-then-left-lt8 c =
    last_word _ _ c.args.a c.args.x c.args.n c.args.j c.requires.text.there.stands c.requires.text.kind
    c.requires.text.body c.requires.text.count c.requires.within c.word_in-word.result _ c.word_in-word.ensures
    (one_shl _ 64 (omega arith)) c.if-left-lt8.true

pub returns-else-left-lt8 : goal.returns-else-left-lt8
returns-else-left-lt8 c =
    whole_word _ _ c.args.a c.args.x c.args.n c.args.j c.requires.text.there.stands c.requires.text.kind
    c.requires.text.body c.requires.text.count c.requires.within c.word_in-word.result c.word_in-word.ensures
    (omega arith) (omega arith)
