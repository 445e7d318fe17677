use Rattle.std.proofs.Common.{◌+◌, ◌/◌, ◌<◌, length, arith}
use Rattle.page_table.specs.Lists.{table_of}
use Rattle.paged_store.specs.inner.Sight.{record_seen}
use Rattle.paged_store.proofs.ReadLemmas.{byte_within, text_short, text_ends, text_within, run_word, copied_part}
use Rattle.paged_store.proofs.sight.copy_bytes.Goals as goal

-- the place of the byte that comes next is one
inside : (c : goal.In-words) →
    c.args.from + c.words.done < length (record_seen (table_of c.args.pages.now) c.args.seen c.args.a).bytes
inside c = omega (arith, c.requires.bytes, c.words-test.true, c.words.auto.out)

within : (c : goal.In-words) →
    c.body-body.result + (c.args.from + c.words.done) / 8 < (table_of c.args.pages.now).reserved
within c = omega (
  arith,
  c.body-body.ensures,
  byte_within _ _ c.args.a (c.args.from + c.words.done) c.requires.there.stands (inside c),
)

pub overflow_add-i : goal.overflow_add-i
overflow_add-i c = omega (
  arith,
  inside c,
  text_short _ c.args.a (c.args.from + c.words.done) c.requires.there.stands.formed (inside c),
)

pub overflow_add-from : goal.overflow_add-from
overflow_add-from c = omega (
  arith,
  text_ends _ c.args.a (c.args.from + length c.args.out.now) c.requires.there.stands.formed c.requires.bytes,
)

pub overflow_add-from-2 : goal.overflow_add-from-2
overflow_add-from-2 c = omega (
  arith,
  text_ends _ c.args.a (c.args.from + length c.args.out.now) c.requires.there.stands.formed c.requires.bytes,
)

pub run-words-requires-clause-span : goal.run-words-requires-clause-span
run-words-requires-clause-span c = λ h. omega (
  arith,
  c.body-body.ensures,
  text_within _ _ c.args.a (c.args.from + length c.args.out.now) c.requires.there.stands c.requires.bytes
      (omega (arith, h)),
)

pub word_in-requires-clause-place : goal.word_in-requires-clause-place
word_in-requires-clause-place c = within c

pub word_in-requires-clause-words : goal.word_in-requires-clause-words
word_in-requires-clause-words c =
    run_word _ c.body-body.result ((c.args.from + length c.args.out.now + 7) / 8) ((c.args.from + c.words.done) / 8) _
    c.run-words.ensures (omega (arith, c.words-test.true, c.words.auto.out))

pub words-preserved : goal.words-preserved
words-preserved c =
    let more = copied_part _ _ c.args.a c.body-body.result c.args.from c.words.done c.min-n.result _ c.word_in.result
    c.to_le_bytes-bytes.result c.words.out c.copy_from_slice.new.self c.requires.there.stands
    (omega (arith, c.requires.bytes, c.words.auto.out)) (omega (arith, c.min-n.ensures))
    (omega (arith, c.min-n.ensures)) c.words.invariant.copied c.body-body.ensures c.word_in.ensures
    c.to_le_bytes-bytes.ensures c.copy_from_slice.ensures.after in
    record { within = more.0; copied = more.1 }
