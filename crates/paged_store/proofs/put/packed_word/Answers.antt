use Rattle.std.proofs.Common.{◌≡◌, ◌-◌, ◌*◌, take, drop, ap, ◌∙◌, arith}
use Rattle.dict_index.specs.Packed.{number_of}
use Rattle.paged_store.proofs.PackLemmas.{pack_more, pack_more_fits, pack_all}
use Rattle.paged_store.proofs.put.packed_word.Goals as goal

pub overflow_mul-word : goal.overflow_mul-word
overflow_mul-word c = omega (
  arith,
  pack_more_fits c.args.bytes.now c.bytes.i (c.bytes.i - 1) c.min-end.result
      c.bytes.word (λ k. omega (arith, c.type_inv.bytes k)) (omega arith) c.bytes.invariant.high (omega arith)
      (omega arith) c.bytes.invariant.word,
)

pub overflow_add-word : goal.overflow_add-word
overflow_add-word c = omega (
  arith,
  c.from.ensures,
  pack_more_fits c.args.bytes.now c.bytes.i (c.bytes.i - 1)
      c.min-end.result c.bytes.word (λ k. omega (arith, c.type_inv.bytes k)) (omega arith) c.bytes.invariant.high
      (omega arith) (omega arith) c.bytes.invariant.word,
)

pub bytes-preserved : goal.bytes-preserved
bytes-preserved c = record {
  low = omega arith;
  high = omega arith;
  word = pack_more c.args.bytes.now c.bytes.i (c.bytes.i - 1) c.min-end.result c.bytes.word c.from.result (omega arith)
      c.bytes.invariant.high (omega arith) c.bytes.invariant.word c.from.ensures;
}

pub returns : goal.returns
returns c =
    let e : c.bytes.i ≡ 8 * c.args.j = omega arith in
    pack_all c.args.bytes.now c.args.j c.min-end.result c.bytes.word c.requires c.min-end.ensures
    (c.bytes.invariant.word ∙ ap (λ z. number_of (take (c.min-end.result - z) (drop z c.args.bytes.now))) e)
