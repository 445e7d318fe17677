use Rattle.std.proofs.Common.{refl, rules}
use Rattle.std.proofs.lemmas.List.{get_or-set_same, get_or-set_other, get_or_past}
use Rattle.seg_marks.proofs.SeenLemmas.{none_left, one_less}
use Rattle.seg_marks.proofs.row.clear_seen.Goals.{then-g-len, else-g-len}
use Rattle.seg_marks.proofs.row.clear_seen.Goals as goal

pub numbers-preserved : goal.numbers-preserved
numbers-preserved c = elim c.if-g-len.branch [
  | then-g-len w ↦ rw (w.bytes-is) (
    search rules,
    one_less c.numbers.i c.index.result.now c.args.seen.now.items c.numbers.bytes.items _
        (search rules) c.index.ensures c.numbers.invariant.1
        (get_or-set_same c.numbers.bytes.items c.index.result.now 0 0 (search rules))
        (λ h other. get_or-set_other c.numbers.bytes.items c.index.result.now h 0 0 other),
  )
  | else-g-len w ↦ rw (w.bytes-is) (
    c.numbers.invariant.0,
    one_less c.numbers.i c.index.result.now c.args.seen.now.items c.numbers.bytes.items _
        (search rules) c.index.ensures c.numbers.invariant.1
        (get_or_past c.numbers.bytes.items c.index.result.now 0 (search rules)) (λ h other. refl),
  )
]

pub returns-clause-zeros : goal.returns-clause-zeros
returns-clause-zeros c =
    none_left c.numbers.i c.args.seen.now.items c.numbers.bytes.items (search rules) c.numbers.invariant.1
