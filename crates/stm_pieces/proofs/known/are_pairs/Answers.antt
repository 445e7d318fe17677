use Rattle.std.proofs.Common.{arith, ◌%◌, inl, inr, nat_eq, length}
use Rattle.std.proofs.lemmas.Bool.{cases_Bool, both_ways, eqb-false, eqb-true}
use Rattle.stm_pieces.proofs.Pairs.{check_next, check_stops, check_even, check_odd}
use Rattle.stm_pieces.proofs.known.are_pairs.Goals as goal

pub loop-n-preserved : goal.loop-n-preserved
loop-n-preserved g c = check_next (g.R.Records.records c.args.heap.now) c.args.values.now c.loop-n.n c.loop-n.invariant
    (omega arith) (c.is_key.ensures.0 c.if-not-is_key.false)

pub returns-then-not-is_key : goal.returns-then-not-is_key
returns-then-not-is_key g c = (
  λ e. cc,
  λ p. absurd (check_stops (g.R.Records.records c.args.heap.now) c.args.values.now c.loop-n.n c.loop-n.invariant
      (omega arith) (λ k. both_ways c.is_key.result c.if-not-is_key.true (c.is_key.ensures.1 k)) p),
)

pub returns : goal.returns
returns g c = (
  λ e. let even = eqb-true (length c.args.values.now % 2) 0 e in
      check_even (g.R.Records.records c.args.heap.now) c.args.values.now c.loop-n.n c.loop-n.invariant
      (omega (arith, even)),
  λ p. elim (cases_Bool (nat_eq (length c.args.values.now % 2) 0)) [
    | inl y ↦ y
    | inr n ↦ let odd = eqb-false (length c.args.values.now % 2) 0 n in
        absurd (check_odd (g.R.Records.records c.args.heap.now) c.args.values.now c.loop-n.n c.loop-n.invariant
        (omega (arith, odd)) p)
  ],
)
