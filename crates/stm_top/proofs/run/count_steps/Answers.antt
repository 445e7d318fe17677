use Rattle.std.proofs.Common.{◌≡◌, ℕ, ◌+◌, List, Some, slice_get, take, ap, sym, ◌∙◌, arith, rules}
use Rattle.std.proofs.lemmas.List.Sums.{sum_by_more}
use Rattle.std.proofs.lemmas.Option.{slice_get_within, get_or_from_slice_get}
use Rattle.lock_run.specs.declared.turn.Turn.{Turn}
use Rattle.lock_run.specs.RunState.{steps_done}
use Rattle.stm_top.proofs.run.count_steps.Goals as goal

-- the steps of one turn more
one_more : (ts : List Turn) (i : ℕ) (t : Turn) → slice_get ts i ≡ Some t →
    steps_done (take (i + 1) ts) ≡ steps_done (take i ts) + t.steps
one_more ts i t e =
    sum_by_more (λ (x : Turn). x.steps) ts i t (slice_get_within ts i t e) ∙
    ap (λ (x : Turn). steps_done (take i ts) + x.steps) (get_or_from_slice_get ts i t t e)

pub loop-i-preserved : goal.loop-i-preserved
loop-i-preserved c =
    let e : slice_get c.args.history.now.entries c.loop-i.i ≡ Some c.in-Some.turn.now = search rules in
    let s : c.in_ok-sum-in-Some.sum ≡ c.loop-i.sum + c.in-Some.turn.now.steps = search (arith) in
    s ∙ ap (λ n. n + c.in-Some.turn.now.steps) c.loop-i.invariant ∙
    sym (one_more c.args.history.now.entries c.loop-i.i c.in-Some.turn.now e)
