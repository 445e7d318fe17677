use Rattle.std.proofs.Common.{◌≡◌, ◌+◌, [], ◌∷◌, length, sym, ap, subst, ◌∙◌, length-append}
use Rattle.py_data.specs.Closed.{IsItem}
use Rattle.py_data.specs.Every.{Every}
use Rattle.py_data.specs.Heap.{Heap}
use Rattle.py_data.proofs.EveryLemmas.{every_and}
use Rattle.obj_bench.proofs.stacking.copies.Goals as goal

pub turns-preserved : goal.turns-preserved
turns-preserved c =
    subst (λ vs. (length vs ≡ c.turns._i + 1) × ((h : Heap) → IsItem h c.args.x → Every (IsItem h) vs))
    (sym c.in_ok-push.ensures.ok) (
      length-append c.turns.values (c.args.x ∷ []) ∙ ap (λ k. k + 1) c.turns.invariant.0,
      λ h i. every_and (IsItem h) c.turns.values (c.args.x ∷ []) (c.turns.invariant.1 h i) (i, tt),
    )
