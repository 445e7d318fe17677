use Rattle.std.proofs.Common.{◌<◌, ◌≤◌, ◌∙◌, ap, subst}
use Rattle.py_data.specs.declared.record.TheConstants.{LENGTH_LIMIT}
use Rattle.obj_seq.specs.Gather.{numbers}
use Rattle.obj_seq.proofs.GatherSteps.{numbers_many, numbers_few}
use Rattle.obj_seq.proofs.gathering.all_numbers.Goals as goal

pub returns-then-n : goal.returns-then-n
returns-then-n g c = numbers_many g.V.View.sense _ _ _ _ c.in-Some.is
    (subst (λ n. LENGTH_LIMIT < n) c.count-n.ensures c.if-n.true) c.too_many.ensures

pub returns-in_ok-numbers-in-Some : goal.returns-in_ok-numbers-in-Some
returns-in_ok-numbers-in-Some g c =
    let s = c.in-Some.span in
    numbers_few g.V.View.sense _ _ _ _ c.in-Some.is (subst (λ n. n ≤ LENGTH_LIMIT) c.count-n.ensures c.if-n.false)
    (c.in_ok-numbers-in-Some.ensures ∙ ap (λ n. numbers s.start s.step n) c.count-n.ensures)
