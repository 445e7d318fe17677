use Rattle.std.proofs.Common.{◌≡◌, rules, ◌∙◌, ap}
use Rattle.std.proofs.lemmas.List.Sorted.{answers_always}
use Rattle.obj_methods.specs.Sorting.{in_order, number_in, number_less}
use Rattle.obj_methods.proofs.InOrder.{sorted_is}
use Rattle.obj_methods.proofs.SortedBy.{numbers_rank, if_ok_as}
use Rattle.obj_methods.proofs.sorting.sort_numbers.Goals as goal

pub returns : goal.returns
returns c =
    let key = answers_always _ (λ a r. r ≡ number_in a.0.now) _ (λ f a r f1 q. search rules) in
    if_ok_as _ _ _ (c.as_slice.ensures.value ∙
    (sorted_is number_less numbers_rank _ _ (c.in_ok-sort_by_key.ensures.sorted number_in key)
    (c.in_ok-sort_by_key.ensures.stable number_in key) ∙ ap (in_order number_less) c.in_ok-all.ensures.items))
    c.from_slice-2.ensures
