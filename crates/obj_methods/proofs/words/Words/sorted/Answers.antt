use Rattle.std.proofs.Common.{◌≡◌, rules, ◌∙◌, ap}
use Rattle.std.specs.Ordering.{is_lt}
use Rattle.std.proofs.lemmas.List.Sorted.{answers_always}
use Rattle.obj_methods.specs.Sorting.{in_order, word_less}
use Rattle.obj_methods.proofs.InOrder.{sorted_is}
use Rattle.obj_methods.proofs.SortedBy.{words_rank}
use Rattle.obj_methods.proofs.words.Words.sorted.Goals as goal

pub returns : goal.returns
returns c =
    let key = answers_always _ (λ a r. is_lt r ≡ word_less a.0.now a.1.0.now) _ (λ f a r f1 q. search rules) in
    sorted_is word_less words_rank _ _ (c.in_ok-sort_by.ensures.sorted word_less words_rank key)
    (c.in_ok-sort_by.ensures.stable word_less words_rank key) ∙ ap (in_order word_less) c.self.view_is
