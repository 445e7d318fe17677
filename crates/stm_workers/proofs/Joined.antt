-- What has grown from all values that a seat has seen after a join had grown from all that it had seen before.
use Rattle.std.proofs.Common.{◌≡◌, List, ◌++◌, All, Contains, subst}
use Rattle.std.proofs.lemmas.List.Elements.{All-contains, All-contains_itself, All-weaker, Contains-append_left}

pub seen_before_join : {T : Type 0} (P : T → Type 0) (olds others news : List T) → news ≡ olds ++ others → All P news →
    All P olds
seen_before_join P olds others news is all =
    All-weaker (Contains olds) P (λ y c. All-contains P (olds ++ others) y (subst (All P) is all)
    (Contains-append_left olds others y c)) olds (All-contains_itself olds)
