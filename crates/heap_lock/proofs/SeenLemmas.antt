-- What has grown from all values that a seat has seen after a give has grown from all that it had seen before.
use Rattle.std.proofs.Common.{◌≡◌, List, [], ◌∷◌, All, subst}
use Rattle.std.proofs.lemmas.List.Elements.{All-head, All-weaker}

-- the value that was given has grown from the one that was taken
pub seen_before_give : {T : Type 0} (grows : T → T → Type 0) → ((x y z : T) → grows x y → grows y z → grows x z) →
    (olds news : List T) (taken given x : T)
    → All (λ y. grows y taken) olds → grows taken given → news ≡ given ∷ [] → All (λ y. grows y x) news →
    All (λ y. grows y x) olds
seen_before_give grows along olds news taken given x later more is all =
    let last : grows given x = All-head (λ y. grows y x) given [] (subst (All (λ y. grows y x)) is all) in
    All-weaker (λ y. grows y taken) (λ y. grows y x) (λ y old. along y given x (along y taken given old more) last)
    olds later
