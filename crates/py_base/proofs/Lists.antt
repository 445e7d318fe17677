-- Parts of lists.
use Rattle.std.proofs.Common.{◌≡◌, ℕ, ◌+◌, ◌<◌, List, ◌∷◌, length, drop, get_or, sym, ap, ◌∙◌, add-one, drop-cons}

-- what is left at a place is the item there, and then what is left behind it
pub next_at : {X : Type 0} (xs : List X) (i : ℕ) (d : X) → i < length xs → drop i xs ≡ get_or xs i d ∷ drop (i + 1) xs
next_at xs i d l = rw (add-one) (drop-cons xs i d l)

-- the same, where the item has a name
pub next_item : {X : Type 0} (xs : List X) (i : ℕ) (x : X) → i < length xs → x ≡ get_or xs i x →
    drop i xs ≡ x ∷ drop (i + 1) xs
next_item xs i x l e = next_at xs i x l ∙ ap (λ z. z ∷ drop (i + 1) xs) (sym e)
