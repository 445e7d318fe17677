-- One byte that was copied out of many.
use Rattle.std.proofs.Common.{◌≡◌, ℕ, ◌+◌, ◌<◌, List, [], ◌∷◌, length, take, drop, get_or, slice_get, Some, refl, sym, ap, ◌∙◌, arith}
use Rattle.std.proofs.lemmas.List.{get_or-drop, length-drop}
use Rattle.std.proofs.lemmas.Option.{slice_get-get_or}

first_of : (xs : List ℕ) → 0 < length xs → get_or (take 1 xs) 0 0 ≡ get_or xs 0 0
first_of [] h = absurd (omega arith)
first_of (x ∷ xs) h = refl

-- the one byte that was copied
pub copied_byte : (bs out : List ℕ) (k : ℕ) → k < length bs → out ≡ take 1 (drop k bs) → get_or out 0 0 ≡ get_or bs k 0
copied_byte bs out k less e =
    let some : 0 < length (drop k bs) = omega (arith, length-drop k bs) in
    let there : k + 0 ≡ k = omega arith in
    ap (λ o. get_or o 0 0) e ∙ first_of (drop k bs) some ∙ get_or-drop k bs 0 0 ∙ ap (λ i. get_or bs i 0) there

pub one_byte : (bs out : List ℕ) (k : ℕ) → k < length bs → out ≡ take 1 (drop k bs) →
    Some (get_or out 0 0) ≡ slice_get bs k
one_byte bs out k less e = ap Some (copied_byte bs out k less e) ∙ sym (slice_get-get_or bs k 0 less)
