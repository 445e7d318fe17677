-- The text of a workload is what stands before its number, the number, and what stands behind it.
use Rattle.std.proofs.Common.{◌≡◌, ◌∙◌, ℕ, sym, ap, List, ◌∷◌, ◌++◌, append_assoc, decimal}
use Rattle.stm_words.specs.Demo.{before, before_number, behind, behind_number, demo_of, lines}

abbrev pub front : List ℕ
front = lines before ++ before_number

abbrev pub back : List ℕ
back = behind_number ++ 10 ∷ lines behind

pub demo_is : (n : ℕ) → front ++ decimal n ++ back ≡ demo_of n
demo_is n = append_assoc front (decimal n) back
    ∙ ap (λ text. front ++ text) (sym (append_assoc (decimal n) behind_number (10 ∷ lines behind)))
