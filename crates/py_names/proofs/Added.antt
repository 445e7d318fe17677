-- What is added to a list in parts.
use Rattle.std.proofs.Common.{◌≡◌, List, [], ◌++◌, ap, ◌∙◌}
use Rattle.std.proofs.lemmas.List.{append_assoc}

module _ {A : Type 0} where
  pub two : (o a b : List A) {p q : List A} → p ≡ o ++ a → q ≡ p ++ b → q ≡ o ++ (a ++ b)
  two o a b e f = f ∙ ap (λ z. z ++ b) e ∙ append_assoc o a b

  pub three : (o a b d : List A) {p q r : List A} → p ≡ o ++ a → q ≡ p ++ b → r ≡ q ++ d → r ≡ o ++ ((a ++ b) ++ d)
  three o a b d e f g = two o (a ++ b) d (two o a b e f) g

  pub four : (o a b d x : List A) {p q r s : List A} → p ≡ o ++ a → q ≡ p ++ b → r ≡ q ++ d → s ≡ r ++ x →
      s ≡ o ++ (((a ++ b) ++ d) ++ x)
  four o a b d x e f g h = two o ((a ++ b) ++ d) x (three o a b d e f g) h

  pub from_nothing : (o w : List A) {q : List A} → o ≡ [] → q ≡ o ++ w → q ≡ w
  from_nothing o w e f = f ∙ ap (λ z. z ++ w) e
