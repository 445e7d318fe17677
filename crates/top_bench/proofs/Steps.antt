-- The steps of the first turns, and of one more.
use Rattle.std.proofs.Common.{◌≡◌, ℕ, ◌+◌, ◌++◌, [], ◌∷◌, List, Some, slice_get, take}
use Rattle.std.proofs.Common.{append-nil, append_assoc, refl, sym, ap, ◌∙◌}
use Rattle.std.proofs.lemmas.Option.{slice_get_within, get_or_from_slice_get}
use Rattle.std.proofs.lemmas.List.{take_more}
use Rattle.lock_run.specs.declared.turn.Turn.{Turn}
use Rattle.top_bench.specs.Told.{turn_text, steps_text}

text_of_both : (xs ys : List Turn) → steps_text (xs ++ ys) ≡ steps_text xs ++ steps_text ys
text_of_both [] ys = refl
text_of_both (x ∷ xs) ys =
    ap (λ z. turn_text x ++ z) (text_of_both xs ys) ∙
    sym (append_assoc (turn_text x) (steps_text xs) (steps_text ys))

pub one_more : (ts : List Turn) (i : ℕ) (t : Turn) → slice_get ts i ≡ Some t →
    steps_text (take (i + 1) ts) ≡ steps_text (take i ts) ++ turn_text t
one_more ts i t e =
    ap steps_text (take_more ts i t (slice_get_within ts i t e)) ∙
    text_of_both (take i ts) _ ∙
    ap (λ z. steps_text (take i ts) ++ z) (append-nil _ ∙ ap turn_text (get_or_from_slice_get ts i t t e))
