-- A name's number, as a loop over a table finds it.
use Rattle.std.proofs.Common.{◌≡◌, ℕ, ◌+◌, ◌<◌, true, false, List, ◌∷◌, length, drop, map, Some, if◌then◌else◌, Bor, slice_index_or, sym, ap, ◌∙◌}
use Rattle.std.specs.Str.{bytes_eq}
use Rattle.py_base.specs.Numbers.{number_beside}
use Rattle.py_base.proofs.Lists.{next_at}

-- a table's numbers and names
abbrev pub beside : List (Bor (List ℕ) × ℕ) → List (ℕ × List ℕ)
beside t = map (λ e. (e.1, e.0.now)) t

module _ (t : List (Bor (List ℕ) × ℕ)) (name : List ℕ) (i : ℕ) (d : Bor (List ℕ) × ℕ) (in_table : i < length t)
    (so_far : number_beside (beside t) name ≡ number_beside (beside (drop i t)) name) where
  here : number_beside (beside t) name ≡ number_beside (beside (slice_index_or t i d ∷ drop (i + 1) t)) name
  here = so_far ∙ ap (λ l. number_beside (beside l) name) (next_at t i d in_table)

  pub is_found : bytes_eq (slice_index_or t i d).0.now name ≡ true →
      Some (slice_index_or t i d).1 ≡ number_beside (beside t) name
  is_found e = sym (here ∙ ap (λ b. if b then Some (slice_index_or t i d).1 else number_beside
      (beside (drop (i + 1) t)) name) e)

  pub goes_on : bytes_eq (slice_index_or t i d).0.now name ≡ false →
      number_beside (beside t) name ≡ number_beside (beside (drop (i + 1) t)) name
  goes_on e = here ∙ ap (λ b. if b then Some (slice_index_or t i d).1 else number_beside (beside (drop (i + 1) t))
      name) e
