-- Changes of pairs, seen in the lists of keys and values.
use Rattle.std.proofs.Common.{◌≡◌, ℕ, zero, suc, ◌+◌, ◌*◌, ◌<◌, Bool, true, false, cond, List, [], ◌∷◌, ◌++◌, length, set, remove, refl, ap, ◌∙◌, arith, append_assoc}
use Rattle.py_data.specs.declared.value.Value.{Value}
use Rattle.obj_dict.specs.Listing.{half}
use Rattle.obj_dict.specs.PairLaws.{ArePaired, PairLaw}

pub double : (i : ℕ) → 2 * suc i ≡ suc (suc (2 * i))
double i = omega arith

pub double_more : (i : ℕ) → 2 * suc i + 1 ≡ suc (suc (2 * i + 1))
double_more i = omega arith

pairing_keys_stay : (vs : List Value) (i : ℕ) (x : Value) → half false (set vs (2 * i + 1) x) ≡ half false vs
pairing_keys_stay [] i x = ap (half false) (empty (2 * i + 1))
  where
    empty : (n : ℕ) → set [] n x ≡ []
    empty zero = refl
    empty (suc n) = refl
pairing_keys_stay (k ∷ []) zero x = refl
pairing_keys_stay (k ∷ []) (suc i) x = rw double_more refl
pairing_keys_stay (k ∷ y ∷ rest) zero x = refl
pairing_keys_stay (k ∷ y ∷ rest) (suc i) x = rw double_more (ap (λ l. k ∷ l) (pairing_keys_stay rest i x))

pairing_value_set : (vs : List Value) (i : ℕ) (x : Value) → 2 * i + 1 < length vs →
    half true (set vs (2 * i + 1) x) ≡ set (half true vs) i x
pairing_value_set [] i x h = absurd (omega arith)
pairing_value_set (k ∷ []) i x h = absurd (omega arith)
pairing_value_set (k ∷ y ∷ rest) zero x h = refl
pairing_value_set (k ∷ y ∷ rest) (suc i) x h = rw double_more (ap (λ l. y ∷ l) (pairing_value_set rest i x (omega arith)))

pairing_last : (second : Bool) (vs : List Value) (key x : Value) → ArePaired vs →
    half second (vs ++ key ∷ x ∷ []) ≡ half second vs ++ cond second x key ∷ []
pairing_last second [] key x h = refl
pairing_last second (k ∷ []) key x h = absurd h
pairing_last second (k ∷ y ∷ rest) key x h = ap (λ l. cond second y k ∷ l) (pairing_last second rest key x h)

pairing_gap_closed : (second : Bool) (vs : List Value) (k : ℕ) → 2 * k + 1 < length vs →
    half second (remove (remove vs (2 * k)) (2 * k)) ≡ remove (half second vs) k
pairing_gap_closed second [] k h = absurd (omega arith)
pairing_gap_closed second (y ∷ []) k h = absurd (omega arith)
pairing_gap_closed second (y ∷ z ∷ rest) zero h = refl
pairing_gap_closed second (y ∷ z ∷ rest) (suc k) h =
    rw double (ap (λ l. cond second z y ∷ l) (pairing_gap_closed second rest k (omega arith)))

pub pair_law_shown : PairLaw
pair_law_shown = record {
  keys_stay = λ r i x. pairing_keys_stay r.values i x;
  value_set = λ r i x h. pairing_value_set r.values i x h;
  pair_last = λ second r key x h. ap (half second) (append_assoc r.values (key ∷ []) (x ∷ [])) ∙
      pairing_last second r.values key x h;
  gap_closed = λ second r k h. pairing_gap_closed second r.values k h;
}
