-- One pair has a key, or none has.
use Rattle.std.proofs.Common.{◌≡◌, ℕ, zero, suc, ◌+◌, ◌*◌, ◌<◌, true, false, cond, List, [], ◌∷◌, length, Some, None, refl, sym, ap, ◌∙◌, subst, arith, inl, inr, add-zero}
use Rattle.std.proofs.lemmas.Bool.{cases_Bool}
use Rattle.py_data.specs.declared.value.Value.{Value}
use Rattle.py_data.specs.Heap.{Heap, value_at}
use Rattle.py_data.specs.Shape.{same_key, find_from, IsKey, ArePairs, KeysDiffer}
use Rattle.dict_index.proofs.Classes.{same_class, class_same}

two : (j : ℕ) → 2 * suc j ≡ suc (suc (2 * j))
two j = omega arith

-- the key of a later pair
pub later : (k v : Value) (rest : List Value) (j : ℕ) → value_at (k ∷ v ∷ rest) (2 * suc j) ≡ value_at rest (2 * j)
later k v rest j = ap (value_at (k ∷ v ∷ rest)) (two j)

-- a search goes on behind a key that isn't equal
behind : (h : Heap) (n : ℕ) (k : Value) (rest : List Value) (key : Value) → same_key h k key ≡ false →
    cond (same_key h k key) (Some n) (find_from h (n + 1) rest key) ≡ find_from h (n + 1) rest key
behind h n k rest key f = ap (λ b. cond b (Some n) (find_from h (n + 1) rest key)) f

-- a search that finds nothing has met no equal key
pub none_equal : (h : Heap) (n : ℕ) (vs : List Value) (key : Value) (j : ℕ) → find_from h n vs key ≡ None →
    2 * j + 1 < length vs → same_key h (value_at vs (2 * j)) key ≡ false
none_equal h n [] key j e l = absurd (omega arith)
none_equal h n (k ∷ []) key j e l = absurd (omega arith)
none_equal h n (k ∷ v ∷ rest) key zero e l = elim (cases_Bool (same_key h k key)) [
  | inl t ↦ let q : Some n ≡ None = ap (λ b. cond b (Some n) (find_from h (n + 1) rest key)) (sym t) ∙ e in cc
  | inr f ↦ f
]
none_equal h n (k ∷ v ∷ rest) key (suc j) e l = elim (cases_Bool (same_key h k key)) [
  | inl t ↦ let q : Some n ≡ None = ap (λ b. cond b (Some n) (find_from h (n + 1) rest key)) (sym t) ∙ e in cc
  | inr f ↦
      ap (λ x. same_key h x key) (later k v rest j)
      ∙ none_equal h (n + 1) rest key j (sym (behind h n k rest key f) ∙ e) (omega arith)
]

-- the other way round
pub finds_none : (h : Heap) (n : ℕ) (vs : List Value) (key : Value) →
    ((j : ℕ) → 2 * j + 1 < length vs → same_key h (value_at vs (2 * j)) key ≡ false) → find_from h n vs key ≡ None
finds_none h n [] key f = refl
finds_none h n (k ∷ []) key f = refl
finds_none h n (k ∷ v ∷ rest) key f =
    behind h n k rest key (f 0 (omega arith))
    ∙ finds_none h (n + 1) rest key
    (λ j l. sym (ap (λ x. same_key h x key) (later k v rest j)) ∙ f (suc j) (omega (arith, l)))

pub key_of : (h : Heap) (vs : List Value) (j : ℕ) → ArePairs h vs → 2 * j + 1 < length vs →
    IsKey h (value_at vs (2 * j))
key_of h [] j p l = absurd (omega arith)
key_of h (k ∷ []) j p l = absurd p
key_of h (k ∷ v ∷ rest) zero p l = p.0
key_of h (k ∷ v ∷ rest) (suc j) p l =
    subst (IsKey h) (sym (later k v rest j)) (key_of h rest j p.1 (omega arith))

-- a pair with an equal key is the first one, since no two keys are equal
pub finds_one : (h : Heap) (n : ℕ) (vs : List Value) (key : Value) (j : ℕ) → ArePairs h vs → KeysDiffer h vs →
    2 * j + 1 < length vs → same_key h (value_at vs (2 * j)) key ≡ true → find_from h n vs key ≡ Some (n + j)
finds_one h n [] key j p d l e = absurd (omega arith)
finds_one h n (k ∷ []) key j p d l e = absurd (omega arith)
finds_one h n (k ∷ v ∷ rest) key zero p d l e =
    ap (λ b. cond b (Some n) (find_from h (n + 1) rest key)) e ∙ ap Some (sym (add-zero n))
finds_one h n (k ∷ v ∷ rest) key (suc j) p d l e =
    let x = value_at rest (2 * j) in
    let there : same_key h x key ≡ true = sym (ap (λ x. same_key h x key) (later k v rest j)) ∙ e in
    let in_rest : 2 * j + 1 < length rest = omega arith in
    elim (cases_Bool (same_key h k key)) [
      | inl t ↦
          let again : same_key h x k ≡ true = class_same h x k (key_of h rest j p.1 in_rest)
          (same_class h x key there ∙ sym (same_class h k key t)) in
          let not : same_key h x k ≡ false = none_equal h 0 rest k j d.0 in_rest in
          cc
      | inr f ↦
          behind h n k rest key f ∙ finds_one h (n + 1) rest key j p.1 d.1 in_rest there ∙ ap Some (omega arith)
    ]
