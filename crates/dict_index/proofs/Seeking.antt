-- What a search by the index finds.
use Rattle.std.proofs.Common.{◌≡◌, ◌≢◌, ◌⊎◌, inl, inr, ℕ, ◌+◌, ◌-◌, ◌*◌, ◌/◌, ◌<◌, ◌≤◌, true, false, List, length, Some, None, sym, ap, ◌∙◌, subst, arith, below_more}
use Rattle.std.proofs.lemmas.Bool.{cases_Bool}
use Rattle.std.proofs.lemmas.Bool.Decides.{leb_tells, eqb_tells}
use Rattle.py_data.specs.declared.value.Value.{Value}
use Rattle.py_data.specs.Heap.{Heap, value_at}
use Rattle.py_data.specs.Shape.{same_key, find, ArePairs, KeysDiffer}
use Rattle.dict_index.specs.Keys.{class_of, home_of}
use Rattle.dict_index.specs.Slots.{slot}
use Rattle.dict_index.specs.Index.{Stands, IsIndex}
use Rattle.dict_index.specs.Seeking.{Passed, IsOver}
use Rattle.dict_index.proofs.Classes.{same_class}
use Rattle.dict_index.proofs.Pairs.{finds_none, finds_one}

pub none_passed : (h : Heap) (vs : List Value) (key : Value) (n : ℕ) (w : ℕ → ℕ) (start : ℕ) →
    Passed h vs key n w start 0
none_passed h vs key n w start = record { filled = λ e l. absurd (omega arith); differ = λ e l. absurd (omega arith) }

-- a turn that goes on: the word isn't empty, and the key of its pair isn't equal
pub one_passed : (h : Heap) (vs : List Value) (key : Value) (n : ℕ) (w : ℕ → ℕ) (start d : ℕ) →
    Passed h vs key n w start d → w (slot n start d) ≢ 0 →
    same_key h (value_at vs (2 * (w (slot n start d) - 1))) key ≡ false → Passed h vs key n w start (d + 1)
one_passed h vs key n w start d p f e = record {
  filled = below_more _ d p.filled f;
  differ = below_more _ d p.differ e;
}

split_le : (a b : ℕ) → a ≤ b → (a < b) ⊎ (a ≡ b)
split_le a b l = elim (eqb_tells a b) [ inl x ↦ inr x.1 | inr x ↦ inl (omega arith) ]

not_equal : (h : Heap) (vs : List Value) (key : Value) (n : ℕ) (w : ℕ → ℕ) (start d j k : ℕ) →
    Stands n w start j k → Passed h vs key n w start d → IsOver n w start d →
    same_key h (value_at vs (2 * j)) key ≡ true → ⊥
not_equal h vs key n w start d j k s p o e = elim (leb_tells d k) [
  | inr c ↦
      let g : w (slot n start k) - 1 ≡ j = omega (arith, s.here) in
      let f : same_key h (value_at vs (2 * j)) key ≡ false =
      ap (λ i. same_key h (value_at vs (2 * i)) key) (sym g) ∙ p.differ k (omega (arith, c.1)) in
      cc
  | inl c ↦ elim o [
    | inl q ↦ absurd (omega (arith, s.near, c.1))
    | inr q ↦ elim (split_le d k c.1) [
      | inl b ↦ s.behind d b q
      | inr b ↦
          let here : w (slot n start d) ≡ j + 1 = ap (λ i. w (slot n start i)) b ∙ s.here in
          absurd (omega arith)
    ]
  ]
]

-- a search that is over has met all pairs whose homes are where it began, so no key is equal
pub nowhere : (h : Heap) (vs : List Value) (key : Value) (home : ℕ → ℕ) (n : ℕ) (w : ℕ → ℕ) (start d : ℕ) →
    start ≡ home_of n (class_of h key) →
    ((j : ℕ) → j < length vs / 2 → home j ≡ home_of n (class_of h (value_at vs (2 * j)))) →
    IsIndex home n w (length vs / 2) → Passed h vs key n w start d → IsOver n w start d → None ≡ find h vs key
nowhere h vs key home n w start d e homes x p o =
    sym (finds_none h 0 vs key (λ j l. elim (cases_Bool (same_key h (value_at vs (2 * j)) key)) [
      | inl t ↦
          let jl : j < length vs / 2 = omega arith in
          let q = x.each j jl in
          let same : home j ≡ start = homes j jl ∙ ap (home_of n) (same_class h _ key t) ∙ sym e in
          absurd (not_equal h vs key n w start d j q.0 (subst (λ a. Stands n w a j q.0) same q.1) p o t)
      | inr f ↦ f
    ]))

-- a pair whose key is equal is the one
pub here : (h : Heap) (vs : List Value) (key : Value) (j : ℕ) → ArePairs h vs → KeysDiffer h vs →
    2 * j + 1 < length vs → same_key h (value_at vs (2 * j)) key ≡ true → Some j ≡ find h vs key
here h vs key j p d l e = sym (finds_one h 0 vs key j p d l e ∙ ap Some (omega arith))

-- a word that isn't empty is the number of a pair
pub in_pairs : (home : ℕ → ℕ) (n : ℕ) (w : ℕ → ℕ) (m s : ℕ) → IsIndex home n w m → s < n → w s ≢ 0 → w s - 1 < m
in_pairs home n w m s x l f = let a : w s ≤ m = x.only s l in omega arith
