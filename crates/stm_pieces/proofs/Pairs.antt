-- Pairs are looked through one after another.
use Rattle.std.proofs.Common.{◌≡◌, ℕ, ◌+◌, ◌*◌, ◌<◌, suc, List, [], ◌∷◌, length, drop, refl, sym, ap, subst, ◌∙◌, arith, length-drop}
use Rattle.std.proofs.Common.{add-one}
use Rattle.std.proofs.Math.Seq.{drop-cons}
use Rattle.py_data.specs.declared.value.Value.{Value}
use Rattle.py_data.specs.declared.value.Value.TheVariants.{Unset}
use Rattle.py_data.specs.Heap.{Heap, value_at}
use Rattle.py_data.specs.Shape.{IsKey, ArePairs}

-- before pair n: what is left decides
pub record Checking (h : Heap) (vs : List Value) (n : ℕ) : Type 0 where
  pub all : ArePairs h (drop (2 * n) vs) → ArePairs h vs
  pub rest : ArePairs h vs → ArePairs h (drop (2 * n) vs)

drop_two : (vs : List Value) (n : ℕ) → 2 * n + 1 < length vs → drop (2 * n) vs ≡ value_at vs (2 * n) ∷ value_at vs
    (2 * n + 1) ∷ drop (2 * (n + 1)) vs
drop_two vs n h =
    let two : 2 * (n + 1) ≡ suc (2 * n + 1) = omega arith in
    let one : 2 * n + 1 ≡ suc (2 * n) = add-one (2 * n) in
    drop-cons vs (2 * n) Unset (omega arith) ∙ ap (λ t. value_at vs (2 * n) ∷ t)
    (ap (λ k. drop k vs) (sym one) ∙ drop-cons vs (2 * n + 1) Unset h ∙
    ap (λ k. value_at vs (2 * n + 1) ∷ drop k vs) (sym two))

pub check_first : (h : Heap) (vs : List Value) → Checking h vs 0
check_first h vs = let e : drop (2 * 0) vs ≡ vs = refl in
    record { all = λ p. subst (ArePairs h) e p; rest = λ p. subst (ArePairs h) (sym e) p }

pub check_next : (h : Heap) (vs : List Value) (n : ℕ) → Checking h vs n → 2 * n + 1 < length vs →
    IsKey h (value_at vs (2 * n)) → Checking h vs (n + 1)
check_next h vs n c l k = record {
  all = λ p. c.all (subst (ArePairs h) (sym (drop_two vs n l)) (k, p));
  rest = λ p. let q : ArePairs h (value_at vs (2 * n) ∷ value_at vs (2 * n + 1) ∷ drop (2 * (n + 1)) vs) =
      subst (ArePairs h) (drop_two vs n l) (c.rest p) in q.1;
}

pub check_stops : (h : Heap) (vs : List Value) (n : ℕ) → Checking h vs n → 2 * n + 1 < length vs →
    (IsKey h (value_at vs (2 * n)) → ⊥) → ArePairs h vs → ⊥
check_stops h vs n c l k p = let q : ArePairs h (value_at vs (2 * n) ∷ value_at vs (2 * n + 1) ∷ drop (2 * (n + 1)) vs)
    = subst (ArePairs h) (drop_two vs n l) (c.rest p) in k q.0

none_left : (h : Heap) (xs : List Value) → length xs ≡ 0 → ArePairs h xs
none_left h [] e = tt
none_left h (x ∷ xs) e = absurd (omega (arith, e))

one_left : (h : Heap) (xs : List Value) → length xs ≡ 1 → ArePairs h xs → ⊥
one_left h [] e p = absurd (omega (arith, e))
one_left h (x ∷ []) e p = p
one_left h (x ∷ y ∷ xs) e p = absurd (omega (arith, e))

pub check_even : (h : Heap) (vs : List Value) (n : ℕ) → Checking h vs n → length vs ≡ 2 * n → ArePairs h vs
check_even h vs n c e = c.all (none_left h (drop (2 * n) vs) (omega (arith, length-drop (2 * n) vs)))

pub check_odd : (h : Heap) (vs : List Value) (n : ℕ) → Checking h vs n → length vs ≡ 2 * n + 1 → ArePairs h vs → ⊥
check_odd h vs n c e p = one_left h (drop (2 * n) vs) (omega (arith, length-drop (2 * n) vs)) (c.rest p)
