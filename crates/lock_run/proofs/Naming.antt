-- The names that are left.
use Rattle.std.proofs.Common.{◌≡◌, ℕ, ◌+◌, ◌*◌, ◌≤◌, ◌<◌, zero, suc, Bool, true, false, List, [], ◌∷◌, Option, Some, None, drop, slice_get, is_some, refl, sym, ap, subst, ◌∙◌, arith, IfSome, add-one}
use Rattle.py_data.specs.declared.value.Addr.{Addr}
use Rattle.py_data.specs.Collection.{places}
use Rattle.py_data.specs.Heap.{Heap}
use Rattle.lock_run.specs.PlainState.{NoName, Named}

-- the next one is taken
pub name_taken : (h : Heap) (xs : List Addr) (i : ℕ) (n : Addr) → slice_get xs i ≡ Some n → is_some (h n.0) ≡ true →
    NoName h (places (drop i xs))
name_taken h [] i n e t = cc
name_taken h (x ∷ xs) zero n e t = let q : n ≡ x = cc in subst (λ (a : Addr). is_some (h a.0) ≡ true) q t
name_taken h (x ∷ xs) (suc i) n e t = name_taken h xs i n e t

-- there is none
pub name_missing : (h : Heap) (xs : List Addr) (i : ℕ) → slice_get xs i ≡ None → NoName h (places (drop i xs))
name_missing h [] zero e = tt
name_missing h [] (suc i) e = tt
name_missing h (x ∷ xs) zero e = cc
name_missing h (x ∷ xs) (suc i) e = name_missing h xs i e

pub pair_within : (o : Option ℕ) (n m : ℕ) → IfSome o (λ i. 2 * i + 1 < n) → n ≤ m → IfSome o (λ i. 2 * i + 1 < m)
pair_within None n m h l = tt
pair_within (Some i) n m h l = omega arith

-- the next one, and those behind it
pub next_name : (xs : List Addr) (i : ℕ) (n : Addr) → slice_get xs i ≡ Some n →
    places (drop i xs) ≡ n.0 ∷ places (drop (i + 1) xs)
next_name xs i n e = next_by xs i (i + 1) n (add-one i) e
  where
    next_by : (xs : List Addr) (i j : ℕ) (n : Addr) → j ≡ suc i → slice_get xs i ≡ Some n →
        places (drop i xs) ≡ n.0 ∷ places (drop j xs)
    next_by [] i j n q e = cc
    next_by (x ∷ xs) zero j n q e = let p : x ≡ n = cc in ap (λ (a : Addr). a.0 ∷ places xs) p ∙
        ap (λ k. n.0 ∷ places (drop k (x ∷ xs))) (sym q)
    next_by (x ∷ xs) (suc i) j n q e = next_by xs i (suc i) n refl e ∙ ap (λ k. n.0 ∷ places (drop k (x ∷ xs))) (sym q)

pub named_next : (free : Bool) (xs : List Addr) (i : ℕ) (n : Addr) → free ≡ false → slice_get xs i ≡ Some n →
    Named free n.0 (places (drop i xs)) (places (drop (i + 1) xs))
named_next false xs i n f e = next_name xs i n e
named_next true xs i n f e = cc
