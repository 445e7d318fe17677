-- The levels of equality, order and texts, for proofs of code that counts them.
use Rattle.std.proofs.Common.{arith, ◌≡◌, ℕ, zero, suc, ◌-◌, ◌<◌, Bool, Some, None, Option, Result, MatchResult, refl, sym, ap, subst}
use Rattle.py_data.specs.declared.record.Got.{Got}
use Rattle.py_data.specs.declared.record.Got.TheVariants.{Raise}
use Rattle.py_data.specs.declared.stop.Stop.{Stop}
use Rattle.py_data.specs.declared.stop.Stop.TheVariants.{OutOfMemory}
use Rattle.py_data.specs.Fault.{depth_fault}
use Rattle.py_data.specs.Heap.{Heap}
use Rattle.py_data.specs.Row.{Row}
use Rattle.py_data.specs.Sense.{Sense, Safe, Meets}
use Rattle.py_data.proofs.Rows.{meets_answer}
use Rattle.obj_nest.specs.Levels.{below, level_row}
use Rattle.obj_nest.specs.Ordering.{Parts, parts_below, parts_at}

-- where a level is left, and where none is
module _ {S A U : Type 0} (g : U → Row S (Got A)) (o : Option U) where
  pub some_level : (u : U) → o ≡ Some u → level_row o g ≡ g u
  unfolding level_row
  some_level u e = ap (λ o. level_row o g) e

  pub no_level : {X : Type 0} (s : Sense S X) → o ≡ None → (v : X) (res : Result (Got A) Stop) →
      MatchResult res (λ g. g ≡ Raise depth_fault) (λ e. e ≡ OutOfMemory) → Meets s (level_row o g) v v res
  unfolding level_row
  no_level s e v res m = subst (λ o. Meets s (level_row o g) v v res) (sym e)
      (meets_answer s (Raise depth_fault) v res m)

module _ {U : Type 0} (f : Option U → U) where
  below_none : (n : ℕ) → n ≡ 0 → below f n ≡ None
  unfolding below
  below_none zero e = refl
  below_none (suc n) e = absurd (omega arith)

  below_some : (n : ℕ) → 0 < n → below f n ≡ Some (f (below f (n - 1)))
  unfolding below
  below_some zero e = absurd (omega arith)
  below_some (suc n) e = let m : suc n - 1 ≡ n = omega arith in rw m refl

module _ {S A U : Type 0} (f : Option U → U) (g : U → Row S (Got A)) (n : ℕ) where
  left : 0 < n → level_row (below f n) g ≡ g (f (below f (n - 1)))
  left e = some_level g (below f n) (f (below f (n - 1))) (below_some f n e)

  pub level_safe : 0 < n → (p : Bool) (h : Heap) → Safe p (level_row (below f n) g) h →
      Safe p (g (f (below f (n - 1)))) h
  level_safe e p h s = subst (λ row. Safe p row h) (left e) s

  pub level_done : {X : Type 0} (u : Sense S X) (v w : X) (res : Result (Got A) Stop) → 0 < n →
      Meets u (g (f (below f (n - 1)))) v w res → Meets u (level_row (below f n) g) v w res
  level_done u v w res e m = subst (λ row. Meets u row v w res) (sym (left e)) m

  pub level_deep : {X : Type 0} (u : Sense S X) → n ≡ 0 → (v : X) (res : Result (Got A) Stop) →
      MatchResult res (λ g. g ≡ Raise depth_fault) (λ e. e ≡ OutOfMemory) → Meets u (level_row (below f n) g) v v res
  level_deep u e v res m = no_level g (below f n) u (below_none f n e) v res m

-- the same of order, whose parts are compared by two rows
module _ (S : Type 0) where
  parts_none : (n : ℕ) → n ≡ 0 → parts_below {S = S} n ≡ None
  unfolding parts_below
  parts_none zero e = refl
  parts_none (suc n) e = absurd (omega arith)

  parts_some : (n : ℕ) → 0 < n → parts_below {S = S} n ≡ Some (parts_at (n - 1))
  unfolding parts_below
  parts_some zero e = absurd (omega arith)
  parts_some (suc n) e = let m : suc n - 1 ≡ n = omega arith in rw m refl

module _ {S A : Type 0} (g : Parts S → Row S (Got A)) (n : ℕ) where
  order_left : 0 < n → level_row (parts_below n) g ≡ g (parts_at (n - 1))
  order_left e = some_level g (parts_below n) (parts_at (n - 1)) (parts_some S n e)

  pub order_safe : 0 < n → (p : Bool) (h : Heap) → Safe p (level_row (parts_below n) g) h →
      Safe p (g (parts_at (n - 1))) h
  order_safe e p h s = subst (λ row. Safe p row h) (order_left e) s

  pub order_done : {X : Type 0} (u : Sense S X) (v w : X) (res : Result (Got A) Stop) → 0 < n →
      Meets u (g (parts_at (n - 1))) v w res → Meets u (level_row (parts_below n) g) v w res
  order_done u v w res e m = subst (λ row. Meets u row v w res) (sym (order_left e)) m

  pub order_deep : {X : Type 0} (u : Sense S X) → n ≡ 0 → (v : X) (res : Result (Got A) Stop) →
      MatchResult res (λ g. g ≡ Raise depth_fault) (λ e. e ≡ OutOfMemory) →
      Meets u (level_row (parts_below n) g) v v res
  order_deep u e v res m = no_level g (parts_below n) u (parts_none S n e) v res m
