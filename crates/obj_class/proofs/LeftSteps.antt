-- The levels of exceptions, for proofs of code that counts them.
use Rattle.std.proofs.Common.{arith, ◌≡◌, ℕ, zero, suc, ◌-◌, ◌<◌, Bool, Some, None, Result, MatchResult, refl, sym, subst}
use Rattle.py_data.specs.declared.record.Got.{Got}
use Rattle.py_data.specs.declared.record.Got.TheVariants.{Raise}
use Rattle.py_data.specs.declared.stop.Stop.{Stop}
use Rattle.py_data.specs.declared.stop.Stop.TheVariants.{OutOfMemory}
use Rattle.py_data.specs.Fault.{depth_fault}
use Rattle.py_data.specs.Heap.{Heap}
use Rattle.py_data.specs.Row.{Row}
use Rattle.py_data.specs.Sense.{Sense, Safe, Meets}
use Rattle.obj_nest.specs.Levels.{level_row}
use Rattle.obj_nest.proofs.LevelSteps.{some_level, no_level}
use Rattle.obj_class.specs.Telling.{TellsBy, left, told_levels}

module _ (S : Type 0) (roots : ℕ) where
  left_none : (n : ℕ) → n ≡ 0 → left {S = S} roots n ≡ None
  unfolding left
  left_none zero e = refl
  left_none (suc n) e = absurd (omega arith)

  left_some : (n : ℕ) → 0 < n → left {S = S} roots n ≡ Some (told_levels roots (n - 1))
  unfolding left
  left_some zero e = absurd (omega arith)
  left_some (suc n) e = let m : suc n - 1 ≡ n = omega arith in rw m refl

module _ {S A : Type 0} (roots : ℕ) (g : TellsBy S → Row S (Got A)) (n : ℕ) where
  one_left : 0 < n → level_row (left roots n) g ≡ g (told_levels roots (n - 1))
  one_left e = some_level g (left roots n) (told_levels roots (n - 1)) (left_some S roots n e)

  pub left_safe : 0 < n → (p : Bool) (h : Heap) → Safe p (level_row (left roots n) g) h →
      Safe p (g (told_levels roots (n - 1))) h
  left_safe e p h s = subst (λ row. Safe p row h) (one_left e) s

  pub left_done : {X : Type 0} (u : Sense S X) (v w : X) (res : Result (Got A) Stop) → 0 < n →
      Meets u (g (told_levels roots (n - 1))) v w res → Meets u (level_row (left roots n) g) v w res
  left_done u v w res e m = subst (λ row. Meets u row v w res) (sym (one_left e)) m

  pub left_deep : {X : Type 0} (u : Sense S X) → n ≡ 0 → (v : X) (res : Result (Got A) Stop) →
      MatchResult res (λ g. g ≡ Raise depth_fault) (λ e. e ≡ OutOfMemory) → Meets u (level_row (left roots n) g) v v res
  left_deep u e v res m = no_level g (left roots n) u (left_none S roots n e) v res m
