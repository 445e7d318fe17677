-- What the names of a program's first roots stand for, and one more.
use Rattle.std.proofs.Common.{◌≡◌, ℕ, suc, zero, List, [], ◌∷◌, ◌++◌, length, Option, slice_get, sym, ◌∙◌, ap}
use Rattle.std.specs.Prelude.{IfSome}
use Rattle.py_code.specs.declared.instr.Constant.{Constant}
use Rattle.py_code.specs.declared.program.Program.{Program}
use Rattle.py_frames.specs.GlobalRows.{builtin_named}
use Rattle.py_frames.specs.State.{root_name}
use Rattle.py_step.specs.inner.Builtins.{AreBuiltins}

-- a list whose entries are f at their places, and f at the place behind it
one_more : {X : Type 0} (f : ℕ → X) (xs : List X) (x : X) → x ≡ f (length xs) →
    ((n : ℕ) → IfSome (slice_get xs n) (λ o. o ≡ f n)) →
    (n : ℕ) → IfSome (slice_get (xs ++ x ∷ []) n) (λ o. o ≡ f n)
one_more f [] x e h zero = e
one_more f [] x e h (suc n) = tt
one_more f (y ∷ ys) x e h zero = h zero
one_more f (y ∷ ys) x e h (suc n) = one_more (λ k. f (suc k)) ys x e (λ k. h (suc k)) n

pub more_builtins : (p : Program) (xs : List (Option Constant)) (n : ℕ) (o : Option Constant) → length xs ≡ n →
    o ≡ builtin_named p (root_name p n) → AreBuiltins p xs → AreBuiltins p (xs ++ o ∷ [])
more_builtins p xs n o k e h =
    one_more (λ n. builtin_named p (root_name p n)) xs o (e ∙ ap (λ n. builtin_named p (root_name p n)) (sym k)) h
