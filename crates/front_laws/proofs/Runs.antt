-- The longest run of a class at the front of a text, and what follows it.
use Rattle.std.proofs.Common.{◌≡◌, ℕ, suc, ◌+◌, ◌-◌, ◌≤◌, Bool, true, false, cond, List, [], ◌∷◌, ◌++◌, length, take, drop, refl, sym, ap, ◌∙◌, subst, arith}
use Rattle.std.proofs.lemmas.List.{length-drop, take-append-drop}
use Rattle.py_tokens.specs.declared.character.Character.{Character}
use Rattle.py_tokens.specs.declared.class.Class.{Class}
use Rattle.py_tokens.specs.Classes.{in_class, next_is, run_len, run, after}
use Rattle.front_laws.specs.Spells.{Is, Each}

one_more : (n : ℕ) → 1 + n ≡ suc n
one_more n = omega arith

run_len_more : (k : Class) (c : Character) (cs : List Character) → Is k c → run_len k (c ∷ cs) ≡ suc (run_len k cs)
run_len_more k c cs e = ap (λ b. cond b (1 + run_len k cs) 0) e ∙ one_more (run_len k cs)

run_len_none : (k : Class) (cs : List Character) → next_is k cs ≡ false → run_len k cs ≡ 0
run_len_none k [] e = refl
run_len_none k (c ∷ cs) e = ap (λ b. cond b (1 + run_len k cs) 0) e

-- ---- what follows

pub after_more : (k : Class) (c : Character) (cs : List Character) → Is k c → after k (c ∷ cs) ≡ after k cs
after_more k c cs e = ap (λ n. drop n (c ∷ cs)) (run_len_more k c cs e)

pub after_none : (k : Class) (cs : List Character) → next_is k cs ≡ false → after k cs ≡ cs
after_none k cs e = ap (λ n. drop n cs) (run_len_none k cs e)

pub after_each : (k : Class) (xs rest : List Character) → Each k xs → after k (xs ++ rest) ≡ after k rest
after_each k [] rest e = refl
after_each k (x ∷ xs) rest e = after_more k x (xs ++ rest) e.0 ∙ after_each k xs rest e.1

pub after_shorter : (k : Class) (cs : List Character) → length (after k cs) ≤ length cs
after_shorter k cs = let n : length (after k cs) ≡ length cs - run_len k cs = length-drop (run_len k cs) cs in
    omega (arith, n)

after_cases : (k : Class) (c : Character) (cs : List Character) (b : Bool) → in_class k c ≡ b →
    next_is k (after k cs) ≡ false →
    next_is k (after k (c ∷ cs)) ≡ false
after_cases k c cs true e h = ap (next_is k) (after_more k c cs e) ∙ h
after_cases k c cs false e h = ap (next_is k) (after_none k (c ∷ cs) e) ∙ e

-- the run is as long as it can be
pub after_stops : (k : Class) (cs : List Character) → next_is k (after k cs) ≡ false
after_stops k [] = refl
after_stops k (c ∷ cs) = after_cases k c cs (in_class k c) refl (after_stops k cs)

-- ---- the run

pub run_more : (k : Class) (c : Character) (cs : List Character) → Is k c → run k (c ∷ cs) ≡ c ∷ run k cs
run_more k c cs e = ap (λ n. take n (c ∷ cs)) (run_len_more k c cs e)

pub run_none : (k : Class) (cs : List Character) → next_is k cs ≡ false → run k cs ≡ []
run_none k cs e = ap (λ n. take n cs) (run_len_none k cs e)

pub run_each : (k : Class) (xs rest : List Character) → Each k xs → next_is k rest ≡ false → run k (xs ++ rest) ≡ xs
run_each k [] rest e stop = run_none k rest stop
run_each k (x ∷ xs) rest e stop = run_more k x (xs ++ rest) e.0 ∙ ap (λ ys. x ∷ ys) (run_each k xs rest e.1 stop)

pub run_splits : (k : Class) (cs : List Character) → run k cs ++ after k cs ≡ cs
run_splits k cs = take-append-drop (run_len k cs) cs

each_cases : (k : Class) (c : Character) (cs : List Character) (b : Bool) → in_class k c ≡ b → Each k (run k cs) →
    Each k (run k (c ∷ cs))
each_cases k c cs true e h = subst (Each k) (sym (run_more k c cs e)) (e, h)
each_cases k c cs false e h = subst (Each k) (sym (run_none k (c ∷ cs) e)) tt

pub each_run : (k : Class) (cs : List Character) → Each k (run k cs)
each_run k [] = tt
each_run k (c ∷ cs) = each_cases k c cs (in_class k c) refl (each_run k cs)
