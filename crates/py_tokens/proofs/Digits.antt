-- The longest run of digits holds digits alone.
use Rattle.std.proofs.Common.{◌≡◌, ℕ, suc, ◌+◌, Bool, true, false, cond, nat_lt, List, [], ◌∷◌, length, map, take, refl, sym, ap, ◌∙◌, subst, arith}
use Rattle.std.proofs.Math.Seq.{take-length}
use Rattle.std.proofs.lemmas.Bool.{ltb-true}
use Rattle.std.specs.Char.{digit_value}
use Rattle.std.specs.Str.Parse.{AllDigits}
use Rattle.py_tokens.specs.declared.character.Character.{Character}
use Rattle.py_tokens.specs.declared.class.Base.{Base}
use Rattle.py_tokens.specs.declared.class.Base.TheVariants.{Eight}
use Rattle.py_tokens.specs.declared.class.Class.TheVariants.{Digit}
use Rattle.py_tokens.specs.Characters.{byte_of}
use Rattle.py_tokens.specs.Classes.{base_of, run_len}

run_cases : (base : Base) (c : Character) (cs : List Character) (n : ℕ) (p : Bool) →
    nat_lt (digit_value c.byte) (base_of base) ≡ p → AllDigits (base_of base) (map byte_of (take n cs)) →
    AllDigits (base_of base) (map byte_of (take (cond p (1 + n) 0) (c ∷ cs)))
run_cases base c cs n true e h =
    let more : suc n ≡ 1 + n = omega arith in
    subst (λ k. AllDigits (base_of base) (map byte_of (take k (c ∷ cs)))) more
    (ltb-true (digit_value c.byte) (base_of base) e, h)
run_cases base c cs n false e h = tt

all_digits_run : (base : Base) (cs : List Character) →
    AllDigits (base_of base) (map byte_of (take (run_len (Digit base) cs) cs))
all_digits_run base [] = tt
all_digits_run base (c ∷ cs) = run_cases base c cs (run_len (Digit base) cs)
    (nat_lt (digit_value c.byte) (base_of base)) refl (all_digits_run base cs)

pub all_digits_front : (base : Base) (cs ds : List Character) (n : ℕ) → n ≡ run_len (Digit base) cs → ds ≡ take n cs →
    AllDigits (base_of base) (map byte_of ds)
all_digits_front base cs ds n e f = subst (λ z. AllDigits (base_of base) (map byte_of z))
    (ap (λ k. take k cs) (sym e) ∙ sym f) (all_digits_run base cs)

pub all_octal : (ds : List Character) (n : ℕ) → n ≡ run_len (Digit Eight) ds → n ≡ length ds →
    AllDigits 8 (map byte_of ds)
all_octal ds n e f = all_digits_front Eight ds ds n e (sym (ap (λ k. take k ds) f ∙ take-length ds))
