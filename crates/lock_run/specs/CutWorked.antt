-- Rows that were cut in their next call, worked by hand. States `docs/HEAP.md`, "Turns and runs".
use Rattle.std.specs.Prelude.{◌≡◌, ℕ, zero, suc, Bool, true, false, eqb, List, [], ◌∷◌, take, Some, None, refl}
use Rattle.std.proofs.Common.{ap}
use Rattle.py_data.specs.declared.stop.Out.TheVariants.{Output}
use Rattle.py_data.specs.Row.{Row, Ret, Do, Read, Put, Take}
use Rattle.py_data.specs.World.{World}
use Rattle.lock_run.specs.Cut.{PartOf}

-- the input has three bytes left, and nothing was written yet
abbrev three : World
three = record { input = Some (1 ∷ 2 ∷ 3 ∷ []); ends = 0; out = []; err = []; mid = false }

-- a row writes two bytes, takes a line, looks at a record, or ends
abbrev writes : Row ℕ ℕ
writes = Do (Put Output (97 ∷ 98 ∷ [])) (λ r. Ret 0)

abbrev takes : Row ℕ ℕ
takes = Do (Take 9) (λ r. Ret 0)

abbrev looks : Row ℕ ℕ
looks = Do (Read 3) (λ r. Ret 0)

abbrev ends : Row ℕ ℕ
ends = Ret 0

nothing_was_written : PartOf writes three three
nothing_was_written = (0, refl)

one_byte_was_written : PartOf writes three (record three { out = 97 ∷ [] })
one_byte_was_written = (1, refl)

all_was_written : PartOf writes three (record three { out = 97 ∷ 98 ∷ [] })
all_was_written = (2, refl)

abbrev begins : ℕ → List ℕ → Bool
begins b [] = false
begins b (x ∷ xs) = eqb x b

-- never its second byte alone
second_first : (n : ℕ) → record three { out = 98 ∷ [] } ≡ record three { out = take n (97 ∷ 98 ∷ []) } → ⊥
second_first zero e = let q : true ≡ false = ap (λ (w : World). begins 98 w.out) e in cc
second_first (suc n) e = let q : true ≡ false = ap (λ (w : World). begins 98 w.out) e in cc

second_byte_was_not_written : PartOf writes three (record three { out = 98 ∷ [] }) → ⊥
second_byte_was_not_written h = second_first h.0 h.1

-- nor anything to the other output
other_output_was_not_told : PartOf writes three (record three { err = 97 ∷ [] }) → ⊥
other_output_was_not_told h = let q : true ≡ false = ap (λ (w : World). begins 97 w.err) h.1 in cc

two_bytes_are_gone : PartOf takes three (record three { input = Some (3 ∷ []) })
two_bytes_are_gone = (2, refl)

unknown_input_stays_unknown : PartOf takes (record three { input = None }) (record three { input = None })
unknown_input_stays_unknown = (2, refl)

look_tells_nothing : (told : World) → PartOf looks three told → told ≡ three
look_tells_nothing told e = e

end_tells_nothing : (told : World) → PartOf ends three told → told ≡ three
end_tells_nothing told e = e
