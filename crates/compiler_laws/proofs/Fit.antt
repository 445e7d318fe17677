-- Which instructions may stand in the code of a body, and uses whose names are in their lists.
use Rattle.std.proofs.Common.{◌≡◌, ℕ, ◌<◌, List, Bool, true, false}
use Rattle.py_code.specs.declared.instr.Instr.{Instr}
use Rattle.py_code.specs.declared.instr.Instr.TheVariants.{Setup, LoadName, StoreName, DelName, MakeFunction, ClassBody}
use Rattle.py_templates.specs.Uses.{Use, Text, Global, Keys}

-- what may stand in the code of a body that is a class's or not: by which names have cells, and which codes are
-- classes' bodies
abbrev pub Fit : (ℕ → Type 0) → (ℕ → Bool) → Bool → Instr → Type 0
Fit ok flags z Setup = ⊥
Fit ok flags z (LoadName r) = (z ≡ true) × ok r
Fit ok flags z (StoreName r) = z ≡ true
Fit ok flags z (DelName r) = z ≡ true
Fit ok flags z (MakeFunction f d) = (0 < f) × (flags f ≡ false)
Fit ok flags z (ClassBody f) = (0 < f) × (flags f ≡ true)
Fit ok flags z _ = Unit {0}

-- uses whose names are in their lists
abbrev pub NoteOk : (List ℕ → Type 0) → (List ℕ → Type 0) → Use → Type 0
NoteOk to go (Text x) = to x
NoteOk to go (Global x) = go x
NoteOk to go (Keys c ks) = Unit {0}
