-- A code is right where its places have shapes that fit each other: a typing gives a shape to each place that is
-- reached.
-- States `docs/LANGUAGE.md`, "Right code".
use Rattle.std.specs.Prelude.{◌≡◌, ◌≢◌, ℕ, ◌+◌, ◌<◌, ◌≤◌, ◌^◌, List, [], ◌∷◌, Option, Some, None, IsTrue, All, length, slice_get, get_or}
use Rattle.py_code.specs.declared.instr.Instr.{Instr}
use Rattle.py_code.specs.declared.instr.Instr.TheVariants.{Setup}
use Rattle.py_code.specs.Effects.{Limits, effect, Sh, Fine, Forward, after, there, target_of, goes_on}

-- the shape that a typing gives to a place, or none where the place is not reached
abbrev pub shape_at : List (Option Sh) → ℕ → Option Sh
shape_at t p = get_or t p None

-- the shape at the start of a code
abbrev pub start : Sh
start = record { height = 0; blocks = [] }

-- the places after the instruction have the shapes that it leaves
pub record Leads (k : Limits) (t : List (Option Sh)) (p : ℕ) (i : Instr) (s : Sh) : Type 0 where
  pub jump : (q : ℕ) → target_of (effect k i).flow ≡ Some q →
      (k.first ≤ q) × (shape_at t q ≡ Some (there (effect k i) s))
  pub next : IsTrue (goes_on (effect k i).flow) → shape_at t (p + 1) ≡ Some (after (effect k i) s)

-- the instruction finds what it needs at its place, and leads where its shape fits
pub record RightAt (k : Limits) (t : List (Option Sh)) (p : ℕ) (i : Instr) (s : Sh) : Type 0 where
  pub fine : Fine k i s
  pub leads : Leads k t p i s

-- a typing of a code
pub record IsTyping (k : Limits) (code : List Instr) (t : List (Option Sh)) : Type 0 where
  pub few : length code < 2 ^ 32
  pub long : length t ≡ length code
  pub starts : shape_at t 0 ≡ Some start
  pub each : (p : ℕ) (i : Instr) (s : Sh) → slice_get code p ≡ Some i → shape_at t p ≡ Some s → RightAt k t p i s

-- a code has a typing
abbrev pub IsRight : Limits → List Instr → Type 0
IsRight k code = (t : List (Option Sh)) × IsTyping k code t

-- no instruction, reached or not, names a place before the first that a jump may name
abbrev pub AllForward : Limits → List Instr → Type 0
AllForward k code = All (λ i. Forward k.first (effect k i).flow) code

-- SETUP is no instruction of this code
abbrev pub HasNoSetup : List Instr → Type 0
HasNoSetup code = (p : ℕ) → slice_get code p ≢ Some Setup

-- SETUP is the first instruction of this code, and stands nowhere else in it
abbrev pub BeginsWithSetup : List Instr → Type 0
BeginsWithSetup [] = ⊥
BeginsWithSetup (i ∷ code) = (i ≡ Setup) × HasNoSetup code
